-- The jobserver that words name, where one may have been named before them.
use Rattle.std.proofs.Common.{◌≡◌, ◌∙◌, ℕ, ◌+◌, nat_eq, Bool, true, false, not, cond, List, [], ◌∷◌, None, Some, drop, length, map, filter, unwrap_or, refl, sym, ap, codes, add_assoc}
use Rattle.std.specs.List.{last_or, slice_split, starts_with}
use Rattle.std.specs.Str.{bytes_eq}
use Rattle.std.proofs.lemmas.List.Sums.{take_while-cons}
use Rattle.make_flags.specs.Words.{Word, is_space, placed}
use Rattle.make_flags.specs.Flags.{auth, jobserver_of, names_jobserver, named_by, options_of}
use Rattle.make_flags.specs.declared.flags.Jobserver.{Jobserver}

-- the last jobserver that these options name, or else the one that was named before
abbrev pub last_named : Jobserver → List Word → Jobserver
last_named before options = unwrap_or (last_or None (map named_by (filter names_jobserver options))) before

-- the same of words, of which the options end at `--`
abbrev pub answer : Jobserver → List Word → Jobserver
answer before words = last_named before (options_of words)

last_or-default : {X : Type 0} (x d : X) (xs : List X) → unwrap_or (last_or (Some x) xs) d ≡ unwrap_or (last_or None xs) x
last_or-default x d [] = refl
last_or-default x d (y ∷ ys) = last_or-default y d ys ∙ sym (last_or-default y x ys)

last_named-cons : (before : Jobserver) (word : Word) (words : List Word) → last_named before (word ∷ words) ≡ last_named (cond (names_jobserver word) (named_by word) before) words
last_named-cons before word words =
    elim (names_jobserver word) as (λ b. unwrap_or (last_or None (map named_by (cond b (word ∷ filter names_jobserver words) (filter names_jobserver words)))) before ≡ last_named (cond b (named_by word) before) words) [
      | true ↦ last_or-default (named_by word) before (map named_by (filter names_jobserver words))
      | false ↦ refl
    ]

options_of-cons : (word : Word) (words : List Word) (b : Bool) → bytes_eq word.text (codes "--") ≡ b → options_of (word ∷ words) ≡ cond (not b) (word ∷ options_of words) []
options_of-cons word words b e = take_while-cons (λ w. not (bytes_eq w.text (codes "--"))) word words ∙ ap (λ t. cond (not t) (word ∷ options_of words) []) e

pub answer-end : (before : Jobserver) (word : Word) (words : List Word) → bytes_eq word.text (codes "--") ≡ true → answer before (word ∷ words) ≡ before
answer-end before word words e = ap (last_named before) (options_of-cons word words true e)

-- a word that is no `--`
pub answer-cons : (before : Jobserver) (word : Word) (words : List Word) → bytes_eq word.text (codes "--") ≡ false → answer before (word ∷ words) ≡ answer (cond (names_jobserver word) (named_by word) before) words
answer-cons before word words e = ap (last_named before) (options_of-cons word words false e) ∙ last_named-cons before word (options_of words)

-- what is named after a word that is no `--`
abbrev pub named_next : Jobserver → ℕ → List ℕ → Jobserver
named_next named at word = cond (starts_with nat_eq word auth) (jobserver_of (at + 17) (drop 17 word)) named

pub answer-stop : (named wanted : Jobserver) (at : ℕ) (rest word : List ℕ) (words : List (List ℕ)) → answer named (placed at (slice_split is_space rest)) ≡ wanted → slice_split is_space rest ≡ word ∷ words
    → bytes_eq word (codes "--") ≡ true → named ≡ wanted
answer-stop named wanted at rest word words so_far cut ends =
    sym (answer-end named (record { at = at; text = word }) (placed (at + length word + 1) words) ends) ∙ ap (λ ws. answer named (placed at ws)) (sym cut) ∙ so_far

pub answer-more : (named next wanted : Jobserver) (at : ℕ) (rest word : List ℕ) (words : List (List ℕ)) → answer named (placed at (slice_split is_space rest)) ≡ wanted → slice_split is_space rest ≡ word ∷ words
    → bytes_eq word (codes "--") ≡ false → next ≡ named_next named at word → answer next (placed (at + (length word + 1)) words) ≡ wanted
answer-more named next wanted at rest word words so_far cut goes_on e =
    ap (λ n. answer next (placed n words)) (sym (add_assoc at (length word) 1)) ∙ ap (λ j. answer j (placed (at + length word + 1) words)) e
    ∙ sym (answer-cons named (record { at = at; text = word }) (placed (at + length word + 1) words) goes_on) ∙ ap (λ ws. answer named (placed at ws)) (sym cut) ∙ so_far
