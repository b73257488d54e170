-- What is skimmed is counted right where each front can be read.
use Rattle.std.proofs.Common.{◌≡◌, ℕ, ◌+◌, ◌-◌, ◌^◌, ◌≤◌, ◌<◌, nat_eq, nat_lt, Bool, true, false, cond, List, [], ◌∷◌, length, take, drop, Option, Some, None, Ok, Err, IfOk, codes, pos, refl, sym, ap, ◌∙◌, subst, arith}
use Rattle.std.specs.List.{prefix_len, starts_with}
use Rattle.std.specs.Option.{option_map_or}
use Rattle.std.proofs.lemmas.List.Folds.{length-prefix_len}
use Rattle.lar_source.specs.declared.file.Span.{Span}
use Rattle.lar_tree.specs.declared.keyword.Keyword.{Keyword}
use Rattle.lar_tree.specs.declared.sign.Sign.{Sign}
use Rattle.lar_tree.specs.declared.token.Kind.TheVariants as kinds
use Rattle.lar_tree.specs.declared.token.Token.{Token}
use Rattle.lar_tree.specs.Keyword.{keyword_of}
use Rattle.lar_tree.specs.Sign.{sign_spelling}
use Rattle.lar_lexer.specs.declared.front.Front.{Front}
use Rattle.lar_lexer.specs.declared.front.Front.TheVariants as fronts
use Rattle.lar_lexer.specs.declared.front.Fault.TheVariants as faults
use Rattle.lar_lexer.specs.Front.{begins_word, is_in_word, is_in_line, name, word_front, number_front, sign_front, sign_at, sign_or_fault, front}
use Rattle.lar_lexer.specs.ByFirst.{skimmed}
use Rattle.lar_source.specs.Diagnostic.{Diagnostic}
use Rattle.lar_lexer.specs.Lexed.{Outcome, with_front, goes_on, lexed_from}
use Rattle.lar_lexer.specs.Place.{step, walk}
use Rattle.lar_lexer.specs.Thin.{is_blank, is_digit, value_of}
use Rattle.lar_lexer.proofs.Longest.{longest_first}
use Rattle.lar_lexer.proofs.Pieces.{FrontIs, front_is}
use Rattle.lar_lexer.proofs.Turns.{gap_goes, token_goes}

-- what is skimmed of a front that can be read
abbrev Skims : Front → ℕ × Bool → Type 0
Skims (fronts.Gap n) q = q ≡ (n, false)
Skims (fronts.Token kind n) q = q ≡ (n, true)
Skims (fronts.Fault f) q = Unit {0}

number_by : (ds : List ℕ) (n : ℕ) (t : Bool) → length ds ≡ n → Skims (cond t (fronts.Token (kinds.Number (pos (value_of ds))) (length ds)) (fronts.Fault faults.NumberTooLarge)) (n, true)
number_by ds n true e = ap (λ k. (k, true)) (sym e)
number_by ds n false e = tt

name_by : (w : List ℕ) (n : ℕ) (t : Bool) → length w ≡ n → Skims (cond t (fronts.Fault faults.NameTooLong) (fronts.Token (kinds.Name w) (length w))) (n, true)
name_by w n true e = tt
name_by w n false e = ap (λ k. (k, true)) (sym e)

word_by : (w : List ℕ) (n : ℕ) (o : Option Keyword) → length w ≡ n → Skims (option_map_or (λ k. fronts.Token (kinds.Word k) (length w)) o (name w)) (n, true)
word_by w n (Some k) e = ap (λ m. (m, true)) (sym e)
word_by w n None e = name_by w n (nat_lt 64 (length w)) e

sign_by : (b : ℕ) (o : Option Sign) → Skims (option_map_or sign_front o (fronts.Fault (faults.Unexpected b))) (option_map_or (λ s. (length (sign_spelling s), true)) o (0, false))
sign_by b (Some s) = refl
sign_by b None = tt

by_tests : (b : ℕ) (bs : List ℕ) (t u v w : Bool)
    → Skims (cond t (fronts.Gap 1) (cond u (fronts.Gap (prefix_len is_in_line (b ∷ bs))) (cond v (number_front (take (prefix_len is_digit (b ∷ bs)) (b ∷ bs))) (cond w (word_front (take (prefix_len is_in_word (b ∷ bs)) (b ∷ bs))) (sign_or_fault (b ∷ bs))))))
    (cond t (1, false) (cond u (prefix_len is_in_line (b ∷ bs), false) (cond v (prefix_len is_digit (b ∷ bs), true) (cond w (prefix_len is_in_word (b ∷ bs), true) (option_map_or (λ s. (length (sign_spelling s), true)) (sign_at (b ∷ bs)) (0, false))))))
by_tests b bs true u v w = refl
by_tests b bs false true v w = refl
by_tests b bs false false true w = number_by (take (prefix_len is_digit (b ∷ bs)) (b ∷ bs)) (prefix_len is_digit (b ∷ bs)) (nat_lt (value_of (take (prefix_len is_digit (b ∷ bs)) (b ∷ bs))) (2 ^ 63)) (length-prefix_len is_digit (b ∷ bs))
by_tests b bs false false false true = word_by (take (prefix_len is_in_word (b ∷ bs)) (b ∷ bs)) (prefix_len is_in_word (b ∷ bs)) (keyword_of (take (prefix_len is_in_word (b ∷ bs)) (b ∷ bs))) (length-prefix_len is_in_word (b ∷ bs))
by_tests b bs false false false false = sign_by b (sign_at (b ∷ bs))

skims : (b : ℕ) (bs : List ℕ) → Skims (front (b ∷ bs)) (skimmed (b ∷ bs))
skims b bs = subst (λ f. Skims f (skimmed (b ∷ bs))) (sym (longest_first (b ∷ bs))) (by_tests b bs (is_blank b) (starts_with nat_eq (b ∷ bs) (codes "//")) (is_digit b) (begins_word b))

-- ---- a turn

-- The tokens from some place on are as many as those still to be counted.
abbrev pub Left : List ℕ → List ℕ → ℕ → ℕ → Type 0
Left file rest n total = (to : Span) × (more : List Token) × (lexed_from file 0 to rest ≡ Ok more) × (n + length more ≡ total)

one_less : (t : Token) (o : Outcome) (more : List Token) → with_front (t ∷ []) o ≡ Ok more → (others : List Token) × (o ≡ Ok others) × (length more ≡ 1 + length others)
one_less t (Err d) more e = absurd (cc)
one_less t (Ok others) more e =
    let same : t ∷ others ≡ more = cc in
    let len : length (t ∷ others) ≡ length more = ap (λ (l : List Token). length l) same in
    (others, refl, omega arith)

refused : (o : Outcome) (d : Diagnostic) (more : List Token) → o ≡ Err d → o ≡ Ok more → ⊥
refused o d more e h = cc

over_front : (file : List ℕ) (at : Span) (b : ℕ) (bs : List ℕ) (more : List Token) (n total len : ℕ) (t : Bool) (f : Front) → front (b ∷ bs) ≡ f → Skims f (skimmed (b ∷ bs)) → (len, t) ≡ skimmed (b ∷ bs) → 1 ≤ len → len ≤ length (b ∷ bs)
    → lexed_from file 0 at (b ∷ bs) ≡ Ok more → n + length more ≡ total → Left file (drop len (b ∷ bs)) (cond t (n + 1) n) total
over_front file at b bs more n total len t (fronts.Gap k) e s q low high h count =
    let both = q ∙ s in
    let size : len ≡ k = ap (λ (p : ℕ × Bool). p.0) both in
    let kind : t ≡ false = ap (λ (p : ℕ × Bool). p.1) both in
    let goes = gap_goes file k at (b ∷ bs) e (omega arith) (omega arith) in
    let left : Left file (drop k (b ∷ bs)) (cond false (n + 1) n) total = (walk at (take k (b ∷ bs)), more, sym goes ∙ h, count) in
    subst (λ u. Left file (drop len (b ∷ bs)) (cond u (n + 1) n) total) (sym kind) (subst (λ m. Left file (drop m (b ∷ bs)) n total) (sym size) left)
over_front file at b bs more n total len t (fronts.Token kind k) e s q low high h count =
    let both = q ∙ s in
    let size : len ≡ k = ap (λ (p : ℕ × Bool). p.0) both in
    let is : t ≡ true = ap (λ (p : ℕ × Bool). p.1) both in
    let goes = token_goes file k kind at (b ∷ bs) e (omega arith) (omega arith) in
    let others = one_less (record { kind = kind; span = at }) (lexed_from file 0 (walk at (take k (b ∷ bs))) (drop k (b ∷ bs))) more (sym goes ∙ h) in
    let fewer : length more ≡ 1 + length others.0 = others.2 in
    let left : Left file (drop k (b ∷ bs)) (n + 1) total = (walk at (take k (b ∷ bs)), others.0, others.1, omega arith) in
    subst (λ u. Left file (drop len (b ∷ bs)) (cond u (n + 1) n) total) (sym is) (subst (λ m. Left file (drop m (b ∷ bs)) (n + 1) total) (sym size) left)
over_front file at b bs more n total len t (fronts.Fault f) e s q low high h count = absurd (refused (lexed_from file 0 at (b ∷ bs)) _ more (ap (λ x. goes_on file at x (λ k. lexed_from file (k - 1) (step at b) bs)) e) h)

pub counts_on : (file rest : List ℕ) (n total len : ℕ) (t : Bool) → (len, t) ≡ skimmed rest → 1 ≤ len → len ≤ length rest → Left file rest n total → Left file (drop len rest) (cond t (n + 1) n) total
counts_on file [] n total len t q low high left = absurd (omega arith)
counts_on file (b ∷ bs) n total len t q low high (at, more, h, count) = over_front file at b bs more n total len t (front (b ∷ bs)) refl (skims b bs) q low high h count

-- ---- the end

pub all_counted : (file : List ℕ) (rest : List ℕ) (n total : ℕ) → length rest ≤ 0 → Left file rest n total → n ≡ total
all_counted file [] n total none (at, more, h, count) =
    let same : [] ≡ more = cc in
    let len : 0 ≡ length more = ap (λ (l : List Token). length l) same in
    omega arith
all_counted file (b ∷ bs) n total none left = absurd (omega arith)

-- where nothing is skimmed no front can be read
pub none_left : (file : List ℕ) (rest : List ℕ) (n total len : ℕ) (t : Bool) → (len, t) ≡ skimmed rest → len ≡ 0 → 0 < length rest → Left file rest n total → n ≡ total
none_left file [] n total len t q none some left = absurd (omega arith)
none_left file (b ∷ bs) n total len t q none some (at, more, h, count) = absurd (stopped (front (b ∷ bs)) refl (front_is b bs) (skims b bs))
  where
    stopped : (f : Front) → front (b ∷ bs) ≡ f → FrontIs (b ∷ bs) f → Skims f (skimmed (b ∷ bs)) → ⊥
    stopped (fronts.Gap k) e is s = let size : len ≡ k = ap (λ (p : ℕ × Bool). p.0) (q ∙ s) in omega (arith, is.0.some)
    stopped (fronts.Token kind k) e is s = let size : len ≡ k = ap (λ (p : ℕ × Bool). p.0) (q ∙ s) in omega (arith, is.0.some)
    stopped (fronts.Fault f) e is s = refused (lexed_from file 0 at (b ∷ bs)) _ more (ap (λ x. goes_on file at x (λ k. lexed_from file (k - 1) (step at b) bs)) e) h

pub if_counted : (o : Outcome) (n : ℕ) → ((tokens : List Token) → o ≡ Ok tokens → n ≡ length tokens) → IfOk o (λ tokens. n ≡ length tokens)
if_counted (Err d) n is = tt
if_counted (Ok tokens) n is = is tokens refl
