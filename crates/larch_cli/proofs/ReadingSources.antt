-- Sources that are read one after the other.
use Rattle.std.proofs.Common.{◌≡◌, ◌∙◌, ℕ, ◌+◌, ◌-◌, ◌<◌, ◌≤◌, true, false, Bool, ◌&&◌, nat_le, List, [], ◌∷◌, ◌++◌, length, map, take, drop, get_or, Result, Ok, Err, refl, sym, ap, subst, arith}
use Rattle.std.specs.List.{list_all}
use Rattle.std.proofs.lemmas.List.{drop_more, drop_all, map-append, take_more}
use Rattle.lar_source.specs.declared.file.File.{File}
use Rattle.lar_typed.specs.Paths.{is_letter, is_letter_or_digit, all_letters_or_digits, is_name}
use Rattle.lar_typed.proofs.SameTypes.{and_true, both_true}
use Rattle.lar_names.specs.Sources.{module_name}
use Rattle.scripts.specs.Following.{Follows}
use Rattle.scripts.specs.Outside.{Outside}
use Rattle.scripts.proofs.Following.{follows_on, failed}
use Rattle.words.specs.Sources.{begins_word, is_in_word, is_word, is_module, is_source, are_sources}
use Rattle.build_front.specs.Parsed.{AreNamed}
use Rattle.larch_cli.specs.Commands.{fetch, gather_sources, reasons}
use Rattle.larch_cli.specs.declared.status.Status.{Status}
use Rattle.larch_cli.proofs.Following.{ends}

module _ (names : List (List ℕ)) (place : ℕ) (name : List ℕ) (below : place < length names) (is : name ≡ get_or names place name) (left : ℕ) (files : List File) where
  at_place : gather_sources left files (drop place names) ≡ gather_sources left files (name ∷ drop (place + 1) names)
  at_place = ap (gather_sources left files) (drop_more names place name below ∙ ap (λ (n : List ℕ). n ∷ drop (place + 1) names) (sym is))

  -- the source at the place was read
  pub gathers : (bytes : List ℕ) (old mid new : Outside) (result : Result (List File) Status) → Follows reasons (fetch name left) old mid (Ok bytes)
      → Follows reasons (gather_sources (left - length bytes) (files ++ record { name = name; bytes = bytes } ∷ []) (drop (place + 1) names)) mid new result → Follows reasons (gather_sources left files (drop place names)) old new result
  gathers bytes old mid new result read f = subst (λ s. Follows reasons s old new result) (sym at_place) (follows_on reasons _ _ _ _ _ _ _ read f)

  -- it could not be
  pub ungathered : (old new : Outside) (e : Status) (r : Result (List File) Status) → (x : Status) × (r ≡ Err x) × (x ≡ e) → Follows reasons (fetch name left) old new (Err e)
      → Follows reasons (gather_sources left files (drop place names)) old new r
  ungathered old new e r why read = subst (λ s. Follows reasons s old new r) (sym at_place) (failed reasons _ _ _ _ _ _ why read)

  -- and its name stands with the others
  pub named_more : (f : File) → f.name ≡ name → map (λ f. f.name) files ≡ take place names → map (λ f. f.name) (files ++ f ∷ []) ≡ take (place + 1) names
  named_more f same before =
      map-append (λ (f : File). f.name) files (f ∷ []) ∙ ap (λ ns. ns ++ f.name ∷ []) before ∙ ap (λ n. take place names ++ n ∷ []) (same ∙ is) ∙ sym (take_more names place name below)

-- all were read
pub gathered : (names : List (List ℕ)) (place left : ℕ) (files : List File) (o : Outside) → length names ≤ place → Follows reasons (gather_sources left files (drop place names)) o o (Ok files)
gathered names place left files o all = subst (λ n. Follows reasons (gather_sources left files n) o o (Ok files)) (sym (drop_all place names all)) (ends files o)

-- ---- the names of sources are names of the language, each with `.larch` after it

letters : (bs : List ℕ) → list_all is_in_word bs ≡ true → all_letters_or_digits bs ≡ true
letters [] h = refl
letters (b ∷ bs) h =
    let p = and_true (is_in_word b) (list_all is_in_word bs) h in
    both_true (is_letter_or_digit b) (all_letters_or_digits bs) (grind (arith, p.0)) (letters bs p.1)

-- a word of at most 64 bytes is a name of the language
named : (bs : List ℕ) → is_word bs ≡ true → nat_le (length bs) 64 ≡ true → is_name bs ≡ true
named [] h short = absurd (cc (h))
named (b ∷ bs) h short =
    let p = and_true (begins_word b) (list_all is_in_word bs) h in
    both_true (is_letter b) (all_letters_or_digits bs && nat_le (length bs) 63) (grind (arith, p.0)) (both_true (all_letters_or_digits bs) (nat_le (length bs) 63) (letters bs p.1) (grind (arith, short)))

module_named : (word : List ℕ) → is_source word ≡ true → is_name (module_name word) ≡ true
module_named word h =
    let module_of : List ℕ = take (length word - 6) word in
    let source = and_true _ (is_module module_of) h in
    let short = and_true _ _ source.1 in
    let word_of = and_true (is_word module_of) _ short.0 in
    named module_of word_of.0 word_of.1

all_named : (files : List File) (names : List (List ℕ)) → map (λ f. f.name) files ≡ names → list_all is_source names ≡ true → AreNamed files
all_named [] names e h = tt
all_named (f ∷ fs) names e h =
    let p = and_true (is_source f.name) (list_all is_source (map (λ f. f.name) fs)) (ap (list_all is_source) e ∙ h) in
    (module_named f.name p.0, all_named fs (map (λ f. f.name) fs) refl p.1)

pub are_named : (files : List File) (names : List (List ℕ)) → are_sources names ≡ true → map (λ f. f.name) files ≡ names → AreNamed files
are_named files names h e =
    let p = and_true _ _ h in
    let q = and_true _ (list_all is_source names) p.0 in
    all_named files names e q.1

count : (files : List File) → length (map (λ f. f.name) files) ≡ length files
count [] = refl
count (f ∷ fs) = omega (arith, count fs)

pub few : (files : List File) (names : List (List ℕ)) → are_sources names ≡ true → map (λ f. f.name) files ≡ names → length files ≤ 256
few files names h e =
    let p = and_true _ _ h in
    let q = and_true _ (list_all is_source names) p.0 in
    let r = and_true _ (nat_le (length names) 256) q.0 in
    grind (arith, r.1, count files, ap length e)
