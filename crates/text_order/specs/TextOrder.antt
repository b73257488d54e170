-- Texts in byte order, and their places.
use Rattle.std.specs.Prelude.{◌≡◌, ℕ, ◌+◌, ◌<◌, List, [], ◌∷◌, map, length, slice_index_or, Option, Some}
use denote.Ref.{Bor}
use Rattle.std.specs.Ordering.{nat_cmp}
use Rattle.std.specs.declared.cmp.Ordering.{Ordering}
use Rattle.std.specs.Cmp.Lexicographic.{slice_cmp}
use Rattle.std.specs.BTreeMap.{BTreeMap, get_by, insert_entry}

-- byte order
abbrev pub text_cmp : List ℕ → List ℕ → Ordering
text_cmp = slice_cmp nat_cmp

-- the texts from number n on are put at their places among the entries, which are texts with their numbers; the later of equal
-- texts stays
abbrev pub ordered : ℕ → List (List ℕ × ℕ) → List (List ℕ) → List (List ℕ × ℕ)
ordered n es [] = es
ordered n es (t ∷ ts) = ordered (n + 1) (insert_entry text_cmp es t n) ts

-- the places of the texts, in byte order of the texts
unfoldable pub text_order : List (List ℕ) → List ℕ
text_order ts = map (λ e. e.1) (ordered 0 [] ts)

abbrev pub text_at : List (List ℕ) → ℕ → List ℕ
text_at ts k = slice_index_or ts k []

-- no two of the texts are one
pub record AreApart (ts : List (List ℕ)) : Type 0 where
  pub each : (i j : ℕ) → i < length ts → j < length ts → text_at ts i ≡ text_at ts j → i ≡ j

abbrev pub entry_view : Bor (List ℕ) × ℕ → List ℕ × ℕ
entry_view e = (e.0.now, e.1)

-- what the index has at a text
abbrev pub place_in : BTreeMap (Bor (List ℕ)) ℕ → List ℕ → Option ℕ
place_in index q = get_by (λ k. text_cmp q k.now) index

-- the index has a place of each text, and no other
pub record IsIndex (ts : List (List ℕ)) (index : BTreeMap (Bor (List ℕ)) ℕ) : Type 0 where
  pub is : (q : List ℕ) (r : ℕ) → place_in index q ≡ Some r → (r < length ts) × (text_at ts r ≡ q)
  pub has : (k : ℕ) → k < length ts → (r : ℕ) × (place_in index (text_at ts k) ≡ Some r)
