-- Units that are merged by size and then by name.
use Rattle.std.specs.Prelude.{ℕ, zero, suc, Bool, ◌+◌, ◌-◌, List, [], ◌∷◌, ◌++◌, length, map, codes, if◌then◌else◌}
use Rattle.std.specs.Ordering.{nat_cmp, ordering_then, is_gt}
use Rattle.text_order.specs.Sorted.{sorted}
use Rattle.text_order.specs.TextOrder.{text_cmp, text_at}

-- a unit: the size of its items, and its first units by the places of their names
pub record Merged : Type 0 where
  pub size : ℕ
  pub firsts : List ℕ

abbrev pub behind : List (List ℕ) → List ℕ
behind [] = []
behind (n ∷ ns) = codes "+" ++ (n ++ behind ns)

-- names with `+` between them
abbrev pub plus : List (List ℕ) → List ℕ
plus [] = []
plus (n ∷ ns) = n ++ behind ns

-- The name of a unit: the names of its first units joined with `+`. The names are in byte order, so the places are put in order.
unfoldable pub name_of : List (List ℕ) → List ℕ → List ℕ
name_of names firsts = plus (map (text_at names) (sorted firsts))

-- a list, with u behind those that it comes after
abbrev pub placed : (Merged → Merged → Bool) → Merged → List Merged → List Merged
placed after u [] = u ∷ []
placed after u (x ∷ xs) = if after u x then x ∷ placed after u xs else u ∷ x ∷ xs

-- the units, each put at its place among those that are in order
abbrev pub in_order : (Merged → Merged → Bool) → List Merged → List Merged → List Merged
in_order after us [] = us
in_order after us (x ∷ xs) = in_order after (placed after x us) xs

-- by size and then by name
abbrev pub larger : List (List ℕ) → Merged → Merged → Bool
larger names u x = is_gt (ordering_then (nat_cmp u.size x.size) (text_cmp (name_of names u.firsts) (name_of names x.firsts)))

-- by name
abbrev pub later : List (List ℕ) → Merged → Merged → Bool
later names u x = is_gt (text_cmp (name_of names u.firsts) (name_of names x.firsts))

abbrev pub joined : Merged → Merged → Merged
joined a b = record { size = a.size + b.size; firsts = a.firsts ++ b.firsts }

-- the list in which the two least of a list in order are one
abbrev pub join_least : List (List ℕ) → List Merged → List Merged
join_least names [] = []
join_least names (a ∷ []) = a ∷ []
join_least names (a ∷ b ∷ us) = placed (larger names) (joined a b) us

abbrev pub joins : List (List ℕ) → ℕ → List Merged → List Merged
joins names zero us = us
joins names (suc n) us = joins names n (join_least names us)

-- the units of a list in order, the two least made one while there are more than the limit
unfoldable pub merged : List (List ℕ) → ℕ → List Merged → List Merged
merged names limit us = joins names (length us - limit) us

-- the first units, by the places of their names
abbrev pub firsts : ℕ → List ℕ → List Merged
firsts place [] = []
firsts place (size ∷ sizes) = record { size = size; firsts = place ∷ [] } ∷ firsts (place + 1) sizes

-- the units in byte order of their names
unfoldable pub merged_units : List (List ℕ) → List ℕ → ℕ → List Merged
merged_units names sizes limit = in_order (later names) [] (merged names limit (in_order (larger names) [] (firsts 0 sizes)))
