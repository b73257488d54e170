-- Units by their least places, as the code holds them: `proofs/Names.antt` has that these merge as units by their names do.
use Rattle.std.specs.Prelude.{◌≡◌, ◌≢◌, ℕ, zero, suc, Bool, ◌+◌, ◌-◌, ◌<◌, List, [], ◌∷◌, ◌++◌, length, min, All, if◌then◌else◌, Vec}
use Rattle.std.specs.Ordering.{nat_cmp, ordering_then, is_gt}
use Rattle.std.specs.declared.cmp.Ordering.{Ordering}
use Rattle.std.specs.declared.cmp.Ordering.TheVariants.{Less}
use Rattle.std.specs.Global.{Global}
use Rattle.std.specs.List.{AllByRecursion}
use Rattle.text_order.specs.Sorted.{sorted}
use Rattle.text_order.specs.TextOrder.{text_cmp, text_at}
use Rattle.cgu_merge.specs.declared.units.MergedUnit.{MergedUnit}
use Rattle.cgu_merge.specs.Merging.{Merged, name_of}

-- a unit: the size of its items, the least place of its first units, and the places of all of them
pub record Ranked : Type 0 where
  pub size : ℕ
  pub least : ℕ
  pub parts : List ℕ

abbrev pub plain : Ranked → Merged
plain u = record { size = u.size; firsts = u.parts }

-- by size and then by least place
abbrev pub key_cmp : ℕ × ℕ → ℕ × ℕ → Ordering
key_cmp a b = ordering_then (nat_cmp a.0 b.0) (nat_cmp a.1 b.1)

abbrev pub key_of : Ranked → ℕ × ℕ
key_of u = (u.size, u.least)

abbrev pub ranked_larger : Ranked → Ranked → Bool
ranked_larger u x = is_gt (key_cmp (key_of u) (key_of x))

abbrev pub ranked_later : Ranked → Ranked → Bool
ranked_later u x = is_gt (nat_cmp u.least x.least)

-- a list, with u behind those that it comes after
abbrev pub ranked_placed : (Ranked → Ranked → Bool) → Ranked → List Ranked → List Ranked
ranked_placed after u [] = u ∷ []
ranked_placed after u (x ∷ xs) = if after u x then x ∷ ranked_placed after u xs else u ∷ x ∷ xs

abbrev pub ranked_joined : Ranked → Ranked → Ranked
ranked_joined a b = record { size = a.size + b.size; least = min a.least b.least; parts = a.parts ++ b.parts }

abbrev pub ranked_join : List Ranked → List Ranked
ranked_join [] = []
ranked_join (a ∷ []) = a ∷ []
ranked_join (a ∷ b ∷ us) = ranked_placed ranked_larger (ranked_joined a b) us

abbrev pub ranked_joins : ℕ → List Ranked → List Ranked
ranked_joins zero us = us
ranked_joins (suc n) us = ranked_joins n (ranked_join us)

unfoldable pub ranked_merged : ℕ → List Ranked → List Ranked
ranked_merged limit us = ranked_joins (length us - limit) us

abbrev pub ranked_firsts : ℕ → List ℕ → List Ranked
ranked_firsts place [] = []
ranked_firsts place (size ∷ sizes) = record { size = size; least = place; parts = place ∷ [] } ∷ ranked_firsts (place + 1) sizes

abbrev pub ranked_order : (Ranked → Ranked → Bool) → List Ranked → List Ranked → List Ranked
ranked_order after us [] = us
ranked_order after us (x ∷ xs) = ranked_order after (ranked_placed after x us) xs

-- entries of the maps
abbrev pub shown : (ℕ × ℕ) × Vec ℕ Global → Ranked
shown e = record { size = e.0.0; least = e.0.1; parts = e.1.items }

abbrev pub shown_by_name : ℕ × (ℕ × Vec ℕ Global) → Ranked
shown_by_name e = record { size = e.1.0; least = e.0; parts = e.1.1.items }

-- no two units of the list have one least place
abbrev pub IsApart : List Ranked → Type 0
IsApart [] = Unit {0}
IsApart (x ∷ xs) = AllByRecursion (λ y. x.least ≢ y.least) xs × IsApart xs

-- the sizes of the units, added up
abbrev pub weight : List Ranked → ℕ
weight [] = 0
weight (x ∷ xs) = x.size + weight xs

-- the two least of the old units are one in the new
pub record Stepped (old new : List Ranked) : Type 0 where
  pub apart : IsApart new
  pub sum : weight new ≡ weight old
  pub step : new ≡ ranked_join old

-- each place of each unit is below n
abbrev pub AreInside : ℕ → List Ranked → Type 0
AreInside n us = AllByRecursion (λ u. All (λ p. p < n) u.parts) us

-- a unit with its name
pub record Named : Type 0 where
  pub name : List ℕ
  pub size : ℕ
  pub firsts : List ℕ

abbrev pub finished : List (List ℕ) → Merged → Named
finished names u = record { name = name_of names u.firsts; size = u.size; firsts = sorted u.firsts }

abbrev pub named_view : MergedUnit → Named
named_view u = record { name = u.name; size = u.size; firsts = u.firsts.items }

-- Names of first units: they rise in byte order, and each byte stands above `+`.
pub record AreNames (names : List (List ℕ)) : Type 0 where
  pub rise : (i j : ℕ) → i < j → j < length names → text_cmp (text_at names i) (text_at names j) ≡ Less
  pub above : AllByRecursion (λ n. AllByRecursion (λ c. 43 < c) n) names
