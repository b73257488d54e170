-- Which unit has an item.
use Rattle.std.specs.Prelude.{◌≡◌, ℕ, Bool, true, false, ◌||◌, List, slice_get, nat_eq, Option, Some, None}
use Rattle.reach.specs.Reach.{has}
use Rattle.mono_items.specs.declared.items.UnitPlan.{UnitPlan}

abbrev pub home_if : Option UnitPlan → ℕ → Bool
home_if None p = false
home_if (Some plan) p = has nat_eq p plan.home.items

-- whether the item is at home in unit number k
abbrev pub at_home : List UnitPlan → ℕ → ℕ → Bool
at_home plans k p = home_if (slice_get plans k) p

-- the item is at home in this unit and in no other
pub record IsHome (plans : List UnitPlan) (p unit : ℕ) : Type 0 where
  pub there : at_home plans unit p ≡ true
  pub alone : (k : ℕ) → at_home plans k p ≡ true → k ≡ unit

-- whether the unit has the item, at home or as a copy
abbrev pub has_item : UnitPlan → ℕ → Bool
has_item plan p = has nat_eq p plan.home.items || has nat_eq p plan.copies.items
