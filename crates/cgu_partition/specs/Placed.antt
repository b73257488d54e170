-- What a unit is made of, by the places of its first names.
use Rattle.std.specs.Prelude.{◌≡◌, ℕ, ◌<◌, Bool, true, false, ◌&&◌, List, filter, length, slice_get, nat_eq, Option, Some, None, Vec, All}
use Rattle.std.specs.List.{IsDistinct}
use Rattle.std.specs.Global.{Global}
use Rattle.reach.specs.Reach.{has, IsFound}
use Rattle.cgu_merge.specs.declared.units.MergedUnit.{MergedUnit}
use Rattle.cgu_copies.specs.Copies.{is_free, free_calls, InRange}
use Rattle.mono_items.specs.declared.items.UnitPlan.{UnitPlan}

-- whether the owner is one of these first units
abbrev pub owner_among : List ℕ → Option ℕ → Bool
owner_among firsts None = false
owner_among firsts (Some r) = has nat_eq r firsts

abbrev pub owned_if : List ℕ → Option (Option ℕ) → Bool
owned_if firsts None = false
owned_if firsts (Some o) = owner_among firsts o

-- whether the item at the place has its home in these first units
abbrev pub owned : List (Option ℕ) → List ℕ → ℕ → Bool
owned owners firsts p = owned_if firsts (slice_get owners p)

-- the places of items in order, each once, and of each item whether it has no home, and its callees
pub record AreListed (count : ℕ) (order : List ℕ) (homeless : List Bool) (callees : List (Vec ℕ Global)) : Type 0 where
  pub order_inside : All (λ p. p < count) order
  pub order_once : IsDistinct nat_eq order
  pub order_all : (p : ℕ) → p < count → has nat_eq p order ≡ true
  pub homeless_count : length homeless ≡ count
  pub callees_count : length callees ≡ count
  pub callees_inside : InRange callees count

-- and of each item its owner
pub record ArePlaces (count : ℕ) (order : List ℕ) (owners : List (Option ℕ)) (homeless : List Bool) (callees : List (Vec ℕ Global)) (firsts : ℕ) : Type 0 where
  pub listed : AreListed count order homeless callees
  pub owners_count : length owners ≡ count
  pub owners_inside : (p r : ℕ) → slice_get owners p ≡ Some (Some r) → r < firsts

-- the plan of a unit with these items of its own
pub record IsFilled (order : List ℕ) (homeless : List Bool) (callees : List (Vec ℕ Global)) (unit : MergedUnit) (own : List ℕ) (plan : UnitPlan) : Type 0 where
  pub name : plan.name ≡ unit.name
  pub size : plan.size ≡ unit.size
  pub home : plan.home.items ≡ own
  -- what is found from the unit's own items by calls to items without a home
  pub found : List ℕ
  pub is_found : IsFound nat_eq (free_calls callees homeless) plan.home.items found
  pub copies : plan.copies.items ≡ filter (λ p. is_free homeless p && has nat_eq p found) order

-- the plans of the first n units, each with its items
pub record AreFilled (order : List ℕ) (homeless : List Bool) (callees : List (Vec ℕ Global)) (units : List MergedUnit) (homes : List (Vec ℕ Global)) (n : ℕ) (plans : List UnitPlan) : Type 0 where
  pub count : length plans ≡ n
  pub each : (k : ℕ) (u : MergedUnit) (h : Vec ℕ Global) (p : UnitPlan) → slice_get units k ≡ Some u → slice_get homes k ≡ Some h → slice_get plans k ≡ Some p → IsFilled order homeless callees u h.items p

pub record IsPlaced (order : List ℕ) (owners : List (Option ℕ)) (homeless : List Bool) (callees : List (Vec ℕ Global)) (unit : MergedUnit) (plan : UnitPlan) : Type 0 where
  pub name : plan.name ≡ unit.name
  pub size : plan.size ≡ unit.size
  pub home : plan.home.items ≡ filter (owned owners unit.firsts.items) order
  -- what is found from the unit's own items by calls to items without a home
  pub found : List ℕ
  pub is_found : IsFound nat_eq (free_calls callees homeless) plan.home.items found
  pub copies : plan.copies.items ≡ filter (λ p. is_free homeless p && has nat_eq p found) order
