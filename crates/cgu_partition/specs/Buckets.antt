-- Units by number, and the first units in them.
use Rattle.std.specs.Prelude.{◌≡◌, ℕ, ◌<◌, Bool, true, false, List, filter, length, slice_get, slice_index, nat_eq, Option, Some, None, Vec}
use Rattle.std.specs.Global.{Global}
use Rattle.reach.specs.Reach.{has}
use Rattle.cgu_merge.specs.declared.units.MergedUnit.{MergedUnit}
use Rattle.cgu_partition.specs.Placed.{owned}

abbrev pub has_first : Option MergedUnit → ℕ → Bool
has_first None r = false
has_first (Some u) r = has nat_eq r u.firsts.items

-- whether unit number k has first unit r
abbrev pub unit_has : List MergedUnit → ℕ → ℕ → Bool
unit_has units k r = has_first (slice_get units k) r

-- first unit r is in unit number k and in no other
pub record IsUnitOf (units : List MergedUnit) (r k : ℕ) : Type 0 where
  pub inside : k < length units
  pub there : unit_has units k r ≡ true
  pub alone : (j : ℕ) → unit_has units j r ≡ true → j ≡ k

-- each first unit is in one unit
pub record AreShared (firsts : ℕ) (units : List MergedUnit) : Type 0 where
  pub each : (r : ℕ) → r < firsts → (k : ℕ) × IsUnitOf units r k

-- each first unit has the number of the unit that it is in
pub record AreNumbers (firsts : ℕ) (units : List MergedUnit) (numbers : List ℕ) : Type 0 where
  pub count : length numbers ≡ firsts
  pub each : (r : ℕ) → r < firsts → unit_has units (slice_index numbers r) r ≡ true

abbrev pub number_is : List ℕ → ℕ → Option ℕ → Bool
number_is numbers k None = false
number_is numbers k (Some r) = nat_eq (slice_index numbers r) k

abbrev pub number_if : List ℕ → ℕ → Option (Option ℕ) → Bool
number_if numbers k None = false
number_if numbers k (Some o) = number_is numbers k o

-- whether the item at the place has its home in unit number k
abbrev pub in_unit : List (Option ℕ) → List ℕ → ℕ → ℕ → Bool
in_unit owners numbers k p = number_if numbers k (slice_get owners p)

-- of each unit the items that have their home in it, in order
pub record AreHomes (order : List ℕ) (owners : List (Option ℕ)) (units : List MergedUnit) (homes : List (Vec ℕ Global)) : Type 0 where
  pub count : length homes ≡ length units
  pub each : (k : ℕ) (u : MergedUnit) (h : Vec ℕ Global) → slice_get units k ≡ Some u → slice_get homes k ≡ Some h → h.items ≡ filter (owned owners u.firsts.items) order

-- the rank of each item is its place in the order
pub record AreRanks (order : List ℕ) (count : ℕ) (ranks : List ℕ) : Type 0 where
  pub many : length ranks ≡ count
  pub each : (i : ℕ) → i < length order → slice_index ranks (slice_index order i) ≡ i
