use Rattle.std.specs.Prelude.{◌≡◌, ℕ, ◌<◌, List, [], length, filter, Bool, false, Option, Some, None, Vec, slice_get, slice_index, nat_eq, All}
use Rattle.std.specs.Global.{Global}
use Rattle.reach.specs.Reach.{has, added}

abbrev pub row_of : Option (Vec ℕ Global) → List ℕ
row_of None = []
row_of (Some row) = row.items

abbrev pub is_free : List Bool → ℕ → Bool
is_free homeless t = is_true (slice_get homeless t)
  where
    is_true : Option Bool → Bool
    is_true None = false
    is_true (Some b) = b

-- the calls of an item that lead to items without a home
unfoldable pub free_calls : List (Vec ℕ Global) → List Bool → ℕ → List ℕ
free_calls callees homeless x = filter (is_free homeless) (row_of (slice_get callees x))

-- the items of the list are those with the mark
pub record IsMarked (mark : ℕ) (seen us : List ℕ) : Type 0 where
  pub each : (t : ℕ) → t < length seen → nat_eq (slice_index seen t) mark ≡ has nat_eq t us

-- each call leads to an item
abbrev pub InRange : List (Vec ℕ Global) → ℕ → Type 0
InRange callees n = All (λ row. All (λ t. t < n) row.items) callees

-- the free items of the row are added, with their marks
pub record Reached (homeless : List Bool) (mark : ℕ) (row old : List ℕ) (seen new : List ℕ) : Type 0 where
  pub marked : IsMarked mark seen new
  pub found : new ≡ added nat_eq old (filter (is_free homeless) row)
