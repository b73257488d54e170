-- Widths in words.
use Rattle.std.specs.Prelude.{◌≡◌, ℕ, zero, suc, ◌+◌, ◌<◌, ◌≤◌, List, [], ◌∷◌, ◌⊎◌, slice_index_or}
use Rattle.type_table.specs.TypeOf.{TypeOf, int, bool, param, number, end, more, tuple, struct}

-- The width of a type, and those of the members of a list, where s has the widths of structs by those of their
-- arguments, and generic k has the width ws k. A list is as wide as its members together.
abbrev mutual
  pub width_by : (ℕ → List ℕ → ℕ) → List ℕ → TypeOf → ℕ
  width_by s ws int = 1
  width_by s ws bool = 1
  width_by s ws (param k) = slice_index_or ws k 0
  width_by s ws (number v) = 0
  width_by s ws end = 0
  width_by s ws (more t ts) = width_by s ws t + width_by s ws ts
  width_by s ws (tuple ts) = width_by s ws ts
  width_by s ws (struct n ts) = s n (widths_by s ws ts)

  pub widths_by : (ℕ → List ℕ → ℕ) → List ℕ → TypeOf → List ℕ
  widths_by s ws (more t ts) = width_by s ws t ∷ widths_by s ws ts
  widths_by s ws int = []
  widths_by s ws bool = []
  widths_by s ws (param k) = []
  widths_by s ws (number v) = []
  widths_by s ws end = []
  widths_by s ws (tuple ts) = []
  widths_by s ws (struct n ts) = []

-- a struct is as wide as its fields together; in chains of at most d structs
abbrev pub struct_width : (ℕ → TypeOf) → ℕ → ℕ → List ℕ → ℕ
struct_width fields zero n vs = 0
struct_width fields (suc d) n vs = width_by (struct_width fields d) vs (fields n)

-- the width of a type in which generic k has the width ws k
unfoldable pub width : (ℕ → TypeOf) → ℕ → List ℕ → TypeOf → ℕ
width fields d ws t = width_by (struct_width fields d) ws t

-- the same number, or both of 256 and above
abbrev pub Alike : ℕ → ℕ → Type 0
Alike a b = (a ≡ b) ⊎ ((256 ≤ a) × (256 ≤ b))
