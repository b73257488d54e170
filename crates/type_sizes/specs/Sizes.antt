-- Parts and nesting of types.
use Rattle.std.specs.Prelude.{◌≡◌, ℕ, ◌+◌, ◌-◌, ◌^◌, ◌<◌, min, max, List, length, slice_index_or}
use Rattle.type_table.specs.declared.row.Row.{Row}
use Rattle.type_table.specs.TypeOf.{TypeOf, int, bool, param, number, end, more, tuple, struct}
use Rattle.type_table.specs.Rows.{type_at}
use Rattle.type_sizes.specs.declared.measure.Size.{Size}

-- `i64`, `bool` and `()` have one part; a tuple or struct has one more than its arguments together
abbrev pub parts : TypeOf → ℕ
parts int = 1
parts bool = 1
parts (param k) = 1
parts (number v) = 0
parts end = 0
parts (more t ts) = parts ts + parts t
parts (tuple ts) = parts ts + 1
parts (struct n ts) = parts ts + 1

abbrev pub deeper : TypeOf → ℕ → ℕ
deeper end n = 0
deeper ts n = n + 1

-- `i64`, `bool` and `()` have none; a tuple or struct has one more than the most that an argument has, and 1 without arguments
abbrev pub nesting : TypeOf → ℕ
nesting int = 0
nesting bool = 0
nesting (param k) = 0
nesting (number v) = 0
nesting end = 0
nesting (more t ts) = max (nesting ts) (nesting t)
nesting (tuple ts) = deeper ts (nesting ts)
nesting (struct n ts) = nesting ts + 1

-- the size of a row's type, cut at the last value of 16 bits
pub record IsSize (rows : List Row) (r : ℕ) (size : Size) : Type 0 where
  pub counted : size.parts ≡ min (parts (type_at rows r)) (2 ^ 16 - 1)
  pub nested : size.nesting ≡ min (nesting (type_at rows r)) (2 ^ 16 - 1)

pub record AreSizes (rows : List Row) (sizes : List Size) : Type 0 where
  pub each : (r : ℕ) (x : Size) → r < length sizes → IsSize rows r (slice_index_or sizes r x)
