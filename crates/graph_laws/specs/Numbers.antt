-- Numbers of 64 bits in rows and types.
use Rattle.std.specs.Prelude.{ℕ, ℤ, pos, negsuc, ◌+◌, ◌<◌, ◌^◌, List, length}
use Rattle.type_table.specs.declared.row.Row.{Row}
use Rattle.type_table.specs.declared.row.Row.TheVariants.{Number}
use Rattle.type_table.specs.TypeOf.{TypeOf, int, bool, param, number, end, more, tuple, struct}
use Rattle.type_table.specs.Rows.{row_at}

abbrev pub IsSmall : ℤ → Type 0
IsSmall (pos n) = n < 2 ^ 64
IsSmall (negsuc n) = n + 1 < 2 ^ 64

abbrev pub SmallRow : Row → Type 0
SmallRow (Number v) = IsSmall v
SmallRow _ = Unit {0}

-- each number of a row is one of 64 bits
pub record AreSmall (rows : List Row) : Type 0 where
  pub each : (i : ℕ) → i < length rows → SmallRow (row_at rows i)

-- each number in the type is
abbrev pub SmallType : TypeOf → Type 0
SmallType (number v) = IsSmall v
SmallType (more t ts) = SmallType t × SmallType ts
SmallType (tuple ts) = SmallType ts
SmallType (struct n ts) = SmallType ts
SmallType int = Unit {0}
SmallType bool = Unit {0}
SmallType (param k) = Unit {0}
SmallType end = Unit {0}
