-- The lengths of the texts of rows.
use Rattle.std.specs.Prelude.{◌≡◌, ℕ, ◌<◌, ◌-◌, ◌^◌, min, List, length, slice_index_or}
use Rattle.type_table.specs.declared.row.Row.{Row}
use Rattle.type_table.specs.declared.decl.StructDecl.{StructDecl}
use Rattle.type_table.specs.Rows.{type_at}
use Rattle.type_sizes.specs.Spelling.{text_of}

-- the length of each row's text, cut at the last value of 64 bits
pub record AreLengths (rows : List Row) (structs : List StructDecl) (generics : List (List ℕ)) (lengths : List ℕ) : Type 0 where
  pub each : (r : ℕ) (x : ℕ) → r < length lengths → slice_index_or lengths r x ≡ min (length (text_of structs generics (type_at rows r))) (2 ^ 64 - 1)
