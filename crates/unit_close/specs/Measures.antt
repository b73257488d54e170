-- How many words values have, by the widths of the generics.
use Rattle.std.specs.Prelude.{ℕ, ◌<◌, ◌≤◌, List, length, map}
use Rattle.type_table.specs.declared.row.Row.{Row}
use Rattle.type_table.specs.declared.decl.StructDecl.{StructDecl}
use Rattle.type_table.specs.TypeOf.{TypeOf, tuple, struct}
use Rattle.type_table.specs.Rows.{type_at}
use Rattle.type_table.specs.Substitution.{Below, count}
use Rattle.type_table.specs.Depth.{fields_of, AreFalling}
use Rattle.type_widths.specs.Form.{AreForms}
use Rattle.type_widths.specs.Width.{width, widths_by, struct_width}
use Rattle.unit_input.specs.Widths.{cut}
use Rattle.closed_input.specs.Places.{first_parts}
use Rattle.unit_close.specs.declared.measure.Measure.{Measure}

-- each form is that of its row, and no struct leads back to itself
pub record IsMeasure (m : Measure) : Type 0 where
  pub falling : AreFalling m.types.now m.structs.now
  pub forms : AreForms m.types.now m.structs.now m.forms.now

-- a row with a type of at most 16 generics
pub record IsRow (rows : List Row) (r : ℕ) : Type 0 where
  pub there : r < length rows
  pub few : Below 16 (type_at rows r)

-- how many words a type has where the generics have these
abbrev pub words_at : List Row → List StructDecl → List ℕ → TypeOf → ℕ
words_at rows structs ws t = width (fields_of rows structs) 64 ws t

-- how many words each member of a list has, as they are written
abbrev pub list_widths : List Row → List StructDecl → List ℕ → TypeOf → List ℕ
list_widths rows structs ws ts = map cut (widths_by (struct_width (fields_of rows structs) 64) ws ts)

-- how many words stand before part k of a value of the type
abbrev pub words_until : List Row → List StructDecl → List ℕ → TypeOf → ℕ → ℕ
words_until rows structs ws (tuple ts) k = words_at rows structs ws (first_parts k ts)
words_until rows structs ws (struct n gs) k = words_at rows structs (list_widths rows structs ws gs) (first_parts k (fields_of rows structs n))
words_until rows structs ws _ k = 0

-- how many arguments a struct type has
abbrev pub argument_count : TypeOf → ℕ
argument_count (struct n gs) = count gs
argument_count _ = 0

-- a row with the type of a value that has parts
pub record IsPlace (rows : List Row) (r : ℕ) : Type 0 where
  pub row : IsRow rows r
  pub arguments : argument_count (type_at rows r) ≤ 16
