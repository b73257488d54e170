-- How many structs deep a type is, and which forms are there so far.
use Rattle.std.specs.Prelude.{◌≡◌, ℕ, suc, ◌<◌, List, length, ◌⊎◌, max, slice_index_or, Vec}
use Rattle.std.specs.Global.{Global}
use Rattle.type_table.specs.declared.row.Row.{Row}
use Rattle.type_table.specs.declared.decl.StructDecl.{StructDecl}
use Rattle.type_table.specs.TypeOf.{TypeOf, int, bool, param, number, end, more, tuple, struct}
use Rattle.type_table.specs.Rows.{type_at}
use Rattle.type_table.specs.Depth.{fields_of, depth_of}
use Rattle.type_widths.specs.Form.{IsForm}

-- the least d with all structs that the type names below it
abbrev pub level_of : (ℕ → ℕ) → TypeOf → ℕ
level_of depth (more t ts) = max (level_of depth t) (level_of depth ts)
level_of depth (tuple ts) = level_of depth ts
level_of depth (struct n ts) = max (suc (depth n)) (level_of depth ts)
level_of depth int = 0
level_of depth bool = 0
level_of depth (param k) = 0
level_of depth (number v) = 0
level_of depth end = 0

pub record AreLevels (rows : List Row) (structs : List StructDecl) (levels : List ℕ) : Type 0 where
  pub each : (r : ℕ) (x : ℕ) → r < length levels → slice_index_or levels r x ≡ level_of (depth_of structs) (type_at rows r)

-- a type of a level below this one, or of this one and in a row before row i
abbrev pub IsBefore : (ℕ → ℕ) → ℕ → ℕ → ℕ → TypeOf → Type 0
IsBefore depth level i r t = (level_of depth t < level) ⊎ ((level_of depth t ≡ level) × (r < i))

-- the forms of the rows before row i of this level are there
pub record AreDone (rows : List Row) (structs : List StructDecl) (level i : ℕ) (forms : List (Vec ℕ Global)) : Type 0 where
  pub count : length forms ≡ length rows
  pub each : (r : ℕ) (x : Vec ℕ Global) → r < length rows → IsBefore (depth_of structs) level i r (type_at rows r) → IsForm (fields_of rows structs) (depth_of structs) (type_at rows r) (slice_index_or forms r x).items
