-- Widths as linear forms of the widths of the generics.
use Rattle.std.specs.Prelude.{◌≡◌, ℕ, ◌+◌, ◌*◌, ◌<◌, List, [], ◌∷◌, ◌⊎◌, length, slice_index_or, Vec}
use Rattle.std.specs.Global.{Global}
use Rattle.type_table.specs.declared.row.Row.{Row}
use Rattle.type_table.specs.declared.decl.StructDecl.{StructDecl}
use Rattle.type_table.specs.TypeOf.{TypeOf}
use Rattle.type_table.specs.Rows.{type_at}
use Rattle.type_table.specs.Substitution.{Below}
use Rattle.type_table.specs.Depth.{Under, fields_of, depth_of}
use Rattle.type_widths.specs.Width.{width, struct_width, widths_by, Alike}

-- the sum of the products
abbrev pub dot : List ℕ → List ℕ → ℕ
dot [] ws = 0
dot (k ∷ ks) [] = 0
dot (k ∷ ks) (w ∷ ws) = k * w + dot ks ws

-- The form of a type: the constant, and a factor for each of 16 generics. Its value is as wide as the type is, where chains of d
-- structs are long enough for the type.
pub record IsForm (fields : ℕ → TypeOf) (depth : ℕ → ℕ) (t : TypeOf) (form : List ℕ) : Type 0 where
  pub size : length form ≡ 17
  pub each : (d : ℕ) (ws : List ℕ) → Below 16 t → Under depth d t → Alike (dot form (1 ∷ ws)) (width fields d ws t)

-- the form of what these factors give for the members of a list
pub record IsSum (fields : ℕ → TypeOf) (depth : ℕ → ℕ) (factors : List ℕ) (ts : TypeOf) (form : List ℕ) : Type 0 where
  pub size : length form ≡ 17
  pub each : (d : ℕ) (ws : List ℕ) → Below 16 ts → Under depth d ts → Alike (dot form (1 ∷ ws)) (dot factors (widths_by (struct_width fields d) ws ts))

-- the form that is k times the one added to the other
pub record IsScaled (k : ℕ) (total form new : List ℕ) : Type 0 where
  pub size : length new ≡ length total
  pub each : (ws : List ℕ) → Alike (dot new ws) (dot total ws + k * dot form ws)

-- each row's form is that of its type
pub record AreForms (rows : List Row) (structs : List StructDecl) (forms : List (Vec ℕ Global)) : Type 0 where
  pub count : length forms ≡ length rows
  pub each : (r : ℕ) (x : Vec ℕ Global) → r < length rows → IsForm (fields_of rows structs) (depth_of structs) (type_at rows r) (slice_index_or forms r x).items
