-- How deep the structs are that a type names, and what structs keep: no chain of them has no end.
use Rattle.std.specs.Prelude.{◌≡◌, ℕ, ◌<◌, List, length, slice_get, slice_index_or, Option, Some, None}
use Rattle.type_table.specs.declared.row.Row.{Row}
use Rattle.type_table.specs.declared.decl.StructDecl.{StructDecl}
use Rattle.type_table.specs.TypeOf.{TypeOf, int, bool, param, number, end, more, tuple, struct}
use Rattle.type_table.specs.Rows.{type_at}
use Rattle.type_table.specs.Substitution.{Below}

-- each struct that the type names has a depth below d
abbrev pub Under : (ℕ → ℕ) → ℕ → TypeOf → Type 0
Under depth d (more t ts) = Under depth d t × Under depth d ts
Under depth d (tuple ts) = Under depth d ts
Under depth d (struct n ts) = (depth n < d) × Under depth d ts
Under depth d int = Unit {0}
Under depth d bool = Unit {0}
Under depth d (param k) = Unit {0}
Under depth d (number v) = Unit {0}
Under depth d end = Unit {0}

-- the list of a struct's fields' types; one that is not there has none
abbrev pub fields_type : List Row → Option StructDecl → TypeOf
fields_type rows None = end
fields_type rows (Some s) = type_at rows s.fields

abbrev pub fields_of : List Row → List StructDecl → ℕ → TypeOf
fields_of rows structs n = fields_type rows (slice_get structs n)

-- the depth of a struct; one that is not there has none
abbrev pub decl_depth : Option StructDecl → ℕ
decl_depth None = 0
decl_depth (Some s) = s.depth

abbrev pub depth_of : List StructDecl → ℕ → ℕ
depth_of structs n = decl_depth (slice_get structs n)

-- The depth falls from each struct to those that its fields name, chains have at most 64 structs, and fields at most 16 generics.
pub record AreFalling (rows : List Row) (structs : List StructDecl) : Type 0 where
  pub within : (n : ℕ) (d : StructDecl) → n < length structs → (slice_index_or structs n d).fields < length rows
  pub shallow : (n : ℕ) → depth_of structs n < 64
  pub falls : (n : ℕ) → Under (depth_of structs) (depth_of structs n) (fields_of rows structs n)
  pub few : (n : ℕ) → Below 16 (fields_of rows structs n)
