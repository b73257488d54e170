-- What signatures stand for, in the numbers of a table.
use Rattle.std.specs.Prelude.{◌≡◌, ◌<◌, List, [], length, map, Option, Some, None}
use Rattle.type_table.specs.declared.row.Row.{Row}
use Rattle.type_table.specs.declared.decl.StructDecl.{StructDecl}
use Rattle.type_table.specs.TypeOf.{TypeOf}
use Rattle.type_table.specs.Rows.{type_at}
use Rattle.lar_typed.specs.Trees.{PlainStruct, struct_map}
use Rattle.lar_typed.specs.TreeView.{struct_view}
use Rattle.lar_rules.specs.Declared.{Declared, Struct, Function}
use Rattle.lar_rules.specs.Generics.{function_generics}
use Rattle.lar_rules.specs.Signatures.{fields, params, outcome, function_sorts}
use Rattle.lar_rules.specs.Checked.{all_known, typed_struct_of}
use Rattle.lar_names.specs.Numbered.{structs, functions, struct_at, function_at}
use Rattle.lar_written.specs.Members.{MembersStand}
use Rattle.lar_written.specs.Sites.{generics_view}
use Rattle.lar_written.specs.Standing.{StandsIf}
use Rattle.lar_signatures.specs.declared.structure.StructSignature.{StructSignature}
use Rattle.lar_signatures.specs.declared.function.FunctionSignature.{FunctionSignature}
use Rattle.lar_signatures.specs.declared.signatures.Signatures.{Signatures}
use Rattle.lar_signatures.specs.EachStands.{EachStands}

-- the fields are those of the struct
pub record StructStands (rows : List Row) (all : List Declared) (s : StructSignature) (x : Struct) : Type 0 where
  pub fields_stand : MembersStand rows s.fields.items (fields all x)

-- the generics, the parameters and the result are those of the function
pub record FunctionStands (rows : List Row) (all : List Declared) (f : FunctionSignature) (x : Function) : Type 0 where
  pub generics_are : generics_view f.generics ≡ function_generics x.it.generics
  pub sorts_are : f.sorts.items ≡ function_sorts x
  pub params_stand : MembersStand rows f.params.items (params all x)
  pub outcome_stands : StandsIf rows f.outcome (outcome all x)

-- the types that are known, or no type
abbrev pub or_no_types : Option (List TypeOf) → List TypeOf
or_no_types None = []
or_no_types (Some ts) = ts

-- the struct with the types of its fields; it has no field where one of these is not known
abbrev pub struct_if_known : List Declared → Struct → PlainStruct
struct_if_known all x = typed_struct_of all x (or_no_types (all_known (map (λ m. m.1) (fields all x))))

-- the struct as types name it
pub record DeclStands (rows : List Row) (all : List Declared) (d : StructDecl) (x : Struct) : Type 0 where
  pub within : d.fields < length rows
  pub is : struct_map (type_at rows) (struct_view d) ≡ struct_if_known all x

-- each signature stands for the item of its number
pub record SignaturesStand (rows : List Row) (all : List Declared) (s : Signatures) : Type 0 where
  pub structs_stand : EachStands (λ n y p. StructStands rows all y (struct_at n p)) 0 s.structs.items (structs all)
  pub functions_stand : EachStands (λ n y p. FunctionStands rows all y (function_at n p)) 0 s.functions.items (functions all)
  pub decls_stand : EachStands (λ n y p. DeclStands rows all y (struct_at n p)) 0 s.decls (structs all)
