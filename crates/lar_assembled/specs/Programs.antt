-- A whole program in numbers of rows, and what it stands for.
use Rattle.std.specs.Prelude.{◌≡◌, List, [], ◌++◌, length, map, Option, Some, None}
use Rattle.type_table.specs.declared.row.Row.{Row}
use Rattle.type_table.specs.declared.decl.StructDecl.{StructDecl}
use Rattle.type_table.specs.TypeOf.{TypeOf}
use Rattle.type_table.specs.Rows.{type_at}
use Rattle.lar_typed.specs.declared.tree.TypedConst.{TypedConst}
use Rattle.lar_typed.specs.declared.tree.TypedFunction.{TypedFunction}
use Rattle.lar_typed.specs.Trees.{PlainStruct, PlainFunction, struct_map, function_map}
use Rattle.lar_typed.specs.TreeView.{struct_view, function_view}
use Rattle.lar_typed.specs.Within.{StructsWithin, FunctionsWithin}
use Rattle.lar_rules.specs.Fault.{Fault, least}
use Rattle.lar_rules.specs.Declared.{Declared, Struct}
use Rattle.lar_rules.specs.Signatures.{fields}
use Rattle.lar_rules.specs.Twice.{repeated_items}
use Rattle.lar_rules.specs.Faults.{none_yet, past_limit, max_functions}
use Rattle.lar_rules.specs.Checked.{all_known, typed_struct_of, typed_const, typed_function}
use Rattle.lar_sound.specs.InOrder.{structs_from, functions_from, known_of}
use Rattle.lar_names.specs.Numbered.{consts}
use Rattle.fault_order.specs.Order.{struct_part, head_part, body_part, parts_from}

-- the types that are known, or no type
abbrev pub or_no_types : Option (List TypeOf) → List TypeOf
or_no_types None = []
or_no_types (Some ts) = ts

-- the struct with the types of its fields; it has no field where one of these is not known
abbrev pub struct_if_known : List Declared → Struct → PlainStruct
struct_if_known all x = typed_struct_of all x (or_no_types (all_known (map (λ m. m.1) (fields all x))))

-- the list of structs stands for all structs
pub record StructsStand (rows : List Row) (all : List Declared) (ss : List StructDecl) : Type 0 where
  pub within : StructsWithin (length rows) (map struct_view ss)
  pub are : map (struct_map (type_at rows)) (map struct_view ss) ≡ map (struct_if_known all) (structs_from none_yet all)

-- the list of functions stands for those of these that are known
pub record FunctionsStand (rows : List Row) (fs : List TypedFunction) (ps : List (Option PlainFunction)) : Type 0 where
  pub within : FunctionsWithin (length rows) (map function_view fs)
  pub are : map (function_map (type_at rows)) (map function_view fs) ≡ known_of ps

-- all that is known of the items of a program
pub record ItemsStand (rows : List Row) (all : List Declared) (ss : List StructDecl) (cs : List TypedConst) (fs : List TypedFunction) : Type 0 where
  pub structs_stand : StructsStand rows all ss
  pub consts_are : cs ≡ map (λ p. typed_const p.0 p.1) (consts all)
  pub functions_stand : FunctionsStand rows fs (map (typed_function all) (functions_from none_yet all))

-- the least of all faults, where names and the count of functions come first, then the declarations, and then the bodies
abbrev pub noted : List Declared → Option Fault
noted all =
    least (least (least None (repeated_items [] all ++ past_limit all max_functions))
    (parts_from struct_part all none_yet all ++ parts_from head_part all none_yet all))
    (parts_from body_part all none_yet all)
