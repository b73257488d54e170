-- What a program keeps whose names and types are right.
use Rattle.std.specs.Prelude.{◌≡◌, ℕ, ◌<◌, ◌≤◌, Bool, true, ◌&&◌, ◌||◌, List, [], ◌∷◌, map, take, length, slice_index_or, slice_get, Option, Some, None, codes}
use Rattle.type_table.specs.declared.sort.Sort.{Sort}
use Rattle.type_table.specs.declared.sort.Sort.TheVariants.{Ty as of_type}
use Rattle.type_table.specs.TypeOf.{TypeOf, end, tuple}
use Rattle.type_table.specs.Substitution.{count}
use Rattle.type_table.specs.Lawful.{one, some_types, fits}
use Rattle.type_table.specs.Depth.{Under}
use Rattle.lar_typed.specs.SameType.{same_type, list_of}
use Rattle.lar_typed.specs.Paths.{is_name, IsModulePath, item_path}
use Rattle.lar_typed.specs.Trees.{PlainStruct, PlainFunction, PlainTree}
use Rattle.lar_typed.specs.Lawful.{Signature, Frame, type_generics, struct_sorts}
use Rattle.lar_typed.specs.LawfulBody.{stmts_lawful, returns}
use Rattle.lar_typed.specs.Size.{stmts_size}

abbrev pub signature_of : PlainFunction → Signature
signature_of f = record { generics = f.generics; params = list_of (take f.params f.locals); outcome = f.outcome }

-- what a function's body stands in
abbrev pub frame_of : PlainTree → PlainFunction → Frame
frame_of tree f = record { structs = tree.structs; consts = length tree.consts; functions = map signature_of tree.functions; generics = f.generics; locals = f.locals; outcome = f.outcome }

abbrev pub struct_depth : Option PlainStruct → ℕ
struct_depth None = 0
struct_depth (Some s) = s.depth

-- the depth of a struct by its place; one that is not there has none
abbrev pub depth_in : List PlainStruct → ℕ → ℕ
depth_in structs n = struct_depth (slice_get structs n)

pub record IsStruct (tree : PlainTree) (s : PlainStruct) : Type 0 where
  pub path : IsModulePath s.module_path
  pub named : is_name s.name ≡ true
  pub few_generics : s.generics ≤ 16
  pub few_fields : count s.fields ≤ 64
  -- the fields' types keep the generics of each struct that they name, and have no generics but this struct's
  pub lawful_fields : fits (struct_sorts tree.structs) (type_generics s.generics) s.fields some_types ≡ true
  -- no chain of 65 structs begins with it
  pub shallow : s.depth < 64
  -- the depth falls from it to each struct that its fields name
  pub falls : Under (depth_in tree.structs) s.depth s.fields

pub record IsFunction (tree : PlainTree) (f : PlainFunction) : Type 0 where
  pub path : IsModulePath f.module_path
  pub named : is_name f.name ≡ true
  pub few_generics : length f.generics ≤ 16
  pub few_params : f.params ≤ 16
  pub params_are_locals : f.params ≤ length f.locals
  pub lawful_locals : fits (struct_sorts tree.structs) f.generics (list_of f.locals) some_types ≡ true
  pub lawful_outcome : fits (struct_sorts tree.structs) f.generics f.outcome (one of_type) ≡ true
  pub lawful_body : stmts_lawful (frame_of tree f) f.body ≡ true
  -- one with another result than `()` returns
  pub ends : (same_type f.outcome (tuple end) || returns f.body) ≡ true
  pub small : stmts_size f.body ≤ 16777216

-- `main::main`, without generics and parameters, with the result `()`
pub record IsMain (f : PlainFunction) : Type 0 where
  pub in_main : f.module_path ≡ codes "main"
  pub is_main : f.name ≡ codes "main"
  pub no_generics : f.generics ≡ []
  pub no_params : f.params ≡ 0
  pub unit : f.outcome ≡ tuple end

pub record IsTyped (tree : PlainTree) : Type 0 where
  pub structs : (i : ℕ) (d : PlainStruct) → i < length tree.structs → IsStruct tree (slice_index_or tree.structs i d)
  pub functions : (i : ℕ) (d : PlainFunction) → i < length tree.functions → IsFunction tree (slice_index_or tree.functions i d)
  pub few_functions : length tree.functions ≤ 65535
  -- no two structs and no two functions have one path
  pub structs_apart : (i j : ℕ) (d : PlainStruct) → i < length tree.structs → j < length tree.structs → item_path (slice_index_or tree.structs i d).module_path (slice_index_or tree.structs i d).name ≡ item_path (slice_index_or tree.structs j d).module_path (slice_index_or tree.structs j d).name → i ≡ j
  pub functions_apart : (i j : ℕ) (d : PlainFunction) → i < length tree.functions → j < length tree.functions → item_path (slice_index_or tree.functions i d).module_path (slice_index_or tree.functions i d).name ≡ item_path (slice_index_or tree.functions j d).module_path (slice_index_or tree.functions j d).name → i ≡ j
  -- the place of `main::main`
  pub main : ℕ
  pub main_there : main < length tree.functions
  pub main_is : (d : PlainFunction) → IsMain (slice_index_or tree.functions main d)
