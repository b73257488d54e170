-- Functions, structs and whole programs as plain data, where each type is a label of the type A: a number of a row, or the type itself.
use Rattle.std.specs.Prelude.{ℕ, Bool, List, map}
use Rattle.lar_source.specs.declared.file.Span.{Span}
use Rattle.type_table.specs.declared.sort.Sort.{Sort}
use Rattle.type_table.specs.TypeOf.{TypeOf}
use Rattle.lar_typed.specs.declared.tree.TypedConst.{TypedConst}
use Rattle.lar_typed.specs.Stmts.{StmtsOf, stmts_map}

pub record StructOf (A : Type 0) : Type 0 where
  -- the names of the modules that it stands in, joined with `::`
  pub module_path : List ℕ
  pub name : List ℕ
  -- how many generics it has; each stands for a type
  pub generics : ℕ
  -- the list of its fields' types
  pub fields : A
  -- how many structs follow it in the longest chain in which each is named in a field of the one before
  pub depth : ℕ

pub record FunctionOf (A : Type 0) : Type 0 where
  pub module_path : List ℕ
  pub name : List ℕ
  pub generics : List Sort
  -- how many of the locals are parameters; these come first
  pub params : ℕ
  -- the types of the locals, by number
  pub locals : List A
  pub outcome : A
  pub body : StmtsOf A
  -- whether it has `#[inline]`, and whether it has `#[export]`
  pub inlined : Bool
  pub exported : Bool
  -- where its name stands
  pub at : Span

pub record TreeOf (A : Type 0) : Type 0 where
  pub structs : List (StructOf A)
  pub consts : List TypedConst
  pub functions : List (FunctionOf A)

-- a program with its types
abbrev pub PlainTree : Type 0
PlainTree = TreeOf TypeOf

abbrev pub PlainFunction : Type 0
PlainFunction = FunctionOf TypeOf

abbrev pub PlainStruct : Type 0
PlainStruct = StructOf TypeOf

-- the same with other labels
abbrev pub struct_map : {A B : Type 0} → (A → B) → StructOf A → StructOf B
struct_map f s = record { module_path = s.module_path; name = s.name; generics = s.generics; fields = f s.fields; depth = s.depth }

abbrev pub function_map : {A B : Type 0} → (A → B) → FunctionOf A → FunctionOf B
function_map f x = record { module_path = x.module_path; name = x.name; generics = x.generics; params = x.params; locals = map f x.locals; outcome = f x.outcome; body = stmts_map f x.body; inlined = x.inlined; exported = x.exported; at = x.at }

abbrev pub tree_map : {A B : Type 0} → (A → B) → TreeOf A → TreeOf B
tree_map f t = record { structs = map (struct_map f) t.structs; consts = t.consts; functions = map (function_map f) t.functions }
