-- The plain program that the contents of a typed tree stand for.
use Rattle.std.specs.Prelude.{ℕ, List, length, map}
use Rattle.type_table.specs.declared.row.Row.{Row}
use Rattle.type_table.specs.declared.decl.StructDecl.{StructDecl}
use Rattle.type_table.specs.Rows.{type_at}
use Rattle.lar_typed.specs.declared.tree.TypedConst.{TypedConst}
use Rattle.lar_typed.specs.declared.tree.TypedFunction.{TypedFunction}
use Rattle.lar_typed.specs.StmtView.{stmts_view}
use Rattle.lar_typed.specs.Trees.{StructOf, FunctionOf, TreeOf, PlainTree, tree_map}
use Rattle.lar_typed.specs.Within.{TreeWithin}
use Rattle.lar_typed.specs.IsTyped.{IsTyped}

-- what a typed tree holds
pub record Contents : Type 0 where
  pub rows : List Row
  pub structs : List StructDecl
  pub consts : List TypedConst
  pub functions : List TypedFunction

abbrev pub struct_view : StructDecl → StructOf ℕ
struct_view s = record { module_path = s.module; name = s.name; generics = s.generics; fields = s.fields; depth = s.depth }

abbrev pub function_view : TypedFunction → FunctionOf ℕ
function_view f = record { module_path = f.module; name = f.name; generics = f.generics; params = f.params; locals = f.locals; outcome = f.outcome; body = stmts_view f.body; inlined = f.inlined; exported = f.exported; at = f.at }

-- the program labelled with numbers of rows
abbrev pub numbered : Contents → TreeOf ℕ
numbered c = record { structs = map struct_view c.structs; consts = c.consts; functions = map function_view c.functions }

-- the program with its types
abbrev pub plain : Contents → PlainTree
plain c = tree_map (type_at c.rows) (numbered c)

pub record IsTypedTree (c : Contents) : Type 0 where
  pub within : TreeWithin (length c.rows) (numbered c)
  pub typed : IsTyped (plain c)

abbrev pub contents : List Row → List StructDecl → List TypedConst → List TypedFunction → Contents
contents rows structs consts functions = record { rows = rows; structs = structs; consts = consts; functions = functions }
