-- A typed tree stands for the same program while its table grows.
use Rattle.std.proofs.Common.{◌≡◌, ℕ, List, length, sym, subst}
use Rattle.type_table.specs.declared.row.Row.{Row}
use Rattle.type_table.specs.declared.decl.StructDecl.{StructDecl}
use Rattle.type_table.specs.Rows.{type_at, Keeps}
use Rattle.lar_typed.specs.declared.tree.TypedConst.{TypedConst}
use Rattle.lar_typed.specs.declared.tree.TypedFunction.{TypedFunction}
use Rattle.lar_typed.specs.Trees.{PlainTree}
use Rattle.lar_typed.specs.IsTyped.{IsTyped}
use Rattle.lar_typed.specs.TreeView.{contents, numbered, plain, IsTypedTree}
use Rattle.lar_typed.proofs.StmtsKept.{tree_same, tree_wider}

pub plain_kept : (old new : List Row) (structs : List StructDecl) (consts : List TypedConst) (functions : List TypedFunction) → Keeps old new → IsTypedTree (contents old structs consts functions) → plain (contents new structs consts functions) ≡ plain (contents old structs consts functions)
plain_kept old new structs consts functions k t = tree_same (type_at new) (type_at old) (length old) k.same (numbered (contents old structs consts functions)) t.within

pub typed_kept : (old new : List Row) (structs : List StructDecl) (consts : List TypedConst) (functions : List TypedFunction) → Keeps old new → IsTypedTree (contents old structs consts functions) → IsTypedTree (contents new structs consts functions)
typed_kept old new structs consts functions k t = record {
  within = tree_wider (length old) (length new) k.longer (numbered (contents old structs consts functions)) t.within;
  typed = subst (λ (p : PlainTree). IsTyped p) (sym (plain_kept old new structs consts functions k t)) t.typed;
}
