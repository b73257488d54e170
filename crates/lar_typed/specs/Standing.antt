-- A tree that is labelled with numbers of rows stands for the one whose labels are the types of those rows.
use Rattle.std.specs.Prelude.{◌≡◌, ℕ, ◌<◌, List, length, map}
use Rattle.type_table.specs.declared.row.Row.{Row}
use Rattle.type_table.specs.TypeOf.{TypeOf}
use Rattle.type_table.specs.Rows.{type_at}
use Rattle.lar_typed.specs.Exprs.{ExprOf, ExprsOf, PlainExpr, PlainExprs, expr_map, exprs_map}
use Rattle.lar_typed.specs.Stmts.{StepOf, StmtOf, StmtsOf, PlainStmt, PlainStmts, step_map, stmt_map, stmts_map}
use Rattle.lar_typed.specs.Trees.{FunctionOf, PlainFunction, function_map, TreeOf, PlainTree, tree_map}
use Rattle.lar_typed.specs.Within.{ExprWithin, ExprsWithin, StepsWithin, StmtWithin, StmtsWithin, FunctionWithin, TreeWithin}

pub record ExprStands (rows : List Row) (e : ExprOf ℕ) (p : PlainExpr) : Type 0 where
  pub within : ExprWithin (length rows) e
  pub is : expr_map (type_at rows) e ≡ p

pub record ExprsStand (rows : List Row) (es : ExprsOf ℕ) (ps : PlainExprs) : Type 0 where
  pub within : ExprsWithin (length rows) es
  pub is : exprs_map (type_at rows) es ≡ ps

pub record StepsStand (rows : List Row) (ss : List (StepOf ℕ)) (ps : List (StepOf TypeOf)) : Type 0 where
  pub within : StepsWithin (length rows) ss
  pub is : map (step_map (type_at rows)) ss ≡ ps

pub record StmtStands (rows : List Row) (s : StmtOf ℕ) (p : PlainStmt) : Type 0 where
  pub within : StmtWithin (length rows) s
  pub is : stmt_map (type_at rows) s ≡ p

pub record StmtsStand (rows : List Row) (ss : StmtsOf ℕ) (ps : PlainStmts) : Type 0 where
  pub within : StmtsWithin (length rows) ss
  pub is : stmts_map (type_at rows) ss ≡ ps

pub record FunctionStands (rows : List Row) (f : FunctionOf ℕ) (p : PlainFunction) : Type 0 where
  pub within : FunctionWithin (length rows) f
  pub is : function_map (type_at rows) f ≡ p

pub record TreeStands (rows : List Row) (t : TreeOf ℕ) (p : PlainTree) : Type 0 where
  pub within : TreeWithin (length rows) t
  pub is : tree_map (type_at rows) t ≡ p
