-- The plain statement that a statement of the code stands for.
use Rattle.std.specs.Prelude.{List, [], ◌∷◌, map}
use Rattle.unit_ir.specs.declared.stmt.IrStmt.{IrStmt}
use Rattle.unit_ir.specs.declared.stmt.IrStmt.TheOpen.{IrStmt-F}
use Rattle.unit_ir.specs.declared.stmt.IrStmt.TheFolds.{fold-IrStmt}
use Rattle.unit_ir.specs.ExprView.{expr_view}
use Rattle.unit_ir.specs.Stmts.{PlainStmt, store, fork, loop, give, print, eval, PlainStmts, no_stmts, stmts}

abbrev pub stmts_of : List PlainStmt → PlainStmts
stmts_of [] = no_stmts
stmts_of (s ∷ ss) = stmts s (stmts_of ss)

abbrev pub stmt_step : IrStmt-F PlainStmt → PlainStmt
stmt_step (IrStmt-F.Store s w e) = store s w (expr_view e)
stmt_step (IrStmt-F.If e a b) = fork (expr_view e) (stmts_of a) (stmts_of b)
stmt_step (IrStmt-F.While e a) = loop (expr_view e) (stmts_of a)
stmt_step (IrStmt-F.Return e) = give (expr_view e)
stmt_step (IrStmt-F.Print e) = print (expr_view e)
stmt_step (IrStmt-F.Eval e w) = eval (expr_view e) w

abbrev pub stmt_view : IrStmt → PlainStmt
stmt_view = fold-IrStmt PlainStmt stmt_step

abbrev pub stmts_view : List IrStmt → PlainStmts
stmts_view ss = stmts_of (map stmt_view ss)
