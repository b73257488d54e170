-- The plain statement, labelled with numbers of rows, that a statement of the code stands for.
use Rattle.std.specs.Prelude.{ℕ, List, [], ◌∷◌, map, Option, Some, None}
use Rattle.lar_typed.specs.declared.stmt.Step.{Step}
use Rattle.lar_typed.specs.declared.stmt.TypedStmt.{TypedStmt, TypedStmt-F, fold-TypedStmt}
use Rattle.lar_typed.specs.ExprView.{expr_view}
use Rattle.lar_typed.specs.Stmts.{StepOf, StmtOf, StmtsOf, let_local, assign, fork, loop, return_nothing, return_value, print, assert, eval, no_stmts, stmts}

abbrev pub NumberedStmt : Type 0
NumberedStmt = StmtOf ℕ

abbrev pub step_view : Step → StepOf ℕ
step_view s = record { part = s.part; of = s.of }

abbrev pub stmts_of : List NumberedStmt → StmtsOf ℕ
stmts_of [] = no_stmts
stmts_of (s ∷ ss) = stmts s (stmts_of ss)

abbrev pub stmt_step : TypedStmt-F NumberedStmt → NumberedStmt
stmt_step (TypedStmt-F.Let n e) = let_local n (expr_view e)
stmt_step (TypedStmt-F.Assign n ps e) = assign n (map step_view ps) (expr_view e)
stmt_step (TypedStmt-F.If c a b) = fork (expr_view c) (stmts_of a) (stmts_of b)
stmt_step (TypedStmt-F.While c a) = loop (expr_view c) (stmts_of a)
stmt_step (TypedStmt-F.Return None) = return_nothing
stmt_step (TypedStmt-F.Return (Some e)) = return_value (expr_view e)
stmt_step (TypedStmt-F.Print e) = print (expr_view e)
stmt_step (TypedStmt-F.StaticAssert e at) = assert (expr_view e) at
stmt_step (TypedStmt-F.Eval e) = eval (expr_view e)

abbrev pub stmt_view : TypedStmt → NumberedStmt
stmt_view = fold-TypedStmt NumberedStmt stmt_step

abbrev pub stmts_view : List TypedStmt → StmtsOf ℕ
stmts_view ss = stmts_of (map stmt_view ss)
