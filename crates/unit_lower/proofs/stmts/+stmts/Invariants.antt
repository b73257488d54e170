use Rattle.std.proofs.Common.{drop}
use Rattle.unit_input.specs.InputView.{stmts_view}
use Rattle.unit_lower.proofs.StmtLists.{SoFar}
use Rattle.unit_lower.proofs.stmts.+stmts.Given as goal

abbrev pub invariant-lowered_stmts-loop-stmt : goal.invariant-lowered_stmts-loop-stmt
invariant-lowered_stmts-loop-stmt l = SoFar l.scope (stmts_view l.stmts) l.initial.next l.made l.next (stmts_view (drop l.stmt-index l.stmts))
