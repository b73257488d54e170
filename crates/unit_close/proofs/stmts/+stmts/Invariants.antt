use Rattle.std.proofs.Common.{drop}
use Rattle.lar_typed.specs.StmtView.{stmts_view}
use Rattle.unit_close.specs.Sight.{sight}
use Rattle.unit_close.proofs.StmtLists.{SoFar}
use Rattle.unit_close.proofs.stmts.+stmts.Given as goal

abbrev pub invariant-close_stmts-loop-stmt : goal.invariant-close_stmts-loop-stmt
invariant-close_stmts-loop-stmt l = SoFar (sight l.around) l.initial.next (stmts_view l.stmts) l.made l.next (stmts_view (drop l.stmt-index l.stmts))
