use Rattle.unit_close.proofs.StmtLists.{more_item, at_end}
use Rattle.unit_close.proofs.stmts.+stmts.Goals as goal

pub close_stmts-loop-stmt-preserved : goal.close_stmts-loop-stmt-preserved
close_stmts-loop-stmt-preserved t c = more_item _ _ _ _ _ _ _ _ _ _ c.loop-stmt-test.true c.loop-stmt.invariant c.stmt-item.is c.in_ok-close_stmt.ensures c.in_ok-push.ensures.ok

pub close_stmts-returns : goal.close_stmts-returns
close_stmts-returns t c = at_end _ _ _ _ _ _ c.loop-stmt-test.false c.loop-stmt.invariant
