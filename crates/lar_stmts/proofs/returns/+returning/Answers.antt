use Rattle.std.proofs.Common.{arith}
use Rattle.lar_stmts.proofs.Returning.{one_returns, one_further, none_returns}
use Rattle.lar_stmts.proofs.returns.+returning.Goals as goal

pub stmts_return-returns-then-stmt_returns : goal.stmts_return-returns-then-stmt_returns
stmts_return-returns-then-stmt_returns t c =
    one_returns c.args.stmts.now c.loop-stmt.stmt-index c.stmt-item.result c.stmt_returns.result _ (omega arith) c.stmt-item.is c.stmt_returns.ensures c.if-stmt_returns.true c.loop-stmt.invariant

pub stmts_return-loop-stmt-preserved : goal.stmts_return-loop-stmt-preserved
stmts_return-loop-stmt-preserved t c =
    one_further c.args.stmts.now c.loop-stmt.stmt-index c.stmt-item.result c.stmt_returns.result _ (omega arith) c.stmt-item.is c.stmt_returns.ensures c.if-stmt_returns.false c.loop-stmt.invariant

pub stmts_return-returns : goal.stmts_return-returns
stmts_return-returns t c =
    none_returns c.args.stmts.now c.loop-stmt.stmt-index _ (omega arith) c.loop-stmt.invariant
