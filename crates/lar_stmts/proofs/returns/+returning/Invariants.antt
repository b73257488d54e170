use Rattle.std.proofs.Common.{◌≡◌, drop}
use Rattle.lar_tree.specs.StmtView.{stmts_view}
use Rattle.lar_rules.specs.Bodies as rules
use Rattle.lar_stmts.proofs.returns.+returning.Given as goal

abbrev pub invariant-stmts_return-loop-stmt : goal.invariant-stmts_return-loop-stmt
invariant-stmts_return-loop-stmt l = rules.stmts_return (stmts_view (drop l.stmt-index l.stmts)) ≡ rules.stmts_return (stmts_view l.stmts)
