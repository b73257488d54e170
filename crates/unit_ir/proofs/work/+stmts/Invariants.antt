use Rattle.std.proofs.Common.{◌≡◌, ◌+◌, ◌≤◌, min, drop}
use Rattle.unit_ir.specs.Cost.{stmts_cost}
use Rattle.unit_ir.specs.StmtView.{stmts_view}
use Rattle.unit_ir.proofs.work.+stmts.Given as goal

abbrev pub invariant-with_stmts-loop-stmt : goal.invariant-with_stmts-loop-stmt
invariant-with_stmts-loop-stmt l = (l.total ≤ 4294967295) × (min (l.total + stmts_cost (stmts_view (drop l.stmt-index l.stmts))) 4294967295 ≡ min (l.before + stmts_cost (stmts_view l.stmts)) 4294967295)
