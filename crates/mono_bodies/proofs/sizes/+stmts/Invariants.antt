use Rattle.std.proofs.Common.{◌≡◌, ◌+◌, ◌≤◌, min, drop}
use Rattle.lar_typed.specs.Size.{stmts_size}
use Rattle.lar_typed.specs.StmtView.{stmts_view}
use Rattle.mono_bodies.proofs.sizes.+stmts.Given as goal

abbrev pub invariant-with_stmts-loop-stmt : goal.invariant-with_stmts-loop-stmt
invariant-with_stmts-loop-stmt l = (l.total ≤ 4294967295) × (min (l.total + stmts_size (stmts_view (drop l.stmt-index l.stmts))) 4294967295 ≡ min (l.before + stmts_size (stmts_view l.stmts)) 4294967295)
