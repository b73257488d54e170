use Rattle.std.proofs.Common.{◌≡◌, drop}
use Rattle.unit_ir.specs.ExprView.{exprs_view}
use Rattle.opt_dead.specs.Dead.{all_quiet}
use Rattle.opt_dead.proofs.quiet.+quiet.Given as goal

abbrev pub invariant-all_quiet-loop-part : goal.invariant-all_quiet-loop-part
invariant-all_quiet-loop-part l = all_quiet (exprs_view (drop l.part-index l.parts)) ≡ all_quiet (exprs_view l.parts)
