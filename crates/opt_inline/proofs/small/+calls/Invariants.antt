use Rattle.std.proofs.Common.{◌≡◌, drop}
use Rattle.unit_ir.specs.ExprView.{exprs_view}
use Rattle.opt_inline.specs.Inline.{call_nothing}
use Rattle.opt_inline.proofs.small.+calls.Given as goal

abbrev pub invariant-call_nothing-loop-part : goal.invariant-call_nothing-loop-part
invariant-call_nothing-loop-part l = call_nothing (exprs_view (drop l.part-index l.parts)) ≡ call_nothing (exprs_view l.parts)
