use Rattle.std.proofs.Common.{◌≡◌, drop}
use Rattle.unit_ir.specs.ExprView.{exprs_view}
use Rattle.opt_slots.proofs.Ahead.{exprs_before}
use Rattle.opt_inline.proofs.copy.+copy.Given as goal

abbrev pub invariant-all_copied-loop-part : goal.invariant-all_copied-loop-part
invariant-all_copied-loop-part l = exprs_before l.done.items (exprs_view (drop l.part-index l.parts)) ≡ exprs_view l.parts
