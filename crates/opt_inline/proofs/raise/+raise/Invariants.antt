use Rattle.std.proofs.Common.{◌≡◌, drop}
use Rattle.unit_ir.specs.ExprView.{exprs_view}
use Rattle.opt_slots.proofs.Ahead.{exprs_before}
use Rattle.opt_inline.specs.Places.{all_turned_up}
use Rattle.opt_inline.proofs.raise.+raise.Given as goal

abbrev pub invariant-all_raised-loop-part : goal.invariant-all_raised-loop-part
invariant-all_raised-loop-part l = exprs_before l.done.items (all_turned_up l.base (exprs_view (drop l.part-index l.parts))) ≡ all_turned_up l.base (exprs_view l.parts)
