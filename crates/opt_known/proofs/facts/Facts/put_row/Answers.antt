use Rattle.std.proofs.Common.{◌≡◌, ◌+◌, ap, ◌∙◌, arith}
use Rattle.opt_slots.specs.Slots.{between}
use Rattle.opt_known.specs.Facts.{forget}
use Rattle.opt_known.specs.Walked.{facts_of}
use Rattle.opt_known.proofs.Forgotten.{row_put, row_begun}
use Rattle.opt_known.proofs.facts.Facts.put_row.Goals as goal

pub loop-slot-init : goal.loop-slot-init
loop-slot-init c = row_begun c.args.first (facts_of c.args.self.now)

pub loop-slot-preserved : goal.loop-slot-preserved
loop-slot-preserved c = row_put _ _ _ c.args.first c.loop-slot.slot c.loop-slot.auto.slot c.loop-slot.invariant c.in_ok-put.ensures.facts

pub returns : goal.returns
returns c =
    let at_end : c.loop-slot.slot ≡ c.args.first + c.args.count = omega arith in
    c.loop-slot.invariant ∙ ap (λ n. forget (between c.args.first n) (facts_of c.args.self.now)) at_end
