use Rattle.std.proofs.Common.{◌≡◌, ◌+◌, sym, ap, ◌∙◌, arith}
use Rattle.opt_slots.specs.Slots.{slots_of, also, between}
use Rattle.opt_slots.proofs.Slots.{also_nothing, between-same, marked_in-set, row_more}
use Rattle.opt_slots.proofs.set.SlotSet.insert_span.Goals as goal

pub loop-slot-init : goal.loop-slot-init
loop-slot-init c = sym (ap (also (slots_of c.args.self.now)) (between-same c.args.first) ∙ also_nothing (slots_of c.args.self.now))

pub loop-slot-preserved : goal.loop-slot-preserved
loop-slot-preserved c = row_more _ _ _ c.args.first c.loop-slot.slot c.loop-slot.auto.slot c.loop-slot.invariant (marked_in-set c.loop-slot.self.marked c.loop-slot.slot (omega arith))

pub returns : goal.returns
returns c =
    let at_end : c.loop-slot.slot ≡ c.args.first + c.args.count = omega arith in
    c.loop-slot.invariant ∙ ap (λ n. also (slots_of c.args.self.now) (between c.args.first n)) at_end
