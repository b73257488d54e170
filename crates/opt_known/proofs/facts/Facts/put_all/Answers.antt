use Rattle.std.proofs.Common.{◌≡◌, ℕ, length, refl, ap, ◌∙◌, arith}
use Rattle.std.proofs.Common.{Bool}
use Rattle.opt_slots.specs.Slots.{only, slots_of}
use Rattle.opt_known.specs.Facts.{forget, if_so}
use Rattle.opt_known.specs.Walked.{facts_of}
use Rattle.opt_known.proofs.Forgotten.{below, forget-below, set_put, set_begun}
use Rattle.opt_known.proofs.facts.Facts.put_all.Goals as goal

pub loop-slot-init : goal.loop-slot-init
loop-slot-init c = (refl, set_begun (slots_of c.args.set.now) (facts_of c.args.self.now))

pub loop-slot-preserved : goal.loop-slot-preserved
loop-slot-preserved c = (
  c.in_ok-put_if.ensures.count ∙ c.loop-slot.invariant.0,
  set_put _ _ _ c.loop-slot.slot (slots_of c.args.set.now) c.loop-slot.invariant.1 (c.in_ok-put_if.ensures.facts ∙ ap (λ b. forget (if_so b (only c.loop-slot.slot)) (facts_of c.loop-slot.self)) c.contains.ensures),
)

pub returns : goal.returns
returns c =
    let f = c.loop-slot.self in
    let a : ℕ → Bool = slots_of c.args.set.now in
    let at_end : c.loop-slot.slot ≡ length f.entries.items = omega (arith, c.loop-slot.invariant.0) in
    forget-below f.clock f.entries.items a (facts_of c.args.self.now) f.in_time f.fits (c.loop-slot.invariant.1 ∙ ap (λ n. forget (below n a) (facts_of c.args.self.now)) at_end)
