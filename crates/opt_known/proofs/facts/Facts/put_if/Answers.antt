use Rattle.std.proofs.Common.{sym, ap, ◌∙◌}
use Rattle.opt_slots.specs.Slots.{only}
use Rattle.opt_known.specs.Facts.{forget, if_so}
use Rattle.opt_known.specs.Walked.{facts_of}
use Rattle.opt_known.proofs.Forgotten.{forget_nothing}
use Rattle.opt_known.proofs.facts.Facts.put_if.Goals as goal

pub returns-then-not-done-clause-facts : goal.returns-then-not-done-clause-facts
returns-then-not-done-clause-facts c = sym (ap (λ b. forget (if_so b (only c.args.slot)) (facts_of c.args.self.now)) c.if-not-done.true ∙ forget_nothing (facts_of c.args.self.now))
