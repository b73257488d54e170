use Rattle.std.proofs.Common.{refl, sym, ap, ◌∙◌, arith}
use Rattle.std.specs.Vec.{with_item}
use Rattle.opt_slots.specs.Slots.{only}
use Rattle.opt_known.specs.declared.entry.Entry.{Entry}
use Rattle.opt_known.specs.declared.entry.Fact.TheVariants as fact
use Rattle.opt_known.specs.Table.{facts_in}
use Rattle.opt_known.proofs.Times.{no_place, facts_in-put, forget-out}
use Rattle.opt_known.proofs.facts.Facts.put.Goals as goal

pub returns-then-slot-len-clause-facts : goal.returns-then-slot-len-clause-facts
returns-then-slot-len-clause-facts c =
    sym (forget-out c.args.self.now.clock c.args.self.now.entries.items (only c.args.slot) c.args.self.now.in_time c.args.self.now.fits (λ k h. no_place c.args.slot k (omega (arith, h))))

pub returns-clause-facts : goal.returns-clause-facts
returns-clause-facts c =
    let e : Entry = record { fact = fact.Nothing; learned = c.tick.new.self.clock; written = c.tick.new.self.clock } in
    ap (λ v. facts_in (with_item v c.args.slot e).items) c.in_ok-tick.ensures.entries
    ∙ facts_in-put c.args.self.now.clock c.args.self.now.entries.items c.args.slot e c.args.self.now.in_time (omega arith) (omega (arith, c.in_ok-tick.ensures.clock)) refl
