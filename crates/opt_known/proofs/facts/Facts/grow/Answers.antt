use Rattle.std.proofs.Common.{[], ◌∷◌, ◌++◌, refl, ap, ◌∙◌, arith}
use Rattle.opt_known.specs.declared.entry.Entry.{Entry}
use Rattle.opt_known.specs.declared.entry.Fact.TheVariants as fact
use Rattle.opt_known.specs.Table.{facts_in}
use Rattle.opt_known.proofs.Times.{facts_in-pushed}
use Rattle.opt_known.proofs.facts.Facts.grow.Goals as goal

pub returns-clause-facts : goal.returns-clause-facts
returns-clause-facts c =
    let e : Entry = record { fact = fact.Nothing; learned = c.tick.new.self.clock; written = c.tick.new.self.clock } in
    ap facts_in (c.in_ok-push.ensures.items ∙ ap (λ v. v.items ++ e ∷ []) c.in_ok-tick.ensures.entries)
    ∙ facts_in-pushed c.args.self.now.clock c.args.self.now.entries.items e c.args.self.now.in_time c.args.self.now.fits (omega (arith, c.in_ok-tick.ensures.clock)) refl
