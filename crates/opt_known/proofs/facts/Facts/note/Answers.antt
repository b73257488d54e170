use Rattle.std.proofs.Common.{List}
use Rattle.opt_known.specs.declared.entry.Entry.{Entry}
use Rattle.opt_known.specs.Table.{fact_view}
use Rattle.opt_known.proofs.Times.{facts_in-learned, written_as}
use Rattle.opt_known.proofs.facts.Facts.note.Goals as goal

pub returns : goal.returns
returns c =
    let xs : List Entry = c.args.self.now.entries.items in
    let e : Entry = record { fact = c.args.fact; learned = c.args.self.now.clock; written = c.index.result.now.written } in
    facts_in-learned xs c.args.slot e (fact_view c.args.fact) c.requires.there (written_as xs c.args.slot c.index.result.now c.requires.there c.index.ensures) c.requires.counted
