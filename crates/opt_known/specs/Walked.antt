-- What the facts of the code know.
use Rattle.std.specs.Prelude.{ℕ}
use Rattle.opt_known.specs.declared.facts.Facts.{Facts}
use Rattle.opt_known.specs.Facts.{PlainFact}
use Rattle.opt_known.specs.Table.{facts_in}

abbrev pub facts_of : Facts → ℕ → PlainFact
facts_of f = facts_in f.entries.items
