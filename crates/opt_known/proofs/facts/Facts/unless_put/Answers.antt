use Rattle.std.proofs.Common.{sym, arith}
use Rattle.opt_known.proofs.Times.{counts-behind}
use Rattle.opt_known.proofs.facts.Facts.unless_put.Goals as goal

pub returns-then-other-len : goal.returns-then-other-len
returns-then-other-len c = sym (counts-behind c.args.self.now.clock c.args.self.now.entries.items c.args.learned c.args.other c.args.self.now.fits c.requires (omega arith))
