use Rattle.std.proofs.Common.{rules, refl}
use Rattle.cgu_copies.proofs.Marks.{reached_new}
use Rattle.cgu_copies.proofs.reach_one.Goals as goal

pub returns-clause-reached : goal.returns-clause-reached
returns-clause-reached c = reached_new c.args.homeless.now c.args.mark c.args.target c.args.seen.now c.args.found.now.items c.requires.inside c.requires.seen c.requires.marked (search rules) c.if-seen-target.false _ _ refl (search rules)
