use Rattle.std.proofs.Common.{rules}
use Rattle.type_table.proofs.Replaced.{first_member, later_member}
use Rattle.type_table.proofs.types.Types.+argument.Goals as goal

pub returns-then-k-eq0 : goal.returns-then-k-eq0
returns-then-k-eq0 t c = (search rules, first_member c.args.self.now c.args.list c.args.k c.in-More.first c.in-More.others c.in-More.ensures.stands c.if-k-eq0.true)

pub returns-else-k-eq0 : goal.returns-else-k-eq0
returns-else-k-eq0 t c = later_member c.args.self.now c.args.list c.args.k c.in-More.first c.in-More.others c.argument.result c.in-More.ensures.stands c.if-k-eq0.false c.argument.ensures
