use Rattle.std.proofs.Common.{◌∙◌}
use Rattle.lar_assembled.proofs.PartFacts.{unit_is}
use Rattle.lar_assembled.proofs.main_fn.is_unit.Goals as goal

pub returns-in-Tuple : goal.returns-in-Tuple
returns-in-Tuple c = c.is_end.ensures ∙ unit_is c.args.types.now c.args.number c.in-Tuple.list c.row-in-Tuple.result c.in-Tuple.ensures.stands c.row-in-Tuple.ensures.stands
