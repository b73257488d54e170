use Rattle.units_linked.proofs.Unrefused.{units_image-made, units_image-refused}
use Rattle.units_linked.proofs.linking.link_units.Goals as goal

pub returns-in-Ok-clause-exact : goal.returns-in-Ok-clause-exact
returns-in-Ok-clause-exact c = units_image-made c.args.objects.now c.in-Ok.image c.requires.linkable c.in-Ok.ensures.exact

pub returns-clause-exact : goal.returns-clause-exact
returns-clause-exact c = units_image-refused c.args.objects.now c.in-Err-Refused.field-0 c.in-Err-Refused.field-0-0 c.requires.linkable c.in-Err-Refused.field-0-is c.in-Err-Refused.ensures.exact
