use Rattle.lar_site.proofs.Members.{member_inside}
use Rattle.lar_site.proofs.selecting.field_named.Goals as goal

pub returns-then-eq-clause-within : goal.returns-then-eq-clause-within
returns-then-eq-clause-within c = λ rows h. member_inside rows c.args.fields.now c.loop-place.place c.index-fields-place.result h c.index-fields-place.is c.loop-place-test.true
