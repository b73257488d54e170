use Rattle.std.proofs.Common.{rules, get_or}
use Rattle.std.proofs.lemmas.List.{get_or_default}
use Rattle.cgu_merge.proofs.Placing.{loaded}
use Rattle.cgu_merge.proofs.units.first_units.Goals as goal

pub loop-place-preserved : goal.loop-place-preserved
loop-place-preserved c = loaded c.args.sizes.now c.loop-place.place _ c.in_ok-places.places c.loop-place.units.entries c.insert.new.self.entries c.loop-place-test.true (get_or_default c.args.sizes.now c.loop-place.place 0 (get_or c.args.sizes.now c.loop-place.place 0) c.loop-place-test.true) c.loop-place.invariant (search rules) c.in_ok-insert.ensures.entries
