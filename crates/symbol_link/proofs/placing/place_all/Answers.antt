use Rattle.std.proofs.Common.{arith}
use Rattle.symbol_link.specs.Found.{found}
use Rattle.symbol_link.proofs.Checked.{next_defined}
use Rattle.symbol_link.proofs.Joined.{functions_from-more, room_for}
use Rattle.symbol_link.proofs.placing.place_all.Goals as goal

pub place_object-requires-clause-defined : goal.place_object-requires-clause-defined
place_object-requires-clause-defined c =
    (next_defined (found c.args.definitions.now) c.args.objects.now c.loop-object.object-index c.object-item.result c.loop-object-test.true c.object-item.is c.loop-object.invariant.defined).0

pub place_object-requires-clause-fits : goal.place_object-requires-clause-fits
place_object-requires-clause-fits c =
    let room = room_for (found c.args.definitions.now) c.args.objects.now c.loop-object.object-index c.object-item.result c.len-start.result c.loop-object.functions c.loop-object-test.true c.object-item.is c.len-start.ensures c.loop-object.invariant.placed in
    omega (arith, room, c.requires.fits)

pub loop-object-preserved : goal.loop-object-preserved
loop-object-preserved c = record {
  placed = functions_from-more (found c.args.definitions.now) c.args.objects.now c.loop-object.object-index c.object-item.result c.len-start.result c.loop-object.functions c.place_object.new.image c.loop-object-test.true c.object-item.is c.len-start.ensures c.loop-object.invariant.placed c.in_ok-place_object.ensures;
  defined = (next_defined (found c.args.definitions.now) c.args.objects.now c.loop-object.object-index c.object-item.result c.loop-object-test.true c.object-item.is c.loop-object.invariant.defined).1;
}
