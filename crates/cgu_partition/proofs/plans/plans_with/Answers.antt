use Rattle.std.proofs.Common.{arith}
use Rattle.cgu_partition.proofs.Zipped.{filled_more}
use Rattle.cgu_partition.proofs.plans.plans_with.Goals as goal

pub loop-number-preserved : goal.loop-number-preserved
loop-number-preserved c = (filled_more c.args.order.now c.args.homeless.now c.args.callees.now c.args.units.now c.args.homes.now c.loop-number.number c.loop-number.plans.items c.push.new.self.items c.index-units-number.result c.index-homes-number.result c.as_slice-own.result.now c.in_ok-plan.plan c.loop-number-test.true c.index-units-number.is (omega (arith, c.requires.count, c.loop-number-test.true)) c.index-homes-number.is c.as_slice-own.ensures.value c.in_ok-push.ensures.items c.loop-number.invariant.0 c.in_ok-plan.ensures.plan, c.in_ok-plan.ensures.seen)
