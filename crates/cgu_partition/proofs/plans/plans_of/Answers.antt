use Rattle.std.proofs.Common.{length, sym, subst}
use Rattle.std.proofs.lemmas.Result.{IfOk-weaker}
use Rattle.cgu_partition.specs.Buckets.{AreHomes}
use Rattle.cgu_partition.proofs.Zipped.{placed_all, homes_inside, homes_once}
use Rattle.cgu_partition.proofs.plans.plans_of.Goals as goal

pub plans_with-requires-clause-homes : goal.plans_with-requires-clause-homes
plans_with-requires-clause-homes c = homes_inside c.args.order.now c.args.homeless.now c.args.callees.now c.args.units.now c.as_slice-2.result.now c.args.owners.now (subst (AreHomes c.args.order.now c.args.owners.now c.args.units.now) (sym c.as_slice-2.ensures.value) c.in_ok-homes.ensures) (length c.args.homeless.now) c.requires.places.listed.order_inside

pub plans_with-requires-clause-once : goal.plans_with-requires-clause-once
plans_with-requires-clause-once c = homes_once c.args.order.now c.args.homeless.now c.args.callees.now c.args.units.now c.as_slice-2.result.now c.args.owners.now (subst (AreHomes c.args.order.now c.args.owners.now c.args.units.now) (sym c.as_slice-2.ensures.value) c.in_ok-homes.ensures) c.requires.places.listed.order_once

pub returns : goal.returns
returns c = IfOk-weaker c.plans_with.result _ _ (λ plans h. placed_all c.args.order.now c.args.homeless.now c.args.callees.now c.args.units.now c.as_slice-2.result.now c.args.owners.now (subst (AreHomes c.args.order.now c.args.owners.now c.args.units.now) (sym c.as_slice-2.ensures.value) c.in_ok-homes.ensures) plans.items h) c.plans_with.ensures
