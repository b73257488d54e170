use Rattle.cgu_copies.specs.Copies.{free_calls}
use Rattle.cgu_partition.proofs.Ranked.{found_apart}
use Rattle.cgu_partition.proofs.plans.plan_of.Goals as goal

pub copies_in_order-requires-clause-once : goal.copies_in_order-requires-clause-once
copies_in_order-requires-clause-once c = found_apart (free_calls c.args.callees.now c.args.homeless.now) c.args.own.now c.in_ok-found.found.items c.as_slice.result.now c.as_slice.ensures.value c.in_ok-found.ensures.found c.requires.once
