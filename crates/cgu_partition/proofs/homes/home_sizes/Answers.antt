use Rattle.std.proofs.Common.{rules, length, get_or, subst, sym, None}
use Rattle.cgu_partition.specs.Owners.{IsOwner}
use Rattle.cgu_partition.proofs.Owned.{sizing_none, sizing_more, sizing_all, owner_inside}
use Rattle.cgu_partition.proofs.homes.home_sizes.Goals as goal

pub loop-place-init : goal.loop-place-init
loop-place-init c = sizing_none c.args.names.now c.args.items.now (length c.args.names.now) c.in_ok-sizes.sizes.items (search rules) (search rules)

pub add_size-requires-clause-inside : goal.add_size-requires-clause-inside
add_size-requires-clause-inside c = owner_inside c.args.names.now (get_or c.args.items.now c.loop-place.place c.index-items-place.result) (get_or c.args.owners.now c.loop-place.place None) (length c.loop-place.sizes.items) c.loop-place.invariant.count (c.requires.owners.each c.loop-place.place c.index-items-place.result None c.loop-place-test.true)

pub loop-place-preserved : goal.loop-place-preserved
loop-place-preserved c = sizing_more c.args.names.now c.args.items.now c.requires.apart c.loop-place.place c.index-items-place.result c.loop-place-test.true c.index-items-place.is (search rules) c.loop-place.sizes.items c.loop-place.invariant (get_or c.args.owners.now c.loop-place.place None) c.add_size.new.sizes.items (subst (λ x. IsOwner c.args.names.now x (get_or c.args.owners.now c.loop-place.place None)) (sym c.index-items-place.is) (c.requires.owners.each c.loop-place.place c.index-items-place.result None c.loop-place-test.true)) (search rules)

pub returns-clause-sizes : goal.returns-clause-sizes
returns-clause-sizes c = sizing_all c.args.names.now c.args.items.now c.loop-place.place c.loop-place.sizes.items c.loop-place-test.false c.loop-place.invariant
