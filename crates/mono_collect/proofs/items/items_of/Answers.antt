use Rattle.mono_collect.proofs.Itemised.{item_body, item_small, items_more}
use Rattle.mono_collect.proofs.items.items_of.Goals as goal

pub item_of-requires-clause-body : goal.item_of-requires-clause-body
item_of-requires-clause-body c = item_body c.args.tree.now c.args.bodies.now c.args.instances.now c.requires.bodies c.requires.functions c.loop-instance.instance-index (record { function = 0; arguments = 0 }) c.loop-instance-test.true c.functions-functions.result.now c.functions-functions.ensures.functions c.index-functions-instance.result c.index-functions-instance.is c.index-bodies-instance.result c.index-bodies-instance.is

pub item_of-requires-clause-small : goal.item_of-requires-clause-small
item_of-requires-clause-small c = item_small c.args.tree.now c.args.bodies.now c.args.instances.now c.requires.bodies c.requires.functions c.loop-instance.instance-index (record { function = 0; arguments = 0 }) c.loop-instance-test.true c.functions-functions.result.now c.functions-functions.ensures.functions c.index-functions-instance.result c.index-functions-instance.is c.index-bodies-instance.result c.functions-functions.ensures.facts c.index-bodies-instance.is

pub loop-instance-preserved : goal.loop-instance-preserved
loop-instance-preserved c =
    let m = items_more c.args.tree.now c.args.bodies.now c.args.instances.now c.requires.bodies c.requires.functions c.loop-instance.instance-index (record { function = 0; arguments = 0 }) c.loop-instance-test.true c.functions-functions.result.now c.functions-functions.ensures.functions c.index-functions-instance.result c.index-functions-instance.is c.loop-instance.items.items c.push.new.self.items c.in_ok-item_of.field-0 c.loop-instance.invariant.instances c.loop-instance.invariant.items c.in_ok-push.ensures.items c.in_ok-item_of.ensures.instance c.in_ok-item_of.ensures.says in
    record { instances = m.0; items = m.1 }
