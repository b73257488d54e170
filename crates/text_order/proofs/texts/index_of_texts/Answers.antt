use Rattle.std.proofs.Common.{arith, ◌∙◌, []}
use Rattle.std.proofs.lemmas.List.{get_or_default}
use Rattle.std.proofs.lemmas.Map.Text.{btree_map_updates_str}
use Rattle.text_order.proofs.Indexed.{indexing_more, indexing_all}
use Rattle.text_order.proofs.texts.index_of_texts.Goals as goal

pub loop-place-preserved : goal.loop-place-preserved
loop-place-preserved c = indexing_more c.args.texts.now c.loop-place.place c.loop-place.index c.insert.new.self c.as_str.result c.loop-place-test.true (c.as_str.ensures.text ∙ c.index-texts-place.is ∙ get_or_default c.args.texts.now c.loop-place.place c.index-texts-place.result [] c.loop-place-test.true) c.loop-place.invariant c.in_ok-insert.ensures.entries (btree_map_updates_str c.as_str.result.now c.loop-place.index c.insert.new.self _ c.in_ok-insert.ensures.updates)

pub returns-clause-places : goal.returns-clause-places
returns-clause-places c = (indexing_all c.args.texts.now c.loop-place.place c.loop-place.index (omega arith) c.loop-place.invariant).1
