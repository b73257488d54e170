use Rattle.std.proofs.Common.{◌∙◌, ap}
use Rattle.std.proofs.lemmas.Result.{IfOk-weaker}
use Rattle.text_order.specs.Sorted.{sorted}
use Rattle.cgu_partition.proofs.Ranked.{picked_inside, copies_ordered}
use Rattle.cgu_partition.proofs.ranks.copies_in_order.Goals as goal

pub places_of-requires : goal.places_of-requires
places_of-requires c = picked_inside c.args.order.now c.args.ranks.now c.args.homeless.now c.args.found.now c.requires.all c.requires.ranks c.requires.found c.requires.once c.as_slice.result.now (c.as_slice.ensures.value ∙ c.put_in_order.ensures ∙ ap sorted c.in_ok-picked.ensures)

pub returns : goal.returns
returns c = IfOk-weaker c.places_of.result _ _ (λ copied h. copies_ordered c.args.order.now c.args.ranks.now c.args.homeless.now c.args.found.now c.requires.all c.requires.ranks c.requires.found c.requires.once c.as_slice.result.now copied.items (c.as_slice.ensures.value ∙ c.put_in_order.ensures ∙ ap sorted c.in_ok-picked.ensures) h) c.places_of.ensures
