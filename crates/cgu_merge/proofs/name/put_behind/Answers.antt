use Rattle.std.proofs.Common.{◌∙◌}
use Rattle.std.specs.Prelude.{string_bytes}
use Rattle.std.proofs.lemmas.List.{get_or_default}
use Rattle.cgu_merge.proofs.Written.{written_more}
use Rattle.cgu_merge.proofs.name.put_behind.Goals as goal

pub loop-place-preserved : goal.loop-place-preserved
loop-place-preserved c = (written_more c.args.names.now c.args.places.now c.loop-place.place-index (string_bytes c.args.text.now) (string_bytes c.loop-place.text) (string_bytes c.put.new.text) (string_bytes c.put-in-loop-place.new.text) c.as_str.result.now c.loop-place-test.true (c.as_str.ensures.text ∙ c.index-names-place.is ∙ get_or_default c.args.names.now _ _ _ (c.requires.places c.loop-place.place-index 0 c.loop-place-test.true)) c.loop-place.invariant.0 c.in_ok-put.ensures.put c.in_ok-put-2.ensures.put, c.in_ok-put-2.ensures.ascii)
