use Rattle.std.proofs.Common.{arith, ◌≡◌, length, map, ◌∙◌, sym}
use Rattle.std.proofs.lemmas.List.{length-map}
use Rattle.cgu_merge.specs.Ranked.{shown}
use Rattle.cgu_merge.proofs.Placing.{merging, merged_all, shorter_shown}
use Rattle.cgu_merge.proofs.units.join_least.Goals as goal

pub loop-units-smaller : goal.loop-units-smaller
loop-units-smaller c = shorter_shown c.loop-units.units.entries c.join_two.new.units.entries (omega arith) c.in_ok-join_two.ensures

pub loop-units-preserved : goal.loop-units-preserved
loop-units-preserved c = let e : length (map shown c.loop-units.units.entries) ≡ length c.loop-units.units.entries = length-map c.loop-units.units.entries shown in merging _ _ _ _ (omega arith) (omega arith) c.loop-units.invariant c.in_ok-join_two.ensures

pub returns : goal.returns
returns c =
    let e : length (map shown c.loop-units.units.entries) ≡ length c.loop-units.units.entries = length-map c.loop-units.units.entries shown in
    sym (merged_all c.args.limit (map shown c.loop-units.units.entries) (omega arith)) ∙ c.loop-units.invariant.rest
