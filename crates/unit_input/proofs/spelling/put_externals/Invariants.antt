use Rattle.std.proofs.Common.{◌≡◌, ◌++◌, drop, map}
use Rattle.std.specs.List.{flat_map}
use Rattle.unit_input.specs.InputView.{external_view}
use Rattle.unit_input.specs.Spelling.{spell_external}
use Rattle.unit_input.proofs.spelling.put_externals.Given as goal

abbrev pub invariant-loop-external : goal.invariant-loop-external
invariant-loop-external l = l.out.items ++ flat_map spell_external (map external_view (drop l.external-index l.externals)) ≡ l.initial.out.items ++ flat_map spell_external (map external_view l.externals)
