use Rattle.std.proofs.Common.{◌≡◌, map, take}
use Rattle.units_text.specs.Lines.{unit_view, unit_lines}
use Rattle.units_text.proofs.lines.units_text.Given as goal

abbrev pub invariant-loop-plan : goal.invariant-loop-plan
invariant-loop-plan l = l.text.items ≡ unit_lines (map unit_view (take l.plan-index l.plans))
