use Rattle.std.proofs.Common.{map, drop}
use Rattle.unit_ir.specs.Units.{fn_view, unit_view}
use Rattle.unit_emit.proofs.Objects.{Emitting}
use Rattle.unit_emit.proofs.object.emitted_functions.Given as goal

abbrev pub invariant-loop-number : goal.invariant-loop-number
invariant-loop-number l = Emitting (unit_view l.unit) l.number (map fn_view (drop l.number l.functions)) l.made
