use Rattle.std.proofs.Common.{◌≡◌, ◌++◌, map, length}
use Rattle.std.specs.Prelude.{reverse}
use Rattle.unit_ir.specs.Units.{fn_view}
use Rattle.opt_known.proofs.Changed.{known_view}
use Rattle.opt_known.proofs.functions.known_fns.Given as goal

abbrev pub invariant-loop-last : goal.invariant-loop-last
invariant-loop-last l = map known_view l.functions ++ map fn_view (reverse l.changed.items) ≡ map known_view l.initial.functions

abbrev pub decreases-loop-last : goal.decreases-loop-last
decreases-loop-last l = length l.functions
