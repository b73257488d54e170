use Rattle.std.proofs.Common.{◌≡◌, ◌++◌, map, length}
use Rattle.std.specs.Prelude.{reverse}
use Rattle.unit_ir.specs.Units.{fn_view}
use Rattle.opt_dead.proofs.Dropped.{dead_view}
use Rattle.opt_dead.proofs.functions.dead_fns.Given as goal

abbrev pub invariant-loop-last : goal.invariant-loop-last
invariant-loop-last l = map dead_view l.functions ++ map fn_view (reverse l.changed.items) ≡ map dead_view l.initial.functions

abbrev pub decreases-loop-last : goal.decreases-loop-last
decreases-loop-last l = length l.functions
