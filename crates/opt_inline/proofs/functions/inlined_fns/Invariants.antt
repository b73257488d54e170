use Rattle.std.proofs.Common.{◌≡◌, ◌++◌, map, length}
use Rattle.std.specs.Prelude.{reverse}
use Rattle.unit_ir.specs.Units.{fn_view}
use Rattle.opt_inline.specs.SmallView.{smalls_view}
use Rattle.opt_inline.proofs.Changed.{inlined_view}
use Rattle.opt_inline.proofs.functions.inlined_fns.Given as goal

abbrev pub invariant-loop-last : goal.invariant-loop-last
invariant-loop-last l = map (inlined_view (smalls_view l.small)) l.functions ++ map fn_view (reverse l.changed.items) ≡ map (inlined_view (smalls_view l.small)) l.initial.functions

abbrev pub decreases-loop-last : goal.decreases-loop-last
decreases-loop-last l = length l.functions
