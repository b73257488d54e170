use Rattle.std.proofs.Common.{◌≡◌, ◌++◌, map, drop}
use Rattle.unit_ir.specs.Units.{fn_view}
use Rattle.opt_inline.specs.Inline.{small}
use Rattle.opt_inline.specs.SmallView.{smalls_view}
use Rattle.opt_inline.proofs.small.smalls.Given as goal

abbrev pub invariant-loop-f : goal.invariant-loop-f
invariant-loop-f l = smalls_view l.found.items ++ map small (map fn_view (drop l.f-index l.functions)) ≡ map small (map fn_view l.functions)
