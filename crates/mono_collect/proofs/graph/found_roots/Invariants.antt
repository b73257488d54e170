use Rattle.std.proofs.Common.{◌≡◌, map, take}
use Rattle.mono_collect.specs.Roots.{root_instance}
use Rattle.mono_collect.proofs.graph.found_roots.Given as goal

abbrev pub invariant-loop-place : goal.invariant-loop-place
invariant-loop-place l = l.found ≡ map (root_instance l.none) (take l.place-index l.place-items)
