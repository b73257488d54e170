use Rattle.std.proofs.Common.{◌≡◌, map, take}
use Rattle.std.specs.Prelude.{filter, slice_get}
use Rattle.lar_typed.specs.TreeView.{function_view}
use Rattle.mono_graph.specs.Instances.{root_if}
use Rattle.mono_collect.proofs.roots.roots_among.Given as goal

abbrev pub invariant-loop-place : goal.invariant-loop-place
invariant-loop-place l = l.roots.items ≡ filter (λ k. root_if (slice_get (map function_view l.functions) k)) (take l.place-index l.order)
