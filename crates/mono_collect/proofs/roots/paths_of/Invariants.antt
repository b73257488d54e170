use Rattle.std.proofs.Common.{◌≡◌, map, take}
use Rattle.lar_typed.specs.TreeView.{function_view}
use Rattle.mono_graph.specs.Instances.{paths_of}
use Rattle.mono_collect.proofs.roots.paths_of.Given as goal

abbrev pub invariant-loop-function : goal.invariant-loop-function
invariant-loop-function l = l.paths.items ≡ paths_of (map function_view (take l.function-index l.functions))
