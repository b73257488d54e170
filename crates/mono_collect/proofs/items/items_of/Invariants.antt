use Rattle.std.proofs.Common.{◌≡◌, map, take}
use Rattle.std.specs.List.{AllByRecursion}
use Rattle.lar_typed.specs.TreeView.{plain}
use Rattle.mono_graph.specs.Graphs.{IsItem}
use Rattle.mono_collect.proofs.items.items_of.Given as goal

abbrev pub invariant-loop-instance : goal.invariant-loop-instance
invariant-loop-instance l = record { instances : map (λ x. x.instance) l.items.items ≡ take l.instance-index l.instances; items : AllByRecursion (IsItem (plain l.tree)) l.items.items }
