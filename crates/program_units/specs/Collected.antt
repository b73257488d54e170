-- The instances of a program, as a function of the program.
use Rattle.std.specs.Prelude.{◌≡◌, ◌⊎◌, List, Result, Ok, Err}
use Rattle.std.proofs.Common.{inl, inr}
use Rattle.lar_bytes.specs.declared.memory.OrMemory.{OrMemory}
use Rattle.lar_bytes.specs.declared.memory.OrMemory.TheVariants.{Refused, Memory}
use Rattle.lar_typed.specs.Trees.{PlainTree}
use Rattle.lar_typed.specs.TreeView.{Contents, plain}
use Rattle.mono_items.specs.declared.items.MonoGraph.{MonoGraph}
use Rattle.mono_graph.specs.declared.refused.RefusedCall.{RefusedCall}
use Rattle.mono_graph.specs.Instances.{PlainInstance, calls_of, roots}
use Rattle.mono_graph.specs.Reading.{IsAll, IsRefused}
use Rattle.mono_graph.specs.Graphs.{max_instances, instances}
use Rattle.graph_decided.proofs.Decided.{decided}

-- What a program has: all its instances, or a first refused call. It has one or the other, and only one.
abbrev pub Decision : PlainTree → Type 0
Decision tree = ((us : List PlainInstance) × IsAll (calls_of tree) max_instances (roots tree) us) ⊎ ((e : RefusedCall) × IsRefused (calls_of tree) max_instances (roots tree) e)

abbrev pub found_or_refused : (tree : PlainTree) → Decision tree → Result (List PlainInstance) RefusedCall
found_or_refused tree (inl all) = Ok all.0
found_or_refused tree (inr refused) = Err refused.0

-- the instances of the program, in the order in which they are found, or its first refused call
unfoldable pub collected : PlainTree → Result (List PlainInstance) RefusedCall
collected tree = found_or_refused tree (decided (calls_of tree) max_instances (roots tree))

-- the answer of code is what is collected
abbrev pub IsCollected : Contents → Result MonoGraph (OrMemory RefusedCall) → Type 0
IsCollected tree (Ok graph) = collected (plain tree) ≡ Ok (instances tree graph.items.items)
IsCollected tree (Err (Refused e)) = collected (plain tree) ≡ Err e
IsCollected tree (Err Memory) = Unit {0}
