-- What is collected is what the relations say.
use Rattle.std.proofs.Common.{◌≡◌, List, ap, Result, Ok, Err, inl, inr}
use Rattle.lar_bytes.specs.declared.memory.OrMemory.{OrMemory}
use Rattle.lar_bytes.specs.declared.memory.OrMemory.TheVariants.{Refused, Memory}
use Rattle.lar_typed.specs.Trees.{PlainTree}
use Rattle.lar_typed.specs.TreeView.{Contents, plain}
use Rattle.mono_items.specs.declared.items.MonoGraph.{MonoGraph}
use Rattle.mono_graph.specs.declared.refused.RefusedCall.{RefusedCall}
use Rattle.mono_graph.specs.Instances.{PlainInstance, calls_of, roots}
use Rattle.mono_graph.specs.Reading.{IsAll, IsRefused}
use Rattle.mono_graph.specs.Graphs.{max_instances, instances, IsAnswer}
use Rattle.graph_decided.proofs.Decided.{decided}
use Rattle.graph_laws.proofs.OneAnswer.{one_all, one_refused, not_both}
use Rattle.program_units.specs.Collected.{Decision, found_or_refused, collected, IsCollected}

all_by : (tree : PlainTree) (us : List PlainInstance) → IsAll (calls_of tree) max_instances (roots tree) us → (d : Decision tree) → found_or_refused tree d ≡ Ok us
all_by tree us h (inl all) = ap Ok (one_all (calls_of tree) max_instances (roots tree) all.0 us all.1 h)
all_by tree us h (inr refused) = absurd (not_both (calls_of tree) max_instances (roots tree) us refused.0 h refused.1)

refused_by : (tree : PlainTree) (e : RefusedCall) → IsRefused (calls_of tree) max_instances (roots tree) e → (d : Decision tree) → found_or_refused tree d ≡ Err e
refused_by tree e h (inl all) = absurd (not_both (calls_of tree) max_instances (roots tree) all.0 e all.1 h)
refused_by tree e h (inr refused) = ap Err (one_refused (calls_of tree) max_instances (roots tree) refused.0 e refused.1 h)

pub collected_all : (tree : PlainTree) (us : List PlainInstance) → IsAll (calls_of tree) max_instances (roots tree) us → collected tree ≡ Ok us
unfolding collected
collected_all tree us h = all_by tree us h (decided (calls_of tree) max_instances (roots tree))

pub collected_refused : (tree : PlainTree) (e : RefusedCall) → IsRefused (calls_of tree) max_instances (roots tree) e → collected tree ≡ Err e
unfolding collected
collected_refused tree e h = refused_by tree e h (decided (calls_of tree) max_instances (roots tree))

-- whatever answer code gives, it is what is collected
pub answer_collected : (tree : Contents) (answer : Result MonoGraph (OrMemory RefusedCall)) → IsAnswer tree answer → IsCollected tree answer
answer_collected tree (Ok graph) h = collected_all (plain tree) (instances tree graph.items.items) h.found
answer_collected tree (Err (Refused e)) h = collected_refused (plain tree) e h
answer_collected tree (Err Memory) h = tt
