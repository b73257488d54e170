-- No instance is found twice.
use Rattle.std.proofs.Common.{◌≡◌, ℕ, ◌<◌, ◌⊎◌, List, [], ◌∷◌, ◌++◌, length, true, false, subst, sym, inl, inr}
use Rattle.std.specs.List.{IsDistinct}
use Rattle.std.proofs.lemmas.Map.Keys.{IsDistinct-push}
use Rattle.reach.specs.Reach.{has}
use Rattle.type_table.specs.TypeOf.{TypeOf}
use Rattle.lar_typed.specs.Calls.{CallOf}
use Rattle.lar_typed.specs.Trees.{PlainTree}
use Rattle.mono_graph.specs.Instances.{PlainInstance, same_instance, target, calls_of, roots}
use Rattle.mono_graph.specs.Reading.{IsAll}
use Rattle.mono_graph.specs.Graphs.{max_instances}
use Rattle.graph_laws.proofs.Placing.{roots_once}
use Rattle.graph_laws.proofs.Reading.{ReadOne, by_steps}
use Rattle.graph_laws.proofs.Same.{same_laws}

read_apart : (limit : ℕ) (us ws : List PlainInstance) (c : CallOf TypeOf) → IsDistinct same_instance us → ReadOne limit us ws c → IsDistinct same_instance ws
read_apart limit us ws c apart read = by read.case
  where
    by : ((has same_instance (target c) us ≡ true) × (ws ≡ us)) ⊎ ((has same_instance (target c) us ≡ false) × ((length us < limit) × (ws ≡ us ++ target c ∷ []))) → IsDistinct same_instance ws
    by (inl known) = subst (λ (vs : List PlainInstance). IsDistinct same_instance vs) (sym known.1) apart
    by (inr new) = subst (λ (vs : List PlainInstance). IsDistinct same_instance vs) (sym new.1.1) (IsDistinct-push same_laws us (target c) apart new.0)

pub found_apart : (tree : PlainTree) (us : List PlainInstance) → IsAll (calls_of tree) max_instances (roots tree) us → IsDistinct same_instance us
found_apart tree us all =
    by_steps (calls_of tree) max_instances (roots tree) (λ n vs. IsDistinct same_instance vs) (roots_once tree) (λ n vs apart none. apart) (λ n vs ws c apart at read. read_apart max_instances vs ws c apart read) all.count us all.read
