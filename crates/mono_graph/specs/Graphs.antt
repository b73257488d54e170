-- The graph of a program.
use Rattle.std.specs.Prelude.{◌≡◌, ℕ, ◌+◌, ◌<◌, not, List, map, length, slice_get, Option, Some, None, Result, Ok, Err, Vec}
use Rattle.std.specs.List.{AllByRecursion}
use Rattle.std.specs.Global.{Global}
use Rattle.lar_bytes.specs.declared.memory.OrMemory.{OrMemory}
use Rattle.lar_bytes.specs.declared.memory.OrMemory.TheVariants.{Refused, Memory}
use Rattle.lar_typed.specs.Size.{stmts_size}
use Rattle.lar_typed.specs.Trees.{FunctionOf, PlainTree}
use Rattle.lar_typed.specs.TreeView.{Contents, plain}
use Rattle.mono_items.specs.declared.items.MonoItem.{MonoItem}
use Rattle.mono_items.specs.declared.items.MonoGraph.{MonoGraph}
use Rattle.mono_graph.specs.declared.refused.RefusedCall.{RefusedCall}
use Rattle.mono_graph.specs.Instances.{PlainInstance, instance_view, target, calls_of, is_none, is_root, roots}
use Rattle.mono_graph.specs.Reading.{IsAll, IsRefused}

-- the greatest number of instances
abbrev pub max_instances : ℕ
max_instances = 65536

-- what an item says of its function
pub record SaysOf {A : Type 0} (f : FunctionOf A) (x : MonoItem) : Type 0 where
  pub place : x.place ≡ f.module_path
  pub generic : x.generic ≡ not (is_none f.generics)
  pub inlined : x.inlined ≡ f.inlined
  pub root : x.root ≡ is_root f
  pub size : x.size ≡ 1 + stmts_size f.body

abbrev pub SaysIf : {A : Type 0} → Option (FunctionOf A) → MonoItem → Type 0
SaysIf None x = ⊥
SaysIf (Some f) x = SaysOf f x

-- the function of the item is there, and the item says what is so of it
abbrev pub IsItem : PlainTree → MonoItem → Type 0
IsItem tree x = SaysIf (slice_get tree.functions x.instance.function) x

-- the instances of the items, in order
abbrev pub instances : Contents → List MonoItem → List PlainInstance
instances tree items = map (λ x. instance_view tree.rows x.instance) items

-- Of each instance the targets of its calls, in reading order, with repeats.
abbrev pub targets : PlainTree → List PlainInstance → List (List (Option PlainInstance))
targets tree us = map (λ x. map (λ c. Some (target c)) (calls_of tree x)) us

-- of each row of places what stands at them
abbrev pub placed : List PlainInstance → List (Vec ℕ Global) → List (List (Option PlainInstance))
placed us rows = map (λ row. map (slice_get us) row.items) rows

-- The items are the instances that are found, in this order; each says what is so of its function; and the callees of each are the
-- places of its calls' targets.
pub record IsGraphOf (tree : Contents) (graph : MonoGraph) : Type 0 where
  pub arguments : AllByRecursion (λ x. x.instance.arguments < length tree.rows) graph.items.items
  pub found : IsAll (calls_of (plain tree)) max_instances (roots (plain tree)) (instances tree graph.items.items)
  pub items : AllByRecursion (IsItem (plain tree)) graph.items.items
  pub callees : placed (instances tree graph.items.items) graph.callees.items ≡ targets (plain tree) (instances tree graph.items.items)

-- the answer is the graph of the program, or its first refused call
abbrev pub IsAnswer : Contents → Result MonoGraph (OrMemory RefusedCall) → Type 0
IsAnswer tree (Ok graph) = IsGraphOf tree graph
IsAnswer tree (Err (Refused e)) = IsRefused (calls_of (plain tree)) max_instances (roots (plain tree)) e
IsAnswer tree (Err Memory) = Unit {0}
