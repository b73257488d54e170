-- The two lists of a unit, and its input.
use Rattle.std.specs.Prelude.{ℕ, ◌<◌, All, Bool, true, false, List, [], ◌++◌, map, take, drop, length, slice_get, slice_index_or, nat_eq, Option, Some, None, Vec}
use Rattle.std.specs.List.{flat_map, IsDistinct}
use Rattle.std.specs.Global.{Global}
use Rattle.reach.specs.Reach.{added}
use Rattle.text_order.specs.TextOrder.{text_order}
use Rattle.type_table.specs.TypeOf.{TypeOf}
use Rattle.lar_typed.specs.SameType.{list_of}
use Rattle.lar_typed.specs.Trees.{PlainFunction}
use Rattle.lar_typed.specs.TreeView.{Contents, plain}
use Rattle.mono_items.specs.declared.items.MonoItem.{MonoItem}
use Rattle.mono_items.specs.declared.items.MonoGraph.{MonoGraph}
use Rattle.mono_items.specs.declared.items.UnitPlan.{UnitPlan}
use Rattle.mono_items.specs.Symbols.{symbol_of}
use Rattle.mono_graph.specs.Instances.{PlainInstance, plain_instance, instance_view}
use Rattle.unit_input.specs.Stmts.{no_stmts}
use Rattle.unit_input.specs.Inputs.{PlainFn, PlainExternal, PlainInput}
use Rattle.closed_input.specs.Places.{width_under}
use Rattle.closed_input.specs.Bodies.{Setting, closed_stmts}

-- ---- items by their places; one that is not there has no text, and stands for function 0
abbrev pub symbol_if : Contents → Option MonoItem → List ℕ
symbol_if tree None = []
symbol_if tree (Some x) = symbol_of tree x.instance

abbrev pub symbol_at : Contents → List MonoItem → ℕ → List ℕ
symbol_at tree items p = symbol_if tree (slice_get items p)

abbrev pub instance_if : Contents → Option MonoItem → PlainInstance
instance_if tree None = plain_instance 0
instance_if tree (Some x) = instance_view tree.rows x.instance

abbrev pub instance_at : Contents → List MonoItem → ℕ → PlainInstance
instance_at tree items p = instance_if tree (slice_get items p)

-- the callees of an item; one that is not there has none
abbrev pub callees_if : Option (Vec ℕ Global) → List ℕ
callees_if None = []
callees_if (Some row) = row.items

abbrev pub callees_at : List (Vec ℕ Global) → ℕ → List ℕ
callees_at callees p = callees_if (slice_get callees p)

-- ---- the two lists of a unit, as places of items
-- its functions: those at home in it, and then the copies
abbrev pub own : UnitPlan → List ℕ
own plan = plan.home.items ++ plan.copies.items

-- what the plan of a unit keeps: its items are there, and none stands in it twice
pub record IsPlanned (graph : MonoGraph) (plan : UnitPlan) : Type 0 where
  pub home : All (λ p. p < length graph.items.items) plan.home.items
  pub copies : All (λ p. p < length graph.items.items) plan.copies.items
  pub once : IsDistinct nat_eq (own plan)

-- what they call in other units, each once, in the order of the first calls
abbrev pub outside : MonoGraph → UnitPlan → List ℕ
outside graph plan = drop (length (own plan)) (added nat_eq (own plan) (flat_map (callees_at graph.callees.items) (own plan)))

-- the same in byte order of symbols
abbrev pub externals : Contents → MonoGraph → UnitPlan → List ℕ
externals tree graph plan = map (λ k. slice_index_or (outside graph plan) k 0) (text_order (map (symbol_at tree graph.items.items) (outside graph plan)))

-- what its calls may name, in the order of the numbers
abbrev pub callees : Contents → MonoGraph → UnitPlan → List PlainInstance
callees tree graph plan = map (instance_at tree graph.items.items) (own plan ++ externals tree graph plan)

-- ---- a function, and what is known of a function of another unit; a function that is not there is empty
abbrev pub setting_of : Contents → List PlainInstance → TypeOf → PlainFunction → Setting
setting_of tree us arguments f = record { tree = tree; arguments = arguments; locals = f.locals; callees = us }

abbrev pub closed_function : Contents → List PlainInstance → List ℕ → Bool → TypeOf → Option PlainFunction → PlainFn
closed_function tree us symbol external arguments None = record { symbol = symbol; external = external; «result» = 0; params = 0; locals = []; body = no_stmts }
closed_function tree us symbol external arguments (Some f) = record {
  symbol = symbol;
  external = external;
  «result» = width_under tree arguments f.outcome;
  params = f.params;
  locals = map (width_under tree arguments) f.locals;
  body = closed_stmts (setting_of tree us arguments f) f.body;
}

abbrev pub function_in : Contents → PlainInstance → Option PlainFunction
function_in tree x = slice_get (plain tree).functions x.function

-- the function at a place
abbrev pub closed_item : Contents → List MonoItem → List PlainInstance → Bool → ℕ → PlainFn
closed_item tree items us external p = closed_function tree us (symbol_at tree items p) external (instance_at tree items p).arguments (function_in tree (instance_at tree items p))

abbrev pub known_function : Contents → List ℕ → TypeOf → Option PlainFunction → PlainExternal
known_function tree symbol arguments None = record { symbol = symbol; params = 0; «result» = 0 }
known_function tree symbol arguments (Some f) = record {
  symbol = symbol;
  params = width_under tree arguments (list_of (take f.params f.locals));
  «result» = width_under tree arguments f.outcome;
}

abbrev pub known_item : Contents → List MonoItem → ℕ → PlainExternal
known_item tree items p = known_function tree (symbol_at tree items p) (instance_at tree items p).arguments (function_in tree (instance_at tree items p))

-- ---- the input of a unit at a level
unfoldable pub input : Contents → MonoGraph → UnitPlan → ℕ → PlainInput
input tree graph plan level = record {
  level = level;
  functions = map (closed_item tree graph.items.items (callees tree graph plan) true) plan.home.items ++ map (closed_item tree graph.items.items (callees tree graph plan) false) plan.copies.items;
  externals = map (known_item tree graph.items.items) (externals tree graph plan);
}
