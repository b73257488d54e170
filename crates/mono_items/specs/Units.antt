-- The codegen units of a graph: homes are merged, and each unit gets its copies.
use Rattle.std.specs.Prelude.{◌≡◌, ℕ, ◌<◌, ◌≤◌, List, [], ◌∷◌, map, filter, length, slice_get, nat_eq, Bool, true, false, not, ◌&&◌, Option, Some, None, Vec, All}
use Rattle.std.specs.List.{list_any, AllByRecursion}
use Rattle.std.specs.Global.{Global}
use Rattle.std.specs.Str.{bytes_eq}
use Rattle.reach.specs.Reach.{has, Leads}
use Rattle.text_order.specs.TextOrder.{text_at, text_order, AreApart}
use Rattle.cgu_merge.specs.Merging.{Merged, name_of, merged_units}
use Rattle.cgu_copies.specs.Copies.{free_calls, InRange}
use Rattle.lar_typed.specs.TreeView.{Contents}
use Rattle.mono_items.specs.declared.items.MonoItem.{MonoItem}
use Rattle.mono_items.specs.declared.items.MonoGraph.{MonoGraph}
use Rattle.mono_items.specs.declared.items.UnitPlan.{UnitPlan}
use Rattle.mono_items.specs.Symbols.{symbol_of}
use Rattle.mono_items.specs.Homes.{has_home, home_of, first_names, home_size}

abbrev pub symbols_of : Contents → List MonoItem → List (List ℕ)
symbols_of tree items = map (λ x. symbol_of tree x.instance) items

-- the first units, merged while there are more than the limit, in byte order of their names
unfoldable pub units_left : List MonoItem → ℕ → List Merged
units_left items limit = merged_units (first_names items) (map (home_size items) (first_names items)) limit

-- whether the item has its home in one of these first units
abbrev pub is_own : List (List ℕ) → List ℕ → MonoItem → Bool
is_own names firsts x = has_home x && list_any (λ r. bytes_eq (home_of x) (text_at names r)) firsts

abbrev pub own_if : (MonoItem → Bool) → Option MonoItem → Bool
own_if test None = false
own_if test (Some x) = test x

-- the items that have their home in these first units, in the order that is given
unfoldable pub own_items : List MonoItem → List ℕ → List ℕ → List ℕ
own_items items order firsts = filter (λ p. own_if (is_own (first_names items) firsts) (slice_get items p)) order

abbrev pub homeless : List MonoItem → List Bool
homeless items = map (λ x. not (has_home x)) items

-- a list of calls leads from an item of the list to one without a home, through items without a home alone
pub record IsCopy (items : List MonoItem) (callees : List (Vec ℕ Global)) (home : List ℕ) (p : ℕ) : Type 0 where
  pub free : own_if (λ x. not (has_home x)) (slice_get items p) ≡ true
  pub from : ℕ
  pub at_home : has nat_eq from home ≡ true
  pub steps : ℕ
  pub leads : Leads nat_eq (free_calls callees (homeless items)) steps from p

-- the copies are the items that are led to, in the order that is given, each once
pub record AreCopies (items : List MonoItem) (callees : List (Vec ℕ Global)) (order home copies : List ℕ) : Type 0 where
  pub sound : (p : ℕ) → has nat_eq p copies ≡ true → IsCopy items callees home p
  pub whole : (p : ℕ) → IsCopy items callees home p → has nat_eq p copies ≡ true
  pub listed : copies ≡ filter (λ p. has nat_eq p copies) order

pub record IsPlan (items : List MonoItem) (callees : List (Vec ℕ Global)) (order : List ℕ) (u : Merged) (plan : UnitPlan) : Type 0 where
  pub name : plan.name ≡ name_of (first_names items) u.firsts
  pub size : plan.size ≡ u.size
  pub home : plan.home.items ≡ own_items items order u.firsts
  pub copies : AreCopies items callees order plan.home.items plan.copies.items

abbrev pub ArePlans : List MonoItem → List (Vec ℕ Global) → List ℕ → List Merged → List UnitPlan → Type 0
ArePlans items callees order [] [] = Unit {0}
ArePlans items callees order (u ∷ us) (p ∷ ps) = IsPlan items callees order u p × ArePlans items callees order us ps
ArePlans items callees order _ _ = ⊥

-- the plans are those of the graph's units
pub record AreUnits (tree : Contents) (graph : MonoGraph) (limit : ℕ) (plans : List UnitPlan) : Type 0 where
  pub each : ArePlans graph.items.items graph.callees.items (text_order (symbols_of tree graph.items.items)) (units_left graph.items.items limit) plans

-- what the placing of items asks of a graph
pub record IsGraph (tree : Contents) (graph : MonoGraph) : Type 0 where
  pub few : length graph.items.items ≤ 65536
  -- each instance is there
  pub functions : All (λ x. x.instance.function < length tree.functions) graph.items.items
  pub arguments : All (λ x. x.instance.arguments < length tree.rows) graph.items.items
  -- no two items have one symbol
  pub apart : AreApart (symbols_of tree graph.items.items)
  -- each byte of a module's path stands above `+`
  pub places : All (λ x. AllByRecursion (λ c. 43 < c) x.place) graph.items.items
  -- each item has its callees, which are items
  pub rows : length graph.callees.items ≡ length graph.items.items
  pub inside : InRange graph.callees.items (length graph.items.items)
