use Rattle.std.proofs.Common.{◌∙◌, ap, map, take_all}
use Rattle.lar_typed.specs.TreeView.{function_view}
use Rattle.lar_typed.specs.declared.tree.TypedFunction.{TypedFunction}
use Rattle.std.proofs.Common.{List, ℕ}
use Rattle.mono_graph.specs.Instances.{root_places}
use Rattle.mono_collect.specs.Roots.{root_instance}
use Rattle.mono_collect.proofs.Rooted.{AreRoots, roots_found}
use Rattle.mono_collect.proofs.graph.found_roots.Goals as goal
use Rattle.mono_collect.proofs.graph.found_roots.Goals.{After-drop-places-2}

are : (c : After-drop-places-2) → AreRoots c.intern.new.self c.loop-place.found
are c = roots_found c.intern.new.self c.in_ok-none.none c.in_ok-places.places.items c.loop-place.found c.functions.ensures.facts c.in_ok-none.ensures.number
    (c.in_ok-places.ensures ∙ ap (λ (fs : List TypedFunction). root_places (map function_view fs)) c.functions.ensures.functions)
    (c.loop-place.invariant ∙ ap (λ (ps : List ℕ). map (root_instance c.in_ok-none.none) ps) (take_all _ _ c.loop-place-test.false ∙ c.deref-place-items.ensures.value))

pub returns-clause-few : goal.returns-clause-few
returns-clause-few c = (are c).few

pub returns-clause-inside : goal.returns-clause-inside
returns-clause-inside c = (are c).inside

pub returns-clause-roots : goal.returns-clause-roots
returns-clause-roots c = (are c).roots
