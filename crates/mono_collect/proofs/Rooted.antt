-- Roots by their places.
use Rattle.std.proofs.Common.{◌≡◌, ℕ, ◌<◌, ◌≤◌, List, [], ◌∷◌, length, map, get_or, sym, ap, ◌∙◌, subst, arith, Bool, Option, refl, option_map}
use Rattle.std.specs.Prelude.{slice_get, filter, All}
use Rattle.std.specs.List.{AllByRecursion}
use Rattle.std.proofs.lemmas.List.{length-map}
use Rattle.std.proofs.lemmas.Option.{slice_get-map, slice_get_read}
use Rattle.type_table.specs.declared.row.Row.{Row}
use Rattle.type_table.specs.TypeOf.{TypeOf, end}
use Rattle.type_table.specs.Rows.{type_at, Stands}
use Rattle.text_order.specs.TextOrder.{text_order}
use Rattle.text_order.proofs.Ordered.{order_inside}
use Rattle.lar_typed.specs.declared.tree.TypedFunction.{TypedFunction}
use Rattle.lar_typed.specs.Trees.{function_map}
use Rattle.lar_typed.specs.TreeView.{Contents, IsTypedTree, function_view, plain}
use Rattle.mono_items.specs.declared.items.Instance.{Instance}
use Rattle.mono_graph.specs.Instances.{PlainInstance, instance_view, plain_instance, is_root, root_if, paths_of, root_places, roots}
use Rattle.mono_graph.proofs.RootPlaces.{paths_length, places_same, few_places, places_inside}
use Rattle.mono_collect.specs.Roots.{root_instance}
use Rattle.mono_collect.specs.States.{views, AreInside}

pub root_at : (fs : List TypedFunction) (k : ℕ) (f : TypedFunction) (b : Bool) → k < length fs → f ≡ get_or fs k f → b ≡ is_root (function_view f) → b ≡ root_if (slice_get (map function_view fs) k)
root_at fs k f b room is e = e ∙ sym (ap root_if (slice_get-map function_view fs k) ∙ ap (λ (o : Option TypedFunction). root_if (option_map function_view o)) (slice_get_read fs (length fs) k f refl room is))

-- each place in the order is one of a function
pub order_fits : (fs : List TypedFunction) (ps : List ℕ) → ps ≡ text_order (paths_of (map function_view fs)) → All (λ p. p < length fs) ps
order_fits fs ps e = subst (λ (n : ℕ). All (λ p. p < n) ps) (paths_length (map function_view fs) ∙ length-map fs function_view) (subst (λ (qs : List ℕ). All (λ p. p < length (paths_of (map function_view fs))) qs) (sym e) (order_inside (paths_of (map function_view fs))))

pub roots_are : (fs : List TypedFunction) (order rs : List ℕ) → order ≡ text_order (paths_of (map function_view fs)) → rs ≡ filter (λ k. root_if (slice_get (map function_view fs) k)) order → rs ≡ root_places (map function_view fs)
unfolding root_places
roots_are fs order rs o e = e ∙ ap (λ (ps : List ℕ). filter (λ k. root_if (slice_get (map function_view fs) k)) ps) o

-- ---- as instances
functions_inside : (none n : ℕ) (ps : List ℕ) → AllByRecursion (λ k. k < n) ps → AllByRecursion (λ x. x.function < n) (map (root_instance none) ps)
functions_inside none n [] h = tt
functions_inside none n (p ∷ ps) h = (h.0, functions_inside none n ps h.1)

arguments_inside : (none n : ℕ) (ps : List ℕ) → none < n → AllByRecursion (λ x. x.arguments < n) (map (root_instance none) ps)
arguments_inside none n [] l = tt
arguments_inside none n (p ∷ ps) l = (l, arguments_inside none n ps l)

root_views : (rows : List Row) (none : ℕ) (ps : List ℕ) → type_at rows none ≡ end → views rows (map (root_instance none) ps) ≡ map plain_instance ps
root_views rows none [] e = refl
root_views rows none (p ∷ ps) e =
    let first : instance_view rows (root_instance none p) ≡ plain_instance p = ap (λ (t : TypeOf). let x : PlainInstance = record { function = p; arguments = t } in x) e in
    let rest : views rows (map (root_instance none) ps) ≡ map plain_instance ps = root_views rows none ps e in
    cc

pub record AreRoots (tree : Contents) (found : List Instance) : Type 0 where
  pub few : length found ≤ 65536
  pub inside : AreInside tree found
  pub roots : views tree.rows found ≡ roots (plain tree)

pub roots_found : (tree : Contents) (none : ℕ) (ps : List ℕ) (found : List Instance) → IsTypedTree tree → Stands tree.rows none end → ps ≡ root_places (map function_view tree.functions) → found ≡ map (root_instance none) ps → AreRoots tree found
unfolding roots
roots_found tree none ps found typed stands places is =
    let at : found ≡ map (root_instance none) (root_places (map function_view tree.functions)) = is ∙ ap (map (root_instance none)) places in
    let len : length (map (root_instance none) (root_places (map function_view tree.functions))) ≡ length (root_places (map function_view tree.functions)) = length-map (root_places (map function_view tree.functions)) (root_instance none) in
    let most : length (root_places (map function_view tree.functions)) ≤ length (map function_view tree.functions) = few_places (map function_view tree.functions) in
    let count : length (map function_view tree.functions) ≡ length tree.functions = length-map tree.functions function_view in
    let all : length (plain tree).functions ≡ length tree.functions = length-map (map function_view tree.functions) (function_map (type_at tree.rows)) ∙ length-map tree.functions function_view in
    let limit : length (plain tree).functions ≤ 65535 = (typed.typed).few_functions in
    subst (AreRoots tree) (sym at) (record {
      few = omega arith;
      inside = record {
        functions = functions_inside none (length tree.functions) (root_places (map function_view tree.functions)) (subst (λ (n : ℕ). AllByRecursion (λ k. k < n) (root_places (map function_view tree.functions))) count (places_inside (map function_view tree.functions)));
        arguments = arguments_inside none (length tree.rows) (root_places (map function_view tree.functions)) stands.within;
      };
      roots = root_views tree.rows none (root_places (map function_view tree.functions)) stands.is ∙ ap (map plain_instance) (sym (places_same (type_at tree.rows) (map function_view tree.functions)));
    })
