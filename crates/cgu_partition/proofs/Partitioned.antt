-- The steps put together.
use Rattle.std.proofs.Common.{◌≡◌, ℕ, ◌<◌, List, [], ◌∷◌, length, map, get_or, refl, sym, ap, ◌∙◌, subst, arith, Bool, Option, Some, None}
use Rattle.std.specs.Prelude.{All, slice_get, Vec}
use Rattle.std.specs.List.{AllByRecursion, AllZip}
use Rattle.std.specs.Global.{Global}
use Rattle.std.proofs.lemmas.List.{length-map}
use Rattle.std.proofs.lemmas.List.Elements.{All-from_recursion, recursion_from_All}
use Rattle.std.proofs.lemmas.Option.{slice_get-get_or, slice_get_within}
use Rattle.text_order.specs.TextOrder.{text_order}
use Rattle.text_order.proofs.Ordered.{order_inside, order_once, order_all}
use Rattle.lar_typed.specs.TreeView.{Contents}
use Rattle.cgu_merge.specs.declared.units.MergedUnit.{MergedUnit}
use Rattle.cgu_merge.specs.Merging.{merged_units}
use Rattle.cgu_merge.specs.Ranked.{finished, named_view}
use Rattle.cgu_merge.proofs.Names.{merged_inside}
use Rattle.mono_items.specs.declared.items.MonoItem.{MonoItem}
use Rattle.mono_items.specs.declared.items.MonoGraph.{MonoGraph}
use Rattle.mono_items.specs.declared.items.UnitPlan.{UnitPlan}
use Rattle.mono_items.specs.Homes.{first_names, home_size}
use Rattle.mono_items.specs.Units.{symbols_of, homeless, units_left, ArePlans, IsGraph, AreUnits}
use Rattle.mono_items.specs.Symbols.{symbol_of}
use Rattle.cgu_copies.specs.Copies.{InRange}
use Rattle.cgu_partition.specs.Owners.{IsOwner, AreOwners}
use Rattle.cgu_partition.specs.Placed.{ArePlaces, IsPlaced}
use Rattle.cgu_partition.proofs.Named.{names_are, names_apart}
use Rattle.cgu_partition.proofs.Planned.{plans_are, units_inside}

some_inside : (names : List (List ℕ)) (items : List MonoItem) (owners : List (Option ℕ)) → AreOwners names items owners → (p r : ℕ) → slice_get owners p ≡ Some (Some r) → r < length names
some_inside names items owners owns p r at = by items refl
  where
    room : p < length owners
    room = slice_get_within owners p (Some r) at

    value : get_or owners p None ≡ Some r
    value = let e : Some (get_or owners p None) ≡ Some (Some r) = sym (slice_get-get_or owners p None room) ∙ at in cc

    by : (xs : List MonoItem) → xs ≡ items → r < length names
    by [] none = absurd (let e : 0 ≡ length items = ap length none in let l : p < length owners = room in let c : length owners ≡ length items = owns.count in omega arith)
    by (d ∷ xs) some = (subst (λ (o : Option ℕ). IsOwner names (get_or items p d) o) value (owns.each p d None (omega (arith, owns.count, room)))).1

module _ (tree : Contents) (graph : MonoGraph) (g : IsGraph tree graph) where
  symbols_length : length (symbols_of tree graph.items.items) ≡ length graph.items.items
  symbols_length = length-map graph.items.items (λ x. symbol_of tree x.instance)

  pub places_are : (owners : List (Option ℕ)) → AreOwners (first_names graph.items.items) graph.items.items owners → ArePlaces (length (homeless graph.items.items)) (text_order (symbols_of tree graph.items.items)) owners (homeless graph.items.items) graph.callees.items (length (first_names graph.items.items))
  places_are owners owns =
      let free : length (homeless graph.items.items) ≡ length graph.items.items = length-map graph.items.items _ in
      record {
        listed = record {
          order_inside = subst (λ (n : ℕ). All (λ p. p < n) (text_order (symbols_of tree graph.items.items))) (symbols_length ∙ sym free) (order_inside (symbols_of tree graph.items.items));
          order_once = order_once (symbols_of tree graph.items.items);
          order_all = λ p l. order_all (symbols_of tree graph.items.items) p g.apart (omega (arith, symbols_length, free));
          homeless_count = refl;
          callees_count = g.rows ∙ sym free;
          callees_inside = subst (λ (n : ℕ). InRange graph.callees.items n) (sym free) g.inside;
        };
        owners_count = owns.count ∙ sym free;
        owners_inside = some_inside (first_names graph.items.items) graph.items.items owners owns;
      }

  module _ (limit : ℕ) (sizes : List ℕ) (are : sizes ≡ map (home_size graph.items.items) (first_names graph.items.items)) (us : List MergedUnit) (merged : map named_view us ≡ map (finished (first_names graph.items.items)) (merged_units (first_names graph.items.items) sizes limit)) where
    left_inside : AllByRecursion (λ u. AllByRecursion (λ p. p < length (first_names graph.items.items)) u.firsts) (merged_units (first_names graph.items.items) sizes limit)
    left_inside = merged_inside (first_names graph.items.items) (names_are graph.items.items g.places) sizes (ap length are ∙ length-map (first_names graph.items.items) (home_size graph.items.items)) limit

    pub firsts_inside : All (λ u. All (λ p. p < length (first_names graph.items.items)) u.firsts.items) us
    firsts_inside = All-from_recursion (λ (u : MergedUnit). All (λ p. p < length (first_names graph.items.items)) u.firsts.items) us (units_inside (first_names graph.items.items) (merged_units (first_names graph.items.items) sizes limit) us merged left_inside)

    pub units_are : (owners : List (Option ℕ)) → AreOwners (first_names graph.items.items) graph.items.items owners → (plans : List UnitPlan) → AllZip (IsPlaced (text_order (symbols_of tree graph.items.items)) owners (homeless graph.items.items) graph.callees.items) us plans → AreUnits tree graph limit plans
    unfolding units_left
    units_are owners owns plans h = record {
      each = subst (λ (ss : List ℕ). ArePlans graph.items.items graph.callees.items (text_order (symbols_of tree graph.items.items)) (merged_units (first_names graph.items.items) ss limit) plans) are
          (plans_are graph.items.items graph.callees.items (text_order (symbols_of tree graph.items.items)) owners (first_names graph.items.items) refl (names_apart graph.items.items) owns
          (order_once (symbols_of tree graph.items.items))
          (recursion_from_All (λ p. p < length graph.items.items) (text_order (symbols_of tree graph.items.items)) (subst (λ (n : ℕ). All (λ p. p < n) (text_order (symbols_of tree graph.items.items))) symbols_length (order_inside (symbols_of tree graph.items.items))))
          (λ k l. order_all (symbols_of tree graph.items.items) k g.apart (subst (λ (n : ℕ). k < n) (sym symbols_length) l))
          (merged_units (first_names graph.items.items) sizes limit) us plans merged left_inside h);
    }

pub placed_same : (o o2 : List ℕ) (w w2 : List (Option ℕ)) (f f2 : List Bool) (k k2 : List (Vec ℕ Global)) (us us2 : List MergedUnit) (ps : List UnitPlan) → o ≡ o2 → w ≡ w2 → f ≡ f2 → k ≡ k2 → us ≡ us2 → AllZip (IsPlaced o w f k) us ps → AllZip (IsPlaced o2 w2 f2 k2) us2 ps
placed_same o o2 w w2 f f2 k k2 us us2 ps a b c d e h =
    subst (λ x. AllZip (IsPlaced o2 w2 f2 k2) x ps) e (subst (λ x. AllZip (IsPlaced o2 w2 f2 x) us ps) d (subst (λ x. AllZip (IsPlaced o2 w2 x k) us ps) c (subst (λ x. AllZip (IsPlaced o2 x f k) us ps) b (subst (λ x. AllZip (IsPlaced x w f k) us ps) a h))))
