-- The units that plans have are those of the program.
use Rattle.std.proofs.Common.{◌≡◌, ℕ, ◌<◌, List, [], ◌∷◌, length, map, sym, ap, ◌∙◌, arith, Bool, true, ◌&&◌, Option, Some, None, refl}
use Rattle.std.specs.Prelude.{slice_get, nat_eq, Vec}
use Rattle.std.specs.List.{AllByRecursion, IsDistinct}
use Rattle.std.specs.Global.{Global}
use Rattle.std.proofs.lemmas.List.{length-map}
use Rattle.std.proofs.lemmas.List.Elements.{filter_agree}
use Rattle.std.proofs.lemmas.Option.{slice_get_within}
use Rattle.reach.specs.Reach.{has}
use Rattle.text_order.specs.TextOrder.{text_order}
use Rattle.cgu_merge.specs.Merging.{Merged, name_of}
use Rattle.cgu_copies.specs.Copies.{free_calls}
use Rattle.lar_typed.specs.TreeView.{Contents, plain}
use Rattle.lar_typed.proofs.SameTypes.{and_true, both_true}
use Rattle.mono_items.specs.declared.items.MonoItem.{MonoItem}
use Rattle.mono_items.specs.declared.items.MonoGraph.{MonoGraph}
use Rattle.mono_items.specs.declared.items.UnitPlan.{UnitPlan}
use Rattle.mono_items.specs.Homes.{first_names}
use Rattle.mono_items.specs.Units.{symbols_of, units_left, own_if, is_own, own_items, homeless, IsCopy, AreCopies, IsPlan, ArePlans, AreUnits}
use Rattle.mono_graph.specs.Instances.{PlainInstance, same_instance}
use Rattle.mono_graph.specs.Graphs.{IsItem, IsGraphOf, instances, placed, targets}
use Rattle.program_units.proofs.Apart.{found_apart}
use Rattle.units_text.specs.Lines.{PlainUnit, unit_view, unit_lines}
use Rattle.program_units.specs.Placing.{symbol_in, items_of, is_homeless, calls_homeless}
use Rattle.program_units.specs.Units.{is_led, copies_in, unit_with, unit_of, units_of, units_listed}
use Rattle.program_units.proofs.Called.{truth_same, has_filtered, calls_same}
use Rattle.program_units.proofs.Items.{bare, items_same, names_same, left_same, own_same, homeless_same}
use Rattle.program_units.proofs.Led.{LedTo, led_leads, leads_settles}
use Rattle.program_units.proofs.Symbols.{symbols_same}

own_there : (test : MonoItem → Bool) (items : List MonoItem) (p : ℕ) → own_if test (slice_get items p) ≡ true → p < length items
own_there test items p h = by (slice_get items p) refl h
  where
    by : (o : Option MonoItem) → slice_get items p ≡ o → own_if test o ≡ true → p < length items
    by None is h = cc
    by (Some x) is h = slice_get_within items p x is

module _ (tree : Contents) (items : List MonoItem) (callees : List (Vec ℕ Global)) (says : AllByRecursion (IsItem (plain tree)) items) (apart : IsDistinct same_instance (instances tree items)) (rows : placed (instances tree items) callees ≡ targets (plain tree) (instances tree items)) where
  abbrev us : List PlainInstance
  us = instances tree items

  count_same : length us ≡ length items
  count_same = length-map items _

  called_homeless : (q p : ℕ) → calls_homeless (plain tree) us q p ≡ true → is_homeless (plain tree) (slice_get us p) ≡ true
  unfolding calls_homeless
  called_homeless q p h = (and_true (is_homeless (plain tree) (slice_get us p)) _ h).0

  calls_inside : (q p : ℕ) → has nat_eq p (free_calls callees (homeless items) q) ≡ true → p < length us
  calls_inside q p h =
      let a : calls_homeless (plain tree) us q p ≡ true = calls_same tree items callees says apart rows q p ∙ h in
      let l : p < length items = own_there _ items p (sym (homeless_same tree items says p) ∙ called_homeless q p a) in
      let e : length us ≡ length items = count_same in
      omega arith

  module _ (order home copies : List ℕ) (home_inside : (p : ℕ) → has nat_eq p home ≡ true → p < length us) (are : AreCopies items callees order home copies) where
    abbrev led : ℕ → Bool
    led p = is_led (calls_homeless (plain tree) us) (length us) home (length us) p

    is_copy : (p : ℕ) → has nat_eq p copies ≡ true → (is_homeless (plain tree) (slice_get us p) && led p) ≡ true
    is_copy p h =
        let c : IsCopy items callees home p = are.sound p h in
        let free : is_homeless (plain tree) (slice_get us p) ≡ true = homeless_same tree items says p ∙ c.free in
        let e : length us ≡ length items = count_same in
        let l : p < length items = own_there _ items p c.free in
        both_true (is_homeless (plain tree) (slice_get us p)) (led p) free
        (leads_settles (free_calls callees (homeless items)) (calls_homeless (plain tree) us) (calls_same tree items callees says apart rows) (length us) home home_inside calls_inside p (omega arith) (c.from, c.at_home, (c.steps, c.leads)))

    has_copy : (p : ℕ) → (is_homeless (plain tree) (slice_get us p) && led p) ≡ true → has nat_eq p copies ≡ true
    has_copy p h =
        let both = and_true (is_homeless (plain tree) (slice_get us p)) (led p) h in
        let way : LedTo (free_calls callees (homeless items)) (calls_homeless (plain tree) us) (calls_same tree items callees says apart rows) (length us) home p = led_leads (free_calls callees (homeless items)) (calls_homeless (plain tree) us) (calls_same tree items callees says apart rows) (length us) home (length us) p both.1 in
        are.whole p (record { free = sym (homeless_same tree items says p) ∙ both.0; from = way.0; at_home = way.1; steps = way.2.0; leads = way.2.1 })

    copies_are : copies ≡ copies_in (plain tree) us order home
    unfolding copies_in
    copies_are = are.listed ∙ filter_agree (λ p. has nat_eq p copies) (λ p. is_homeless (plain tree) (slice_get us p) && led p) (λ p. truth_same (has nat_eq p copies) (is_homeless (plain tree) (slice_get us p) && led p) (is_copy p) (has_copy p)) order

  own_inside : (order firsts : List ℕ) (p : ℕ) → has nat_eq p (own_items items order firsts) ≡ true → p < length us
  unfolding own_items
  own_inside order firsts p h =
      let test : ℕ → Bool = λ k. own_if (is_own (first_names items) firsts) (slice_get items k) in
      let passes : test p ≡ true = (and_true (test p) (has nat_eq p order) (sym (has_filtered test p order) ∙ h)).0 in
      let l : p < length items = own_there _ items p passes in
      let e : length us ≡ length items = count_same in
      omega arith

  plan_is : (order : List ℕ) (u : Merged) (plan : UnitPlan) → IsPlan items callees order u plan → unit_view plan ≡ unit_of (plain tree) us order u
  plan_is order u plan is =
      let same : items_of (plain tree) us ≡ map bare items = items_same tree items says in
      let names : first_names (items_of (plain tree) us) ≡ first_names items = ap first_names same ∙ names_same items in
      let own : own_items (items_of (plain tree) us) order u.firsts ≡ own_items items order u.firsts = ap (λ (ys : List MonoItem). own_items ys order u.firsts) same ∙ own_same items order u.firsts in
      let inside : (p : ℕ) → has nat_eq p plan.home.items ≡ true → p < length us = λ p h. own_inside order u.firsts p (ap (λ (ys : List ℕ). has nat_eq p ys) (sym is.home) ∙ h) in
      let copies : plan.copies.items ≡ copies_in (plain tree) us order plan.home.items = copies_are order plan.home.items plan.copies.items inside is.copies in
      let name : plan.name ≡ name_of (first_names (items_of (plain tree) us)) u.firsts = is.name ∙ sym (ap (λ (ns : List (List ℕ)). name_of ns u.firsts) names) in
      let home : plan.home.items ≡ own_items (items_of (plain tree) us) order u.firsts = is.home ∙ sym own in
      let size : plan.size ≡ u.size = is.size in
      let with_home : unit_view plan ≡ unit_with (plain tree) us order u plan.home.items = cc in
      with_home ∙ ap (unit_with (plain tree) us order u) home

  plans_are : (order : List ℕ) (left : List Merged) (plans : List UnitPlan) → ArePlans items callees order left plans → map unit_view plans ≡ map (unit_of (plain tree) us order) left
  plans_are order [] [] h = refl
  plans_are order [] (p ∷ plans) h = absurd h
  plans_are order (u ∷ left) [] h = absurd h
  plans_are order (u ∷ left) (p ∷ plans) h =
      ap (λ (v : PlainUnit). v ∷ map unit_view plans) (plan_is order u p h.0)
      ∙ ap (λ (vs : List PlainUnit). unit_of (plain tree) us order u ∷ vs) (plans_are order left plans h.1)

pub units_are : (tree : Contents) (graph : MonoGraph) (limit : ℕ) (plans : List UnitPlan) → IsGraphOf tree graph → AreUnits tree graph limit plans → map unit_view plans ≡ units_of (plain tree) limit (instances tree graph.items.items)
unfolding units_of
units_are tree graph limit plans is units =
    let order : text_order (map (symbol_in (plain tree)) (instances tree graph.items.items)) ≡ text_order (symbols_of tree graph.items.items) = ap text_order (symbols_same tree graph.items.items) in
    let left : units_left (items_of (plain tree) (instances tree graph.items.items)) limit ≡ units_left graph.items.items limit = ap (λ (ys : List MonoItem). units_left ys limit) (items_same tree graph.items.items is.items) ∙ left_same graph.items.items limit in
    plans_are tree graph.items.items graph.callees.items is.items (found_apart (plain tree) (instances tree graph.items.items) is.found) is.callees (text_order (symbols_of tree graph.items.items)) (units_left graph.items.items limit) plans units.each
    ∙ ap (λ (us : List Merged). map (unit_of (plain tree) (instances tree graph.items.items) (text_order (symbols_of tree graph.items.items))) us) (sym left)
    ∙ ap (λ (ps : List ℕ). map (unit_of (plain tree) (instances tree graph.items.items) ps) (units_left (items_of (plain tree) (instances tree graph.items.items)) limit)) (sym order)

pub lines_are : (tree : Contents) (graph : MonoGraph) (limit : ℕ) (plans : List UnitPlan) → IsGraphOf tree graph → AreUnits tree graph limit plans → unit_lines (map unit_view plans) ≡ units_listed (plain tree) limit (instances tree graph.items.items)
unfolding units_listed
lines_are tree graph limit plans is units = ap unit_lines (units_are tree graph limit plans is units)
