-- The two lists of a unit: their items are there, none stands in them twice, and what a function of the unit calls is in them.
use Rattle.std.proofs.Common.{◌≡◌, ℕ, zero, suc, ◌<◌, ◌≤◌, List, [], ◌∷◌, ◌++◌, length, map, drop, get_or, refl, sym, ap, ◌∙◌, subst, arith, Bool, true, false, Option, Some, None, ◌⊎◌, inl, inr, option_map, ⊎_elim}
use Rattle.std.specs.Prelude.{slice_get, nat_eq, All, Vec}
use Rattle.std.specs.List.{flat_map, AllByRecursion, IsDistinct}
use Rattle.std.specs.Cmp.{nat_eq_equiv}
use Rattle.std.specs.Global.{Global}
use Rattle.std.specs.Str.{bytes_eq}
use Rattle.std.proofs.lemmas.Bool.{cases_lt}
use Rattle.std.proofs.lemmas.List.{length-map}
use Rattle.std.proofs.lemmas.List.Elements.{recursion_from_All}
use Rattle.std.proofs.lemmas.Map.Views.{exact_unsigned_eq}
use Rattle.std.proofs.lemmas.Map.Keys.{apart_from_distinct}
use Rattle.std.proofs.lemmas.Option.{slice_get-get_or, slice_get_within, get_or_from_slice_get, slice_get-map}
use Rattle.std.proofs.lemmas.Slice.Eq.{bytes_eq-Decides}
use Rattle.reach.specs.Reach.{has, added}
use Rattle.reach.proofs.Found.{added_front, once_added, has_added}
use Rattle.text_order.specs.TextOrder.{text_at, text_order, AreApart}
use Rattle.text_order.proofs.Ordered.{order_inside, order_once, order_all}
use Rattle.lar_typed.specs.TreeView.{Contents}
use Rattle.mono_items.specs.declared.items.MonoItem.{MonoItem}
use Rattle.mono_items.specs.declared.items.MonoGraph.{MonoGraph}
use Rattle.mono_items.specs.declared.items.UnitPlan.{UnitPlan}
use Rattle.mono_items.specs.Units.{symbols_of, IsGraph}
use Rattle.closed_input.specs.Unit.{symbol_at, callees_if, callees_at, own, outside, externals, IsPlanned}
use Rattle.closed_input.proofs.Distinct.{nat_same, all_append, all_back, all_at, all_from, all_map, all_with, all_flat, all_added, place_of, has_at, has_flat, has_either, has_front, has_back, once_back, once_apart, once_both, once_map, once_few, drop_front}

-- ---- symbols
symbol_is : (tree : Contents) (items : List MonoItem) (p : ℕ) → symbol_at tree items p ≡ text_at (symbols_of tree items) p
symbol_is tree [] p = refl
symbol_is tree (x ∷ xs) zero = refl
symbol_is tree (x ∷ xs) (suc p) = symbol_is tree xs p

same_place : (tree : Contents) (items : List MonoItem) (a b : ℕ) → AreApart (symbols_of tree items) → a < length items → b < length items → symbol_at tree items a ≡ symbol_at tree items b → a ≡ b
same_place tree items a b apart l m e =
    let len : length (symbols_of tree items) ≡ length items = length-map items _ in
    apart.each a b (omega arith) (omega arith) (sym (symbol_is tree items a) ∙ e ∙ symbol_is tree items b)

-- different items have different symbols
pub symbols_apart : (tree : Contents) (items : List MonoItem) (a b : ℕ) → AreApart (symbols_of tree items) → a < length items → b < length items → nat_eq a b ≡ false → bytes_eq (symbol_at tree items a) (symbol_at tree items b) ≡ false
symbols_apart tree items a b apart l m d = by (bytes_eq (symbol_at tree items a) (symbol_at tree items b)) refl
  where
    by : (c : Bool) → bytes_eq (symbol_at tree items a) (symbol_at tree items b) ≡ c → bytes_eq (symbol_at tree items a) (symbol_at tree items b) ≡ false
    by false e = e
    by true e =
        let same : a ≡ b = same_place tree items a b apart l m ((bytes_eq-Decides (symbol_at tree items a) (symbol_at tree items b)).0 e) in
        let t : nat_eq a b ≡ true = subst (λ (n : ℕ). nat_eq a n ≡ true) same (nat_same a) in
        cc

-- ---- places in a list without repeats
once_places : (xs : List ℕ) (i j : ℕ) → IsDistinct nat_eq xs → i < length xs → j < length xs → get_or xs i 0 ≡ get_or xs j 0 → i ≡ j
once_places xs i j h l m e = ⊎_elim (λ lt. absurd (clash i j lt m e)) (λ ge. ⊎_elim (λ gt. absurd (clash j i gt l (sym e))) (λ le. omega arith) (cases_lt j i)) (cases_lt i j)
  where
    clash : (a b : ℕ) → a < b → b < length xs → get_or xs a 0 ≡ get_or xs b 0 → ⊥
    clash a b lt room same =
        let f : nat_eq (get_or xs a 0) (get_or xs b 0) ≡ false = apart_from_distinct nat_eq xs a b 0 h lt room in
        let t : nat_eq (get_or xs a 0) (get_or xs b 0) ≡ true = subst (λ (n : ℕ). nat_eq (get_or xs a 0) n ≡ true) same (nat_same (get_or xs a 0)) in
        cc

module _ (tree : Contents) (graph : MonoGraph) (plan : UnitPlan) (is : IsGraph tree graph) (planned : IsPlanned graph plan) where
  abbrev Items : List MonoItem
  Items = graph.items.items

  abbrev Inside : ℕ → Type 0
  Inside p = p < length graph.items.items

  abbrev Called : List ℕ
  Called = flat_map (callees_at graph.callees.items) (own plan)

  abbrev Symbol : ℕ → List ℕ
  Symbol = symbol_at tree graph.items.items

  abbrev Outside : List ℕ
  Outside = outside graph plan

  pub own_inside : AllByRecursion Inside (own plan)
  own_inside = all_append Inside plan.home.items plan.copies.items (recursion_from_All Inside plan.home.items planned.home) (recursion_from_All Inside plan.copies.items planned.copies)

  row_inside : (o : Option (Vec ℕ Global)) (p : ℕ) → slice_get graph.callees.items p ≡ o → AllByRecursion Inside (callees_if o)
  row_inside None p e = tt
  row_inside (Some row) p e =
      recursion_from_All Inside row.items (all_at (λ (r : Vec ℕ Global). All Inside r.items) graph.callees.items p row (recursion_from_All (λ (r : Vec ℕ Global). All Inside r.items) graph.callees.items is.inside) e)

  called_inside : AllByRecursion Inside Called
  called_inside = all_flat Inside (callees_at graph.callees.items) (own plan) (all_from (λ (p : ℕ). AllByRecursion Inside (callees_at graph.callees.items p)) (own plan) (λ i p e. row_inside (slice_get graph.callees.items p) p refl))

  pub added_is : added nat_eq (own plan) Called ≡ own plan ++ Outside
  added_is =
      let f = added_front nat_eq nat_eq_equiv exact_unsigned_eq (own plan) Called in
      f.1 ∙ ap (λ (zs : List ℕ). own plan ++ zs) (sym (ap (λ (zs : List ℕ). drop (length (own plan)) zs) f.1 ∙ drop_front (own plan) f.0))

  all_once : IsDistinct nat_eq (own plan ++ Outside)
  all_once = subst (IsDistinct nat_eq) added_is (once_added nat_eq nat_eq_equiv exact_unsigned_eq (own plan) Called planned.once)

  outside_once : IsDistinct nat_eq Outside
  outside_once = once_back (own plan) Outside all_once

  outside_inside : AllByRecursion Inside Outside
  outside_inside = all_back Inside (own plan) Outside (subst (AllByRecursion Inside) added_is (all_added Inside (own plan) Called own_inside called_inside))

  abbrev Texts : List (List ℕ)
  Texts = map Symbol Outside

  abbrev Order : List ℕ
  Order = text_order Texts

  texts_count : length Texts ≡ length Outside
  texts_count = length-map Outside Symbol

  outside_at : (i : ℕ) → i < length Outside → Inside (get_or Outside i 0)
  outside_at i l = all_at Inside Outside i (get_or Outside i 0) outside_inside (slice_get-get_or Outside i 0 l)

  text_is : (i : ℕ) → i < length Outside → text_at Texts i ≡ Symbol (get_or Outside i 0)
  text_is i l = get_or_from_slice_get Texts i (Symbol (get_or Outside i 0)) [] (slice_get-map Symbol Outside i ∙ ap (option_map Symbol) (slice_get-get_or Outside i 0 l))

  texts_apart : AreApart Texts
  texts_apart = record { each = λ i j l m e. apart i j (subst (λ (n : ℕ). i < n) texts_count l) (subst (λ (n : ℕ). j < n) texts_count m) e }
    where
      apart : (i j : ℕ) → i < length Outside → j < length Outside → text_at Texts i ≡ text_at Texts j → i ≡ j
      apart i j l m e = once_places Outside i j outside_once l m (same_place tree Items (get_or Outside i 0) (get_or Outside j 0) is.apart (outside_at i l) (outside_at j m) (sym (text_is i l) ∙ e ∙ text_is j m))

  order_low : AllByRecursion (λ k. k < length Outside) Order
  order_low = subst (λ (n : ℕ). AllByRecursion (λ k. k < n) Order) texts_count (recursion_from_All (λ k. k < length Texts) Order (order_inside Texts))

  abbrev Externals : List ℕ
  Externals = externals tree graph plan

  at_place : ℕ → ℕ
  at_place k = get_or Outside k 0

  externals_are : Externals ≡ map (λ k. get_or Outside k 0) Order
  externals_are = refl

  externals_inside : AllByRecursion Inside Externals
  externals_inside = all_map Inside (λ k. get_or Outside k 0) Order (all_with (λ k. k < length Outside) (λ k. Inside (get_or Outside k 0)) Order outside_at order_low)

  externals_once : IsDistinct nat_eq Externals
  externals_once = once_map nat_eq (λ k. get_or Outside k 0) (λ k. k < length Outside) Order (λ a b l m d. told a b l m d (nat_eq (get_or Outside a 0) (get_or Outside b 0)) refl) order_low (order_once Texts)
    where
      told : (a b : ℕ) → a < length Outside → b < length Outside → nat_eq a b ≡ false → (c : Bool) → nat_eq (get_or Outside a 0) (get_or Outside b 0) ≡ c → nat_eq (get_or Outside a 0) (get_or Outside b 0) ≡ false
      told a b l m d false e = e
      told a b l m d true e =
          let same : a ≡ b = once_places Outside a b outside_once l m (exact_unsigned_eq (get_or Outside a 0) (get_or Outside b 0) e) in
          let t : nat_eq a b ≡ true = subst (λ (n : ℕ). nat_eq a n ≡ true) same (nat_same a) in
          cc

  -- an external is one of those outside
  external_outside : (q : ℕ) → has nat_eq q Externals ≡ true → has nat_eq q Outside ≡ true
  external_outside q h = by (place_of q Externals h)
    where
      at : (j k : ℕ) → slice_get Order j ≡ Some k → slice_get Externals j ≡ Some q → has nat_eq q Outside ≡ true
      at j k e f =
          let low : k < length Outside = all_at (λ i. i < length Outside) Order j k order_low e in
          let same : get_or Outside k 0 ≡ q = cc_from (sym (slice_get-map (λ i. get_or Outside i 0) Order j ∙ ap (option_map (λ (i : ℕ). get_or Outside i 0)) e) ∙ f) in
          has_at q Outside k (slice_get-get_or Outside k 0 low ∙ ap Some same)
        where
          cc_from : {x y : ℕ} → Some x ≡ Some y → x ≡ y
          cc_from z = cc

      by : (j : ℕ) × (slice_get Externals j ≡ Some q) → has nat_eq q Outside ≡ true
      by p =
          let room : p.0 < length Externals = slice_get_within Externals p.0 q p.1 in
          let len : length Externals ≡ length Order = length-map Order (λ k. get_or Outside k 0) in
          at p.0 (get_or Order p.0 0) (slice_get-get_or Order p.0 0 (omega arith)) p.1

  -- each of those outside is an external
  outside_external : (q : ℕ) → has nat_eq q Outside ≡ true → has nat_eq q Externals ≡ true
  outside_external q h =
      let p : (k : ℕ) × (slice_get Outside k ≡ Some q) = place_of q Outside h in
      let low : p.0 < length Outside = slice_get_within Outside p.0 q p.1 in
      let o : (j : ℕ) × (slice_get Order j ≡ Some p.0) = place_of p.0 Order (order_all Texts p.0 texts_apart (subst (λ (n : ℕ). p.0 < n) (sym texts_count) low)) in
      has_at q Externals o.0 (slice_get-map (λ i. get_or Outside i 0) Order o.0 ∙ ap (option_map (λ (i : ℕ). get_or Outside i 0)) o.1 ∙ ap Some (get_or_from_slice_get Outside p.0 q 0 p.1))

  -- both lists as one
  pub named_inside : AllByRecursion Inside (own plan ++ Externals)
  named_inside = all_append Inside (own plan) Externals own_inside externals_inside

  pub named_once : IsDistinct nat_eq (own plan ++ Externals)
  named_once = once_both (own plan) Externals planned.once externals_once (λ q a b. once_apart (own plan) Outside q all_once a (external_outside q b))

  -- what a function of the unit calls is in them
  pub callee_named : (i p q : ℕ) → slice_get (own plan) i ≡ Some p → has nat_eq q (callees_at graph.callees.items p) ≡ true → (j : ℕ) × (slice_get (own plan ++ Externals) j ≡ Some q)
  callee_named i p q e h =
      let found : has nat_eq q (own plan ++ Outside) ≡ true = subst (λ (xs : List ℕ). has nat_eq q xs ≡ true) added_is (has_added nat_eq nat_eq_equiv exact_unsigned_eq q (own plan) Called (has_flat q (callees_at graph.callees.items) (own plan) i p e h)) in
      place_of q (own plan ++ Externals) (by (has_either q (own plan) Outside found))
    where
      by : (has nat_eq q (own plan) ≡ true) ⊎ (has nat_eq q Outside ≡ true) → has nat_eq q (own plan ++ Externals) ≡ true
      by (inl f) = has_front q (own plan) Externals f
      by (inr f) = has_back q (own plan) Externals (outside_external q f)

  -- there are at most 65,536 in both
  pub named_few : length (own plan ++ Externals) ≤ 65536
  named_few =
      let few : length graph.items.items ≤ 65536 = is.few in
      let low : length (own plan ++ Externals) ≤ length graph.items.items = once_few (length graph.items.items) (own plan ++ Externals) named_inside named_once in
      omega arith

  -- no two of them have one symbol
  pub symbols_once : IsDistinct bytes_eq (map Symbol (own plan ++ Externals))
  symbols_once = once_map bytes_eq Symbol Inside (own plan ++ Externals) (λ a b l m d. symbols_apart tree Items a b is.apart l m d) named_inside named_once
