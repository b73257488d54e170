-- How the units of a graph share its items.
use Rattle.std.proofs.Common.{◌≡◌, ℕ, zero, suc, ◌<◌, List, [], ◌∷◌, length, map, refl, sym, ap, ◌∙◌, subst, arith, Bool, true, false, cond, ◌&&◌, ◌||◌, Option, Some, None}
use Rattle.std.specs.Prelude.{slice_get, nat_eq, filter, Vec}
use Rattle.std.specs.Global.{Global}
use Rattle.std.specs.List.{AllByRecursion, list_any}
use Rattle.std.specs.Cmp.{nat_eq_equiv}
use Rattle.std.specs.Str.{bytes_eq}
use Rattle.std.proofs.lemmas.List.{length-map}
use Rattle.std.proofs.lemmas.Map.Views.{exact_unsigned_eq}
use Rattle.std.proofs.lemmas.Option.{slice_get_within}
use Rattle.std.proofs.lemmas.Slice.Eq.{bytes_eq-Decides}
use Rattle.reach.specs.Reach.{has}
use Rattle.text_order.specs.TextOrder.{text_at, text_order, AreApart}
use Rattle.text_order.proofs.Ordered.{order_all, order_has}
use Rattle.cgu_merge.specs.Merging.{Merged, merged_units}
use Rattle.cgu_merge.proofs.Names.{merged_inside}
use Rattle.lar_typed.specs.TreeView.{Contents}
use Rattle.mono_items.specs.declared.items.MonoItem.{MonoItem}
use Rattle.mono_items.specs.declared.items.MonoGraph.{MonoGraph}
use Rattle.mono_items.specs.declared.items.UnitPlan.{UnitPlan}
use Rattle.mono_items.specs.Homes.{has_home, home_of, homes, first_names, home_size}
use Rattle.mono_items.specs.Symbols.{symbol_of}
use Rattle.mono_items.specs.Units.{symbols_of, units_left, is_own, own_if, own_items, IsPlan, ArePlans, IsGraph, AreUnits}
use Rattle.cgu_partition.proofs.Named.{names_are, names_apart}
use Rattle.cgu_partition.proofs.Planned.{has_filter}
use Rattle.cgu_laws.specs.Shared.{home_if, at_home, IsHome}
use Rattle.cgu_partition.proofs.Tallies.{total_units, OneUnit, one_unit}

pub and_true : (a b : Bool) → (a && b) ≡ true → (a ≡ true) × (b ≡ true)
and_true true true h = (refl, refl)
and_true true false h = cc
and_true false b h = cc

-- a plan and its unit stand at the same place
pub record Paired (items : List MonoItem) (callees : List (Vec ℕ Global)) (order : List ℕ) (us : List Merged) (k : ℕ) (plan : UnitPlan) : Type 0 where
  pub u : Merged
  pub there : slice_get us k ≡ Some u
  pub is : IsPlan items callees order u plan

paired : (items : List MonoItem) (callees : List (Vec ℕ Global)) (order : List ℕ) (us : List Merged) (plans : List UnitPlan) (k : ℕ) (plan : UnitPlan) → ArePlans items callees order us plans → slice_get plans k ≡ Some plan → Paired items callees order us k plan
paired items callees order [] [] k plan h at = cc
paired items callees order [] (p ∷ ps) k plan h at = absurd h
paired items callees order (u ∷ us) [] k plan h at = absurd h
paired items callees order (u ∷ us) (p ∷ ps) zero plan h at = let same : p ≡ plan = cc in record { u = u; there = refl; is = subst (IsPlan items callees order u) same h.0 }
paired items callees order (u ∷ us) (p ∷ ps) (suc k) plan h at = let r = paired items callees order us ps k plan h.1 at in record { u = r.u; there = r.there; is = r.is }

pub plan_of : (items : List MonoItem) (callees : List (Vec ℕ Global)) (order : List ℕ) (us : List Merged) (plans : List UnitPlan) (k : ℕ) (u : Merged) → ArePlans items callees order us plans → slice_get us k ≡ Some u → (plan : UnitPlan) × (slice_get plans k ≡ Some plan) × IsPlan items callees order u plan
plan_of items callees order [] [] k u h at = cc
plan_of items callees order [] (p ∷ ps) k u h at = absurd h
plan_of items callees order (v ∷ us) [] k u h at = absurd h
plan_of items callees order (v ∷ us) (p ∷ ps) zero u h at = let same : v ≡ u = cc in (p, refl, subst (λ (w : Merged). IsPlan items callees order w p) same h.0)
plan_of items callees order (v ∷ us) (p ∷ ps) (suc k) u h at = plan_of items callees order us ps k u h.1 at

-- ---- homes by name
home_listed : (items : List MonoItem) (p : ℕ) (x : MonoItem) → slice_get items p ≡ Some x → has_home x ≡ true → (k : ℕ) × (k < length (homes items)) × (text_at (homes items) k ≡ home_of x)
home_listed [] p x at h = cc
home_listed (y ∷ items) zero x at h = let same : y ≡ x = cc in by (has_home y) (ap has_home same ∙ h)
  where
    by : (b : Bool) → b ≡ true → (k : ℕ) × (k < length (map home_of (cond b (y ∷ filter has_home items) (filter has_home items)))) × (text_at (map home_of (cond b (y ∷ filter has_home items) (filter has_home items))) k ≡ home_of x)
    by true e = (0, (omega arith), (let same : y ≡ x = cc in ap home_of same))
    by false e = cc
home_listed (y ∷ items) (suc p) x at h = by (has_home y) (home_listed items p x at h)
  where
    by : (b : Bool) → ((k : ℕ) × (k < length (homes items)) × (text_at (homes items) k ≡ home_of x)) → (k : ℕ) × (k < length (map home_of (cond b (y ∷ filter has_home items) (filter has_home items)))) × (text_at (map home_of (cond b (y ∷ filter has_home items) (filter has_home items))) k ≡ home_of x)
    by true r = (suc r.0, (let l : r.0 < length (homes items) = r.1 in omega arith), r.2)
    by false r = r

name_listed : (items : List MonoItem) (p : ℕ) (x : MonoItem) → slice_get items p ≡ Some x → has_home x ≡ true → (r : ℕ) × (r < length (first_names items)) × (text_at (first_names items) r ≡ home_of x)
unfolding first_names
name_listed items p x at h =
    let k = home_listed items p x at h in
    let r = order_has (homes items) k.0 k.1 in
    (r.0, (let l : r.0 < length (text_order (homes items)) = r.1 in let e : length (map (text_at (homes items)) (text_order (homes items))) ≡ length (text_order (homes items)) = length-map (text_order (homes items)) (text_at (homes items)) in omega arith), r.2 ∙ k.2)

-- whether a unit has the home is whether its place is one of the unit's
same_test : (names : List (List ℕ)) (apart : AreApart names) (home : List ℕ) (r : ℕ) → r < length names → text_at names r ≡ home → (k : ℕ) → k < length names → bytes_eq home (text_at names k) ≡ nat_eq r k
same_test names apart home r inside is k l = by (bytes_eq home (text_at names k)) refl (nat_eq r k) refl
  where
    by : (b : Bool) → bytes_eq home (text_at names k) ≡ b → (a : Bool) → nat_eq r k ≡ a → b ≡ a
    by true f true e = refl
    by false f false e = refl
    by false f true e = absurd (let same : bytes_eq home (text_at names k) ≡ true = (bytes_eq-Decides home (text_at names k)).1 (sym is ∙ ap (λ (n : ℕ). text_at names n) (exact_unsigned_eq r k e)) in cc)
    by true f false e = absurd (let same : r ≡ k = apart.each r k inside l (is ∙ (bytes_eq-Decides home (text_at names k)).0 f) in let t : nat_eq r k ≡ true = subst (λ (n : ℕ). nat_eq r n ≡ true) same (nat_eq_equiv.refl r) in cc)

same_any : (names : List (List ℕ)) (apart : AreApart names) (home : List ℕ) (r : ℕ) → r < length names → text_at names r ≡ home → (ks : List ℕ) → AllByRecursion (λ k. k < length names) ks → list_any (λ k. bytes_eq home (text_at names k)) ks ≡ has nat_eq r ks
same_any names apart home r inside is [] h = refl
same_any names apart home r inside is (k ∷ ks) h = ap (λ b. b || list_any (λ j. bytes_eq home (text_at names j)) ks) (same_test names apart home r inside is k h.0) ∙ ap (λ b. nat_eq r k || b) (same_any names apart home r inside is ks h.1)

all_got : {A : Type 0} (P : A → Type 0) (xs : List A) (i : ℕ) (x : A) → AllByRecursion P xs → slice_get xs i ≡ Some x → P x
all_got P [] i x h e = cc
all_got P (y ∷ xs) zero x h e = let same : y ≡ x = cc in subst P same h.0
all_got P (y ∷ xs) (suc i) x h e = all_got P xs i x h.1 e

pub own_some : (test : MonoItem → Bool) (o : Option MonoItem) → own_if test o ≡ true → (x : MonoItem) × (o ≡ Some x) × (test x ≡ true)
own_some test None h = cc
own_some test (Some x) h = (x, refl, h)

some_plan : (plans : List UnitPlan) (k p : ℕ) (o : Option UnitPlan) → slice_get plans k ≡ o → home_if o p ≡ true → (plan : UnitPlan) × (slice_get plans k ≡ Some plan) × (has nat_eq p plan.home.items ≡ true)
some_plan plans k p None at h = cc
some_plan plans k p (Some plan) at h = (plan, at, h)

module _ (tree : Contents) (graph : MonoGraph) (limit : ℕ) (plans : List UnitPlan) (g : IsGraph tree graph) (units : AreUnits tree graph limit plans) where
  abbrev items : List MonoItem
  items = graph.items.items

  abbrev order : List ℕ
  order = text_order (symbols_of tree graph.items.items)

  abbrev names : List (List ℕ)
  names = first_names graph.items.items

  sizes_length : length (map (home_size items) names) ≡ length names
  sizes_length = length-map names (home_size items)

  firsts_inside : AllByRecursion (λ u. AllByRecursion (λ k. k < length names) u.firsts) (units_left items limit)
  unfolding units_left
  firsts_inside = merged_inside names (names_are items g.places) (map (home_size items) names) sizes_length limit

  pub symbols_length : length (symbols_of tree items) ≡ length items
  symbols_length = length-map items (λ x. symbol_of tree x.instance)

  in_order : (p : ℕ) → p < length items → has nat_eq p order ≡ true
  in_order p l = order_all (symbols_of tree items) p g.apart (omega (arith, symbols_length))

  -- what a plan has at home
  pub home_is : (k : ℕ) (plan : UnitPlan) (q : Paired items graph.callees.items order (units_left items limit) k plan) (p : ℕ) → has nat_eq p plan.home.items ≡ (own_if (is_own names q.u.firsts) (slice_get items p) && has nat_eq p order)
  unfolding own_items
  home_is k plan q p = ap (has nat_eq p) (q.is).home ∙ has_filter (λ j. own_if (is_own names q.u.firsts) (slice_get items j)) p order

  pub plan_at : (k : ℕ) (plan : UnitPlan) → slice_get plans k ≡ Some plan → Paired items graph.callees.items order (units_left items limit) k plan
  plan_at k plan at = paired items graph.callees.items order (units_left items limit) plans k plan units.each at

  only : (k p : ℕ) → at_home plans k p ≡ true → (x : MonoItem) × (slice_get items p ≡ Some x) × (has_home x ≡ true)
  only k p h =
      let s = some_plan plans k p (slice_get plans k) refl h in
      let q = plan_at k s.0 s.1 in
      let t = and_true (own_if (is_own names q.u.firsts) (slice_get items p)) (has nat_eq p order) (sym (home_is k s.0 q p) ∙ s.2) in
      let x = own_some (is_own names q.u.firsts) (slice_get items p) t.0 in
      (x.0, x.1, (and_true (has_home x.0) _ x.2).0)

  pub only_homes : (k p : ℕ) → at_home plans k p ≡ true → (x : MonoItem) × (slice_get items p ≡ Some x) × (has_home x ≡ true)
  only_homes k p h = only k p h

  module _ (p : ℕ) (x : MonoItem) (at : slice_get items p ≡ Some x) (homely : has_home x ≡ true) where
    own_is : (u : Merged) (k : ℕ) → slice_get (units_left items limit) k ≡ Some u → (r : ℕ) → r < length names → text_at names r ≡ home_of x → own_if (is_own names u.firsts) (slice_get items p) ≡ has nat_eq r u.firsts
    own_is u k there r inside is =
        let all : AllByRecursion (λ j. j < length names) u.firsts = all_got (λ (v : Merged). AllByRecursion (λ j. j < length names) v.firsts) (units_left items limit) k u firsts_inside there in
        ap (own_if (is_own names u.firsts)) at ∙ ap (λ b. b && list_any (λ j. bytes_eq (home_of x) (text_at names j)) u.firsts) homely ∙ same_any names (names_apart items) (home_of x) r inside is u.firsts all

    one : (r : ℕ) → r < length names → OneUnit r (units_left items limit)
    unfolding units_left
    one r l = one_unit r (merged_units names (map (home_size items) names) limit) (total_units r names (map (home_size items) names) limit (omega (arith, sizes_length)))

    pub one_home : (k : ℕ) × IsHome plans p k
    one_home =
        let r = name_listed items p x at homely in
        let o = one r.0 r.1 in
        let plan = plan_of items graph.callees.items order (units_left items limit) plans o.at o.u units.each o.there in
        (o.at, record { there = there r.0 r.1 r.2 o plan.0 plan.1 plan.2; alone = alone r.0 r.1 r.2 o })
      where
        room : p < length items
        room = slice_get_within items p x at

        there : (r : ℕ) → r < length names → text_at names r ≡ home_of x → (o : OneUnit r (units_left items limit)) (plan : UnitPlan) → slice_get plans o.at ≡ Some plan → IsPlan items graph.callees.items order o.u plan → at_home plans o.at p ≡ true
        there r l is o plan pat ip =
            let q : Paired items graph.callees.items order (units_left items limit) o.at plan = record { u = o.u; there = o.there; is = ip } in
            ap (λ y. home_if y p) pat ∙ home_is o.at plan q p ∙ ap (λ b. b && has nat_eq p order) (own_is o.u o.at o.there r l is ∙ o.has_it) ∙ in_order p room

        alone : (r : ℕ) → r < length names → text_at names r ≡ home_of x → (o : OneUnit r (units_left items limit)) (k : ℕ) → at_home plans k p ≡ true → k ≡ o.at
        alone r l is o k h =
            let s = some_plan plans k p (slice_get plans k) refl h in
            let q = plan_at k s.0 s.1 in
            let t = and_true (own_if (is_own names q.u.firsts) (slice_get items p)) (has nat_eq p order) (sym (home_is k s.0 q p) ∙ s.2) in
            o.alone k q.u q.there (sym (own_is q.u k q.there r l is) ∙ t.0)
