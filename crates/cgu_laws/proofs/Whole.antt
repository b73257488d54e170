-- What an item of a unit calls is in the unit or at home in one, and no unit has an item twice.
use Rattle.std.proofs.Common.{◌≡◌, ℕ, zero, suc, ◌<◌, List, [], ◌∷◌, ◌++◌, length, refl, sym, ap, ◌∙◌, subst, arith, Bool, true, false, ◌&&◌, ◌||◌, ◌⊎◌, inl, inr, Some}
use Rattle.std.specs.Prelude.{slice_get, nat_eq, not, Vec, All}
use Rattle.std.specs.Global.{Global}
use Rattle.std.specs.List.{AllByRecursion, IsDistinct}
use Rattle.std.specs.Cmp.{nat_eq_equiv}
use Rattle.std.proofs.lemmas.List.Elements.{recursion_from_All}
use Rattle.std.proofs.lemmas.Map.Keys.{IsDistinct-head, IsDistinct-tail, IsDistinct-cons}
use Rattle.std.proofs.lemmas.Map.Views.{exact_unsigned_eq}
use Rattle.std.proofs.lemmas.Option.{slice_get-map}
use Rattle.reach.specs.Reach.{has}
use Rattle.text_order.specs.TextOrder.{text_order}
use Rattle.text_order.proofs.Ordered.{order_inside, order_once}
use Rattle.cgu_copies.specs.Copies.{row_of, is_free, free_calls}
use Rattle.lar_typed.specs.TreeView.{Contents}
use Rattle.mono_items.specs.declared.items.MonoItem.{MonoItem}
use Rattle.mono_items.specs.declared.items.MonoGraph.{MonoGraph}
use Rattle.mono_items.specs.declared.items.UnitPlan.{UnitPlan}
use Rattle.mono_items.specs.Homes.{has_home, first_names}
use Rattle.mono_items.specs.Units.{symbols_of, is_own, own_if, own_items, homeless, AreCopies, IsGraph, AreUnits}
use Rattle.cgu_partition.proofs.Planned.{has_filter, filter_once}
use Rattle.cgu_laws.specs.Shared.{IsHome, has_item}
use Rattle.cgu_laws.proofs.Sharing.{plan_at, home_is, symbols_length, one_home, and_true, own_some}

has_all : (P : ℕ → Type 0) (xs : List ℕ) (p : ℕ) → AllByRecursion P xs → has nat_eq p xs ≡ true → P p
has_all P [] p h e = cc
has_all P (x ∷ xs) p h e = by (nat_eq p x) refl e (has_all P xs p h.1)
  where
    by : (b : Bool) → nat_eq p x ≡ b → (b || has nat_eq p xs) ≡ true → (has nat_eq p xs ≡ true → P p) → P p
    by true is e rest = subst P (sym (exact_unsigned_eq p x is)) h.0
    by false is e rest = rest e

all_has : (P : ℕ → Type 0) (xs : List ℕ) → ((p : ℕ) → has nat_eq p xs ≡ true → P p) → AllByRecursion P xs
all_has P [] f = tt
all_has P (x ∷ xs) f = (f x (ap (λ b. b || has nat_eq x xs) (nat_eq_equiv.refl x)), all_has P xs (λ p h. f p (or_right (nat_eq p x) (has nat_eq p xs) h)))
  where
    or_right : (a b : Bool) → b ≡ true → (a || b) ≡ true
    or_right true b h = refl
    or_right false b h = h

apart_from : (x : ℕ) (ys : List ℕ) → has nat_eq x ys ≡ false → AllByRecursion (λ y. nat_eq x y ≡ false) ys
apart_from x [] h = tt
apart_from x (y ∷ ys) h = by (nat_eq x y) refl h (apart_from x ys)
  where
    by : (b : Bool) → nat_eq x y ≡ b → (b || has nat_eq x ys) ≡ false → (has nat_eq x ys ≡ false → AllByRecursion (λ z. nat_eq x z ≡ false) ys) → AllByRecursion (λ z. nat_eq x z ≡ false) (y ∷ ys)
    by true is h rest = cc
    by false is h rest = (is, rest h)

all_joined : (P : ℕ → Type 0) (xs ys : List ℕ) → AllByRecursion P xs → AllByRecursion P ys → AllByRecursion P (xs ++ ys)
all_joined P [] ys h k = k
all_joined P (x ∷ xs) ys h k = (h.0, all_joined P xs ys h.1 k)

distinct_joined : (xs ys : List ℕ) → IsDistinct nat_eq xs → IsDistinct nat_eq ys → AllByRecursion (λ x. has nat_eq x ys ≡ false) xs → IsDistinct nat_eq (xs ++ ys)
distinct_joined [] ys p q h = q
distinct_joined (x ∷ xs) ys p q h = IsDistinct-cons nat_eq x (xs ++ ys) (all_joined (λ y. nat_eq x y ≡ false) xs ys (IsDistinct-head nat_eq x xs p) (apart_from x ys h.0)) (distinct_joined xs ys (IsDistinct-tail nat_eq x xs p) q h.1)

or_cases : (P : Type 0) (a b : Bool) → (a || b) ≡ true → (a ≡ true → P) → (b ≡ true → P) → P
or_cases P true b h f g = f refl
or_cases P false b h f g = g h

some_at : {A : Type 0} (xs : List A) (n : ℕ) → n < length xs → (x : A) × (slice_get xs n ≡ Some x)
some_at [] n l = absurd (omega arith)
some_at (x ∷ xs) zero l = (x, refl)
some_at (x ∷ xs) (suc n) l = some_at xs n (omega arith)

free_is : (items : List MonoItem) (t : ℕ) (x : MonoItem) → slice_get items t ≡ Some x → has_home x ≡ false → is_free (homeless items) t ≡ true
free_is items t x at h = rw (slice_get-map (λ y. not (has_home y)) items t, at) (ap not h)

row_all : (P : ℕ → Type 0) (rows : List (Vec ℕ Global)) (p : ℕ) → AllByRecursion (λ (row : Vec ℕ Global). AllByRecursion P row.items) rows → AllByRecursion P (row_of (slice_get rows p))
row_all P [] p h = tt
row_all P (r ∷ rows) zero h = h.0
row_all P (r ∷ rows) (suc p) h = row_all P rows p h.1

rows_by : (n : ℕ) (rows : List (Vec ℕ Global)) → AllByRecursion (λ (row : Vec ℕ Global). All (λ t. t < n) row.items) rows → AllByRecursion (λ (row : Vec ℕ Global). AllByRecursion (λ t. t < n) row.items) rows
rows_by n [] h = tt
rows_by n (r ∷ rows) h = (recursion_from_All (λ t. t < n) r.items h.0, rows_by n rows h.1)

module _ (tree : Contents) (graph : MonoGraph) (limit : ℕ) (plans : List UnitPlan) (g : IsGraph tree graph) (units : AreUnits tree graph limit plans) (k : ℕ) (plan : UnitPlan) (at : slice_get plans k ≡ Some plan) where
  abbrev items : List MonoItem
  items = graph.items.items

  abbrev order : List ℕ
  order = text_order (symbols_of tree graph.items.items)

  copies : AreCopies items graph.callees.items order plan.home.items plan.copies.items
  copies = (plan_at tree graph limit plans g units k plan at).is.copies

  ordered_inside : (p : ℕ) → has nat_eq p order ≡ true → p < length items
  ordered_inside p h = let l : p < length (symbols_of tree items) = has_all (λ q. q < length (symbols_of tree items)) order p (recursion_from_All (λ q. q < length (symbols_of tree items)) order (order_inside (symbols_of tree items))) h in omega (arith, symbols_length tree graph limit plans g units)

  home_ordered : (p : ℕ) → has nat_eq p plan.home.items ≡ true → has nat_eq p order ≡ true
  home_ordered p h = (and_true _ (has nat_eq p order) (sym (home_is tree graph limit plans g units k plan (plan_at tree graph limit plans g units k plan at) p) ∙ h)).1

  copy_ordered : (p : ℕ) → has nat_eq p plan.copies.items ≡ true → has nat_eq p order ≡ true
  copy_ordered p h = (and_true _ (has nat_eq p order) (sym (ap (has nat_eq p) copies.listed ∙ has_filter (λ q. has nat_eq q plan.copies.items) p order) ∙ h)).1

  pub items_inside : (p : ℕ) → has_item plan p ≡ true → p < length items
  items_inside p h = or_cases (p < length items) (has nat_eq p plan.home.items) (has nat_eq p plan.copies.items) h (λ e. ordered_inside p (home_ordered p e)) (λ e. ordered_inside p (copy_ordered p e))

  -- an item at home has a home
  homely : (p : ℕ) → has nat_eq p plan.home.items ≡ true → (x : MonoItem) × (slice_get items p ≡ Some x) × (has_home x ≡ true)
  homely p h =
      let q = plan_at tree graph limit plans g units k plan at in
      let t = and_true (own_if (is_own (first_names items) q.u.firsts) (slice_get items p)) (has nat_eq p order) (sym (home_is tree graph limit plans g units k plan q p) ∙ h) in
      let x = own_some (is_own (first_names items) q.u.firsts) (slice_get items p) t.0 in
      (x.0, x.1, (and_true (has_home x.0) _ x.2).0)

  no_copy : (p : ℕ) → has nat_eq p plan.home.items ≡ true → (b : Bool) → has nat_eq p plan.copies.items ≡ b → has nat_eq p plan.copies.items ≡ false
  no_copy p h false e = e
  no_copy p h true e =
      let x = homely p h in
      let f : own_if (λ y. not (has_home y)) (slice_get items p) ≡ true = (copies.sound p e).free in
      let n : not (has_home x.0) ≡ true = sym (ap (own_if (λ y. not (has_home y))) x.1) ∙ f in
      let m : not (has_home x.0) ≡ false = ap not x.2 in
      cc

  home_once : IsDistinct nat_eq plan.home.items
  unfolding own_items
  home_once = let q = plan_at tree graph limit plans g units k plan at in subst (IsDistinct nat_eq) (sym (q.is).home) (filter_once (λ j. own_if (is_own (first_names items) q.u.firsts) (slice_get items j)) order (order_once (symbols_of tree items)))

  copies_once : IsDistinct nat_eq plan.copies.items
  copies_once = subst (IsDistinct nat_eq) (sym copies.listed) (filter_once (λ p. has nat_eq p plan.copies.items) order (order_once (symbols_of tree items)))

  pub items_once : IsDistinct nat_eq (plan.home.items ++ plan.copies.items)
  items_once = distinct_joined plan.home.items plan.copies.items home_once copies_once (all_has (λ p. has nat_eq p plan.copies.items ≡ false) plan.home.items (λ p h. no_copy p h (has nat_eq p plan.copies.items) refl))

  module _ (p t : ℕ) (called : has nat_eq t (row_of (slice_get graph.callees.items p)) ≡ true) where
    room : t < length items
    room = has_all (λ q. q < length items) (row_of (slice_get graph.callees.items p)) t (row_all (λ q. q < length items) graph.callees.items p (rows_by (length items) graph.callees.items (recursion_from_All (λ (row : Vec ℕ Global). All (λ q. q < length items) row.items) graph.callees.items g.inside))) called

    free_call : (x : MonoItem) → slice_get items t ≡ Some x → has_home x ≡ false → has nat_eq t (free_calls graph.callees.items (homeless items) p) ≡ true
    unfolding free_calls
    free_call x is h = has_filter (is_free (homeless items)) t (row_of (slice_get graph.callees.items p)) ∙ ap (λ b. b && has nat_eq t (row_of (slice_get graph.callees.items p))) (free_is items t x is h) ∙ called

    copied : (x : MonoItem) → slice_get items t ≡ Some x → has_home x ≡ false → has_item plan p ≡ true → has nat_eq t plan.copies.items ≡ true
    copied x is h own =
        let free : own_if (λ y. not (has_home y)) (slice_get items t) ≡ true = ap (own_if (λ y. not (has_home y))) is ∙ ap not h in
        or_cases (has nat_eq t plan.copies.items ≡ true) (has nat_eq p plan.home.items) (has nat_eq p plan.copies.items) own
        (λ e. copies.whole t (record { free = free; from = p; at_home = e; steps = 1; leads = (p, refl, free_call x is h) }))
        (λ e. let s = copies.sound p e in copies.whole t (record { free = free; from = s.from; at_home = s.at_home; steps = suc s.steps; leads = (p, s.leads, free_call x is h) }))

    or_right : (a b : Bool) → b ≡ true → (a || b) ≡ true
    or_right true b h = refl
    or_right false b h = h

    pub callee_there : has_item plan p ≡ true → (has_item plan t ≡ true) ⊎ ((j : ℕ) × IsHome plans t j)
    callee_there own = let x = some_at items t room in by x.0 x.1 (has_home x.0) refl
      where
        by : (x : MonoItem) → slice_get items t ≡ Some x → (b : Bool) → has_home x ≡ b → (has_item plan t ≡ true) ⊎ ((j : ℕ) × IsHome plans t j)
        by x is true h = inr (one_home tree graph limit plans g units t x is h)
        by x is false h = inl (or_right (has nat_eq t plan.home.items) (has nat_eq t plan.copies.items) (copied x is h own))
