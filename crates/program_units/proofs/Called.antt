-- The calls of a graph are those of a program's instances.
use Rattle.std.proofs.Common.{◌≡◌, ℕ, ◌<◌, zero, suc, List, [], ◌∷◌, map, get_or, sym, ap, ◌∙◌, arith, Bool, true, false, ◌&&◌, Option, Some, None, refl, option_map, ⊎_elim}
use Rattle.std.specs.Prelude.{slice_get, filter, nat_eq, Vec}
use Rattle.std.specs.List.{AllByRecursion, IsDistinct}
use Rattle.std.specs.Global.{Global}
use Rattle.std.proofs.lemmas.Bool.{cases_lt, eqb-true, eq-eqb}
use Rattle.std.proofs.lemmas.Map.Keys.{apart_from_distinct}
use Rattle.std.proofs.lemmas.Map.Views.{any-filter_same}
use Rattle.std.proofs.lemmas.Option.{slice_get-map, slice_get_within, get_or_from_slice_get}
use Rattle.reach.specs.Reach.{has}
use Rattle.type_table.specs.TypeOf.{TypeOf}
use Rattle.cgu_copies.specs.Copies.{row_of, is_free, free_calls}
use Rattle.lar_typed.specs.Calls.{CallOf}
use Rattle.lar_typed.specs.Trees.{PlainTree}
use Rattle.lar_typed.specs.TreeView.{Contents, plain}
use Rattle.mono_items.specs.declared.items.MonoItem.{MonoItem}
use Rattle.mono_items.specs.Units.{homeless}
use Rattle.mono_graph.specs.Instances.{PlainInstance, same_instance, target, calls_of}
use Rattle.mono_graph.specs.Graphs.{IsItem, instances, placed, targets}
use Rattle.graph_laws.proofs.Same.{same_is, is_same}
use Rattle.program_units.specs.Placing.{is_homeless, calls_it, calls_homeless}
use Rattle.program_units.proofs.Items.{homeless_if, homeless_same}

pub truth_same : (a b : Bool) → (a ≡ true → b ≡ true) → (b ≡ true → a ≡ true) → a ≡ b
truth_same true b p q = sym (p refl)
truth_same false true p q = q refl
truth_same false false p q = refl

-- what a filter keeps passes the test
pub has_filtered : (f : ℕ → Bool) (p : ℕ) (xs : List ℕ) → has nat_eq p (filter f xs) ≡ (f p && has nat_eq p xs)
has_filtered f p xs = any-filter_same (nat_eq p) f (f p) (λ k h. ap f (sym (eqb-true p k h))) xs

pub free_same : (items : List MonoItem) (p : ℕ) → is_free (homeless items) p ≡ homeless_if (slice_get items p)
free_same [] p = refl
free_same (x ∷ items) zero = refl
free_same (x ∷ items) (suc p) = free_same items p

-- ---- where no instance is there twice, an instance tells its place
module _ (us : List PlainInstance) (apart : IsDistinct same_instance us) where
  not_before : (i j : ℕ) (x : PlainInstance) → i < j → slice_get us i ≡ Some x → slice_get us j ≡ Some x → ⊥
  not_before i j x l p q =
      let a : get_or us i x ≡ x = get_or_from_slice_get us i x x p in
      let b : get_or us j x ≡ x = get_or_from_slice_get us j x x q in
      let differ : same_instance (get_or us i x) (get_or us j x) ≡ false = apart_from_distinct same_instance us i j x apart l (slice_get_within us j x q) in
      let same : same_instance (get_or us i x) (get_or us j x) ≡ true = is_same (get_or us i x) (get_or us j x) (a ∙ sym b) in
      cc

  place_is : (i j : ℕ) (x : PlainInstance) → slice_get us i ≡ Some x → slice_get us j ≡ Some x → i ≡ j
  place_is i j x p q = ⊎_elim (λ lt. absurd (not_before i j x lt p q)) (λ ge. ⊎_elim (λ lt. absurd (not_before j i x lt q p)) (λ le. omega arith) (cases_lt j i)) (cases_lt i j)

  place_same : (p k : ℕ) (y z : PlainInstance) → slice_get us p ≡ Some y → slice_get us k ≡ Some z → same_instance y z ≡ nat_eq p k
  place_same p k y z at_p at_k = truth_same (same_instance y z) (nat_eq p k)
      (λ h. let e : y ≡ z = same_is y z h in eq-eqb p k (place_is p k z (at_p ∙ ap Some e) at_k))
      (λ h. let e : p ≡ k = eqb-true p k h in is_same y z (let s : Some y ≡ Some z = sym at_p ∙ ap (slice_get us) e ∙ at_k in cc))

  -- ---- one row
  row_same : (p : ℕ) (y : PlainInstance) → slice_get us p ≡ Some y → (ks : List ℕ) (cs : List (CallOf TypeOf)) → map (slice_get us) ks ≡ map (λ c. Some (target c)) cs → has same_instance y (map target cs) ≡ has nat_eq p ks
  row_same p y at [] [] h = refl
  row_same p y at [] (c ∷ cs) h = cc
  row_same p y at (k ∷ ks) [] h = cc
  row_same p y at (k ∷ ks) (c ∷ cs) h =
      let head : slice_get us k ≡ Some (target c) = cc in
      let tail : map (slice_get us) ks ≡ map (λ c. Some (target c)) cs = cc in
      let first = place_same p k y (target c) at head in
      let rest = row_same p y at ks cs tail in
      rw (first, rest) refl

  row_if : (tree : PlainTree) (p : ℕ) (y : PlainInstance) → slice_get us p ≡ Some y → (row : Option (Vec ℕ Global)) (x : Option PlainInstance) → option_map (λ (r : Vec ℕ Global). map (slice_get us) r.items) row ≡ option_map (λ u. map (λ c. Some (target c)) (calls_of tree u)) x → calls_it tree x (Some y) ≡ has nat_eq p (row_of row)
  row_if tree p y at None None h = refl
  row_if tree p y at None (Some x) h = cc
  row_if tree p y at (Some row) None h = cc
  row_if tree p y at (Some row) (Some x) h = row_same p y at row.items (calls_of tree x) (let e : map (slice_get us) row.items ≡ map (λ c. Some (target c)) (calls_of tree x) = cc in e)

  called_same : (tree : PlainTree) (callees : List (Vec ℕ Global)) → placed us callees ≡ targets tree us → (q p : ℕ) (y : PlainInstance) → slice_get us p ≡ Some y → calls_it tree (slice_get us q) (Some y) ≡ has nat_eq p (row_of (slice_get callees q))
  called_same tree callees h q p y at = row_if tree p y at (slice_get callees q) (slice_get us q)
      (sym (slice_get-map (λ (r : Vec ℕ Global). map (slice_get us) r.items) callees q)
      ∙ ap (λ (rows : List (List (Option PlainInstance))). slice_get rows q) h
      ∙ slice_get-map (λ u. map (λ c. Some (target c)) (calls_of tree u)) us q)

-- a call to an item without a home
module _ (tree : Contents) (items : List MonoItem) (callees : List (Vec ℕ Global)) (says : AllByRecursion (IsItem (plain tree)) items) (apart : IsDistinct same_instance (instances tree items)) (rows : placed (instances tree items) callees ≡ targets (plain tree) (instances tree items)) where
  pub calls_same : (q p : ℕ) → calls_homeless (plain tree) (instances tree items) q p ≡ has nat_eq p (free_calls callees (homeless items) q)
  unfolding calls_homeless free_calls
  calls_same q p = by (slice_get (instances tree items) p) refl ∙ sym (has_filtered (is_free (homeless items)) p (row_of (slice_get callees q)))
    where
      free : is_homeless (plain tree) (slice_get (instances tree items) p) ≡ is_free (homeless items) p
      free = homeless_same tree items says p ∙ sym (free_same items p)

      by : (o : Option PlainInstance) → slice_get (instances tree items) p ≡ o → (is_homeless (plain tree) (slice_get (instances tree items) p) && calls_it (plain tree) (slice_get (instances tree items) q) (slice_get (instances tree items) p)) ≡ (is_free (homeless items) p && has nat_eq p (row_of (slice_get callees q)))
      by None is =
          let none : is_free (homeless items) p ≡ false = sym free ∙ ap (is_homeless (plain tree)) is in
          rw (free, none) refl
      by (Some y) is =
          let called : calls_it (plain tree) (slice_get (instances tree items) q) (slice_get (instances tree items) p) ≡ has nat_eq p (row_of (slice_get callees q)) = ap (calls_it (plain tree) (slice_get (instances tree items) q)) is ∙ called_same (instances tree items) apart (plain tree) callees rows q p y is in
          rw (free, called) refl
