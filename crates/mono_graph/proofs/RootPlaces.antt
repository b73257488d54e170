-- The places of roots.
use Rattle.std.proofs.Common.{◌≡◌, ℕ, ◌+◌, ◌<◌, ◌≤◌, List, [], ◌∷◌, length, map, ap, ◌∙◌, subst, arith, Bool, true, false, cond, Option, Some, None, refl, option_map}
use Rattle.std.specs.Prelude.{slice_get, filter, nat_eq}
use Rattle.std.specs.List.{AllByRecursion, IsDistinct}
use Rattle.std.specs.Ordering.{match_ordering}
use Rattle.std.specs.declared.cmp.Ordering.{Ordering}
use Rattle.std.specs.declared.cmp.Ordering.TheVariants.{Less, Equal, Greater}
use Rattle.std.specs.BTreeMap.{insert_entry}
use Rattle.std.proofs.lemmas.List.{length-map}
use Rattle.std.proofs.lemmas.List.Elements.{recursion_from_All}
use Rattle.std.proofs.lemmas.Map.Keys.{IsDistinct-head, IsDistinct-tail, IsDistinct-cons}
use Rattle.std.proofs.lemmas.Option.{slice_get-map}
use Rattle.type_table.specs.TypeOf.{TypeOf}
use Rattle.text_order.specs.TextOrder.{text_cmp, ordered, text_order}
use Rattle.text_order.proofs.Ordered.{order_inside, order_once}
use Rattle.lar_typed.specs.Paths.{item_path}
use Rattle.lar_typed.specs.Trees.{FunctionOf, function_map}
use Rattle.mono_graph.specs.Instances.{root_if, paths_of, root_places}

-- ---- other labels
filter_same : (p q : ℕ → Bool) → ((k : ℕ) → p k ≡ q k) → (xs : List ℕ) → filter p xs ≡ filter q xs
filter_same p q h [] = refl
filter_same p q h (x ∷ xs) = ap (λ (b : Bool). cond b (x ∷ filter p xs) (filter p xs)) (h x) ∙ ap (λ (ys : List ℕ). cond (q x) (x ∷ ys) ys) (filter_same p q h xs)

paths_same : (g : ℕ → TypeOf) (fs : List (FunctionOf ℕ)) → paths_of (map (function_map g) fs) ≡ paths_of fs
paths_same g [] = refl
paths_same g (f ∷ fs) = ap (λ (ps : List (List ℕ)). item_path f.module_path f.name ∷ ps) (paths_same g fs)

root_same : (g : ℕ → TypeOf) (o : Option (FunctionOf ℕ)) → root_if (option_map (function_map g) o) ≡ root_if o
root_same g None = refl
root_same g (Some f) = refl

-- they are the same whatever the labels are
pub places_same : (g : ℕ → TypeOf) (fs : List (FunctionOf ℕ)) → root_places (map (function_map g) fs) ≡ root_places fs
unfolding root_places
places_same g fs =
    filter_same (λ k. root_if (slice_get (map (function_map g) fs) k)) (λ k. root_if (slice_get fs k)) (λ k. ap root_if (slice_get-map (function_map g) fs k) ∙ root_same g (slice_get fs k)) (text_order (paths_of (map (function_map g) fs)))
    ∙ ap (λ (ps : List (List ℕ)). filter (λ k. root_if (slice_get fs k)) (text_order ps)) (paths_same g fs)

-- ---- how many
insert_length : (es : List (List ℕ × ℕ)) (k : List ℕ) (v : ℕ) → length (insert_entry text_cmp es k v) ≤ length es + 1
insert_length [] k v = omega arith
insert_length (e ∷ es) k v = by (text_cmp k e.0) (insert_length es k v)
  where
    by : (r : Ordering) → length (insert_entry text_cmp es k v) ≤ length es + 1 → length (match_ordering r ((k, v) ∷ e ∷ es) ((e.0, v) ∷ es) (e ∷ insert_entry text_cmp es k v)) ≤ length (e ∷ es) + 1
    by Less h = omega arith
    by Equal h = omega arith
    by Greater h = omega arith

ordered_length : (n : ℕ) (es : List (List ℕ × ℕ)) (ts : List (List ℕ)) → length (ordered n es ts) ≤ length es + length ts
ordered_length n es [] = omega arith
ordered_length n es (t ∷ ts) = let a = ordered_length (n + 1) (insert_entry text_cmp es t n) ts in let b = insert_length es t n in omega arith

order_length : (ts : List (List ℕ)) → length (text_order ts) ≤ length ts
unfolding text_order
order_length ts = let a = ordered_length 0 [] ts in let b : length (map (λ (e : List ℕ × ℕ). e.1) (ordered 0 [] ts)) ≡ length (ordered 0 [] ts) = length-map (ordered 0 [] ts) _ in omega arith

filter_length : (p : ℕ → Bool) (xs : List ℕ) → length (filter p xs) ≤ length xs
filter_length p [] = omega arith
filter_length p (x ∷ xs) = by (p x) (filter_length p xs)
  where
    by : (b : Bool) → length (filter p xs) ≤ length xs → length (cond b (x ∷ filter p xs) (filter p xs)) ≤ length (x ∷ xs)
    by true h = omega arith
    by false h = omega arith

pub paths_length : {A : Type 0} (fs : List (FunctionOf A)) → length (paths_of fs) ≡ length fs
paths_length {A} fs = length-map fs _

-- at most as many as functions
pub few_places : {A : Type 0} (fs : List (FunctionOf A)) → length (root_places fs) ≤ length fs
unfolding root_places
few_places {A} fs =
    let a = filter_length (λ k. root_if (slice_get fs k)) (text_order (paths_of fs)) in
    let b = order_length (paths_of fs) in
    let c : length (paths_of fs) ≡ length fs = paths_length fs in
    omega arith

-- ---- where they are
filter_inside : (n : ℕ) (p : ℕ → Bool) (xs : List ℕ) → AllByRecursion (λ k. k < n) xs → AllByRecursion (λ k. k < n) (filter p xs)
filter_inside n p [] h = tt
filter_inside n p (x ∷ xs) h = by (p x) (filter_inside n p xs h.1)
  where
    by : (b : Bool) → AllByRecursion (λ k. k < n) (filter p xs) → AllByRecursion (λ k. k < n) (cond b (x ∷ filter p xs) (filter p xs))
    by true r = (h.0, r)
    by false r = r

-- each is one of a function
pub places_inside : {A : Type 0} (fs : List (FunctionOf A)) → AllByRecursion (λ k. k < length fs) (root_places fs)
unfolding root_places
places_inside {A} fs = filter_inside (length fs) (λ k. root_if (slice_get fs k)) (text_order (paths_of fs)) (subst (λ (n : ℕ). AllByRecursion (λ k. k < n) (text_order (paths_of fs))) (paths_length fs) (recursion_from_All (λ k. k < length (paths_of fs)) (text_order (paths_of fs)) (order_inside (paths_of fs))))

filter_once : (t : ℕ → Bool) (xs : List ℕ) → IsDistinct nat_eq xs → IsDistinct nat_eq (filter t xs)
filter_once t [] h = h
filter_once t (x ∷ xs) h = by (t x) (filter_once t xs (IsDistinct-tail nat_eq x xs h))
  where
    kept : (ys : List ℕ) → AllByRecursion (λ y. nat_eq x y ≡ false) ys → AllByRecursion (λ y. nat_eq x y ≡ false) (filter t ys)
    kept [] g = tt
    kept (y ∷ ys) g = each (t y) (kept ys g.1)
      where
        each : (b : Bool) → AllByRecursion (λ z. nat_eq x z ≡ false) (filter t ys) → AllByRecursion (λ z. nat_eq x z ≡ false) (cond b (y ∷ filter t ys) (filter t ys))
        each true r = (g.0, r)
        each false r = r

    by : (b : Bool) → IsDistinct nat_eq (filter t xs) → IsDistinct nat_eq (cond b (x ∷ filter t xs) (filter t xs))
    by true rest = IsDistinct-cons nat_eq x (filter t xs) (kept xs (IsDistinct-head nat_eq x xs h)) rest
    by false rest = rest

-- no place stands twice
pub places_once : {A : Type 0} (fs : List (FunctionOf A)) → IsDistinct nat_eq (root_places fs)
unfolding root_places
places_once {A} fs = filter_once (λ k. root_if (slice_get fs k)) (text_order (paths_of fs)) (order_once (paths_of fs))
