-- Units with their items and their plans.
use Rattle.std.proofs.Common.{◌≡◌, ℕ, zero, suc, ◌+◌, ◌<◌, List, [], ◌∷◌, ◌++◌, length, get_or, sym, ap, ◌∙◌, subst, arith, refl, Some, ◌⊎◌, inl, inr, ⊎_elim}
use Rattle.std.specs.Prelude.{slice_get, filter, nat_eq, All, Vec, Bool, Option}
use Rattle.std.specs.Global.{Global}
use Rattle.std.specs.List.{AllZip, IsDistinct}
use Rattle.std.proofs.lemmas.List.{length_push}
use Rattle.std.proofs.lemmas.List.Elements.{All-filter}
use Rattle.std.proofs.lemmas.Option.{slice_get-get_or, slice_get_within}
use Rattle.cgu_merge.specs.declared.units.MergedUnit.{MergedUnit}
use Rattle.mono_items.specs.declared.items.UnitPlan.{UnitPlan}
use Rattle.cgu_partition.specs.Placed.{owned, IsFilled, AreFilled, IsPlaced}
use Rattle.cgu_partition.specs.Buckets.{AreHomes}
use Rattle.cgu_partition.proofs.Planned.{filter_once}

zip_from : {A B : Type 0} (R : A → B → Type 0) (xs : List A) (ys : List B) → length ys ≡ length xs → ((k : ℕ) (x : A) (y : B) → slice_get xs k ≡ Some x → slice_get ys k ≡ Some y → R x y) → AllZip R xs ys
zip_from R [] [] l h = tt
zip_from R [] (y ∷ ys) l h = absurd (omega arith)
zip_from R (x ∷ xs) [] l h = absurd (omega arith)
zip_from R (x ∷ xs) (y ∷ ys) l h = (h 0 x y refl refl, zip_from R xs ys (omega arith) (λ k a b p q. h (suc k) a b p q))

some_at : {A : Type 0} (xs : List A) (n : ℕ) → n < length xs → (x : A) × (slice_get xs n ≡ Some x)
some_at [] n l = absurd (omega arith)
some_at (x ∷ xs) zero l = (x, refl)
some_at (x ∷ xs) (suc n) l = some_at xs n (omega arith)

-- what a list has with one more behind it
got_push : {A : Type 0} (xs : List A) (x y : A) (k : ℕ) → slice_get (xs ++ x ∷ []) k ≡ Some y → (slice_get xs k ≡ Some y) ⊎ ((k ≡ length xs) × (x ≡ y))
got_push [] x y zero h = inr (refl, cc)
got_push [] x y (suc k) h = cc
got_push (z ∷ xs) x y zero h = inl h
got_push (z ∷ xs) x y (suc k) h = ⊎_elim (λ e. inl e) (λ p. inr ((let e : k ≡ length xs = p.0 in omega arith), p.1)) (got_push xs x y k h)

module _ (order : List ℕ) (homeless : List Bool) (callees : List (Vec ℕ Global)) (units : List MergedUnit) (homes : List (Vec ℕ Global)) where
  pub filled_none : (plans : List UnitPlan) → plans ≡ [] → AreFilled order homeless callees units homes 0 plans
  filled_none plans e = subst (AreFilled order homeless callees units homes 0) (sym e) (record { count = refl; each = λ k u h p a b c. cc })

  pub filled_more : (n : ℕ) (plans now : List UnitPlan) (u : MergedUnit) (h : Vec ℕ Global) (own : List ℕ) (plan : UnitPlan) → n < length units → u ≡ get_or units n u → n < length homes → h ≡ get_or homes n h → own ≡ h.items → now ≡ plans ++ plan ∷ [] → AreFilled order homeless callees units homes n plans → IsFilled order homeless callees u own plan → AreFilled order homeless callees units homes (n + 1) now
  filled_more n plans now u h own plan room at room2 at2 same push before filled = subst (AreFilled order homeless callees units homes (n + 1)) (sym push) (record {
    count = (let l : length (plans ++ plan ∷ []) ≡ length plans + 1 = length_push plans plan in let c : length plans ≡ n = before.count in omega arith);
    each = λ k v g p a b c. ⊎_elim (λ e. before.each k v g p a b e) (λ e. last k v g p a b e.0 e.1) (got_push plans plan p k c);
  })
    where
      last : (k : ℕ) (v : MergedUnit) (g : Vec ℕ Global) (p : UnitPlan) → slice_get units k ≡ Some v → slice_get homes k ≡ Some g → k ≡ length plans → plan ≡ p → IsFilled order homeless callees v g.items p
      last k v g p a b e f =
          let here : k ≡ n = e ∙ before.count in
          let x : slice_get units n ≡ Some u = slice_get-get_or units n u room ∙ ap (λ (w : MergedUnit). Some w) (sym at) in
          let y : slice_get homes n ≡ Some h = slice_get-get_or homes n h room2 ∙ ap (λ (w : Vec ℕ Global). Some w) (sym at2) in
          let xv : Some u ≡ Some v = sym x ∙ ap (λ (m : ℕ). slice_get units m) (sym here) ∙ a in
          let yg : Some h ≡ Some g = sym y ∙ ap (λ (m : ℕ). slice_get homes m) (sym here) ∙ b in
          let uv : u ≡ v = cc in
          let hg : h ≡ g = cc in
          subst (λ (w : UnitPlan). IsFilled order homeless callees v g.items w) f (subst (λ (w : MergedUnit). IsFilled order homeless callees w g.items plan) uv (subst (λ (w : Vec ℕ Global). IsFilled order homeless callees u w.items plan) hg (subst (λ (xs : List ℕ). IsFilled order homeless callees u xs plan) same filled)))

  module _ (owners : List (Option ℕ)) (are : AreHomes order owners units homes) where
    placed_at : (plans : List UnitPlan) → AreFilled order homeless callees units homes (length units) plans → (k : ℕ) (u : MergedUnit) (p : UnitPlan) → slice_get units k ≡ Some u → slice_get plans k ≡ Some p → IsPlaced order owners homeless callees u p
    placed_at plans filled k u p a b =
        let room : k < length units = slice_get_within units k u a in
        let h = some_at homes k (omega (arith, are.count)) in
        let f : IsFilled order homeless callees u h.0.items p = filled.each k u h.0 p a h.1 b in
        record { name = f.name; size = f.size; home = f.home ∙ are.each k u h.0 a h.1; found = f.found; is_found = f.is_found; copies = f.copies }

    pub placed_all : (plans : List UnitPlan) → AreFilled order homeless callees units homes (length units) plans → AllZip (IsPlaced order owners homeless callees) units plans
    placed_all plans filled = zip_from (IsPlaced order owners homeless callees) units plans filled.count (placed_at plans filled)

    home_at : (k : ℕ) (d : Vec ℕ Global) → k < length homes → (u : MergedUnit) × ((get_or homes k d).items ≡ filter (owned owners u.firsts.items) order)
    home_at k d l = let u = some_at units k (omega (arith, are.count)) in (u.0, are.each k u.0 (get_or homes k d) u.1 (slice_get-get_or homes k d l))

    pub homes_inside : (n : ℕ) → All (λ p. p < n) order → All (λ h. All (λ p. p < n) h.items) homes
    homes_inside n inside = λ k d l. let u = home_at k d l in subst (λ (xs : List ℕ). All (λ p. p < n) xs) (sym u.1) (All-filter (owned owners (u.0).firsts.items) (λ p. p < n) order inside)

    pub homes_once : IsDistinct nat_eq order → All (λ h. IsDistinct nat_eq h.items) homes
    homes_once once = λ k d l. let u = home_at k d l in subst (IsDistinct nat_eq) (sym u.1) (filter_once (owned owners (u.0).firsts.items) order once)
