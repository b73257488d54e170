-- Instances by their places.
use Rattle.std.proofs.Common.{◌≡◌, ℕ, zero, suc, List, [], ◌∷◌, ◌++◌, length, refl, sym, ap, ◌∙◌, subst, Bool, true, false, cond, Option, Some, None, ◌⊎◌, inl, inr, ⊎_elim}
use Rattle.std.specs.Prelude.{slice_get}
use Rattle.std.specs.Ordering.{nat_cmp, eq_by_cmp, is_eq}
use Rattle.std.specs.BTreeMap.{BTreeMap, get}
use Rattle.std.specs.Cmp.{nat_cmp_total, eq_by_cmp_equiv, then_total, on_total}
use Rattle.std.proofs.lemmas.Map.Lookups.{exact_pairs, exact_unsigned}
use Rattle.std.proofs.lemmas.Map.Views.{tells_apart}
use Rattle.type_table.specs.Memo.{pair_cmp}
use Rattle.mono_items.specs.declared.items.Instance.{Instance}
use Rattle.mono_graph.proofs.Read.{get_before}
use Rattle.mono_collect.specs.Places.{key_of, IsNew, IsPlace, IsIndex}

exact : (a b : ℕ × ℕ) → eq_by_cmp pair_cmp a b ≡ true → a ≡ b
exact a b h = tells_apart (exact_pairs nat_cmp nat_cmp exact_unsigned exact_unsigned) a b h

key_same : (q : ℕ × ℕ) → eq_by_cmp pair_cmp q q ≡ true
key_same q = (eq_by_cmp_equiv (then_total (on_total (λ (p : ℕ × ℕ). p.0) nat_cmp_total) (on_total (λ (p : ℕ × ℕ). p.1) nat_cmp_total))).refl q

abbrev made : ℕ × ℕ → Instance
made q = record { function = q.0; arguments = q.1 }

one_key : (x y : Instance) → key_of x ≡ key_of y → x ≡ y
one_key x y e = ap made e

got_last : (us : List Instance) (x : Instance) → slice_get (us ++ x ∷ []) (length us) ≡ Some x
got_last [] x = refl
got_last (u ∷ us) x = got_last us x

got_push : (us : List Instance) (x y : Instance) (r : ℕ) → slice_get (us ++ x ∷ []) r ≡ Some y → (slice_get us r ≡ Some y) ⊎ (x ≡ y)
got_push [] x y zero h = inr (cc)
got_push [] x y (suc r) h = cc
got_push (u ∷ us) x y zero h = inl h
got_push (u ∷ us) x y (suc r) h = got_push us x y r h

indexed : (us : List Instance) (m n : BTreeMap (ℕ × ℕ) ℕ) (x : Instance) → IsIndex us m → ((q : ℕ × ℕ) → get pair_cmp n q ≡ cond (is_eq (pair_cmp (key_of x) q)) (Some (length us)) (get pair_cmp m q)) → IsIndex (us ++ x ∷ []) n
indexed us m n x old says = record {
  is = λ y p e. found_at y p (is_eq (pair_cmp (key_of x) (key_of y))) refl (sym (says (key_of y)) ∙ e);
  has = λ y p e. place_at y p (is_eq (pair_cmp (key_of x) (key_of y))) refl e;
}
  where
    found_at : (y : Instance) (p : ℕ) (b : Bool) → is_eq (pair_cmp (key_of x) (key_of y)) ≡ b → cond b (Some (length us)) (get pair_cmp m (key_of y)) ≡ Some p → slice_get (us ++ x ∷ []) p ≡ Some y
    found_at y p true is e =
        let at : length us ≡ p = cc in
        let same : x ≡ y = one_key x y (exact (key_of x) (key_of y) is) in
        ap (λ (i : ℕ). slice_get (us ++ x ∷ []) i) (sym at) ∙ got_last us x ∙ ap (λ (z : Instance). Some z) same
    found_at y p false is e = get_before us (x ∷ []) p y (old.is y p e)

    place_at : (y : Instance) (p : ℕ) (b : Bool) → is_eq (pair_cmp (key_of x) (key_of y)) ≡ b → slice_get (us ++ x ∷ []) p ≡ Some y → (r : ℕ) × (get pair_cmp n (key_of y) ≡ Some r)
    place_at y p true is e = (length us, says (key_of y) ∙ ap (λ (b : Bool). cond b (Some (length us)) (get pair_cmp m (key_of y))) is)
    place_at y p false is e = ⊎_elim (λ h. let r = old.has y p h in (r.0, says (key_of y) ∙ ap (λ (b : Bool). cond b (Some (length us)) (get pair_cmp m (key_of y))) is ∙ r.1)) (λ same. absurd (let t : is_eq (pair_cmp (key_of x) (key_of y)) ≡ true = subst (λ (z : Instance). is_eq (pair_cmp (key_of x) (key_of z)) ≡ true) same (key_same (key_of x)) in cc)) (got_push us x y p e)

pub pushed : (us ws : List Instance) (m n : BTreeMap (ℕ × ℕ) ℕ) (x : Instance) (p : ℕ) → IsIndex us m → ws ≡ us ++ x ∷ [] → p ≡ length us → ((q : ℕ × ℕ) → get pair_cmp n q ≡ cond (is_eq (pair_cmp (key_of x) q)) (Some p) (get pair_cmp m q)) → IsIndex ws n
pushed us ws m n x p old is at says = subst (λ (ys : List Instance). IsIndex ys n) (sym is) (indexed us m n x old (λ q. says q ∙ ap (λ (i : ℕ). cond (is_eq (pair_cmp (key_of x) q)) (Some i) (get pair_cmp m q)) at))

pub place_is : (us now : List Instance) (m : BTreeMap (ℕ × ℕ) ℕ) (x : Instance) (o : Option ℕ) → us ≡ now → IsIndex us m → o ≡ get pair_cmp m (key_of x) → IsPlace now x o
place_is us now m x None e h is = subst (λ (ys : List Instance). IsNew ys x) e (record { none = λ p at. let r = h.has x p at in let no : None ≡ Some r.0 = is ∙ r.1 in cc })
place_is us now m x (Some p) e h is = ap (λ (ys : List Instance). slice_get ys p) (sym e) ∙ h.is x p (sym is)
