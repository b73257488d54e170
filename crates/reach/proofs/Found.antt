use Rattle.std.proofs.Common.{◌≡◌, ℕ, zero, suc, ◌+◌, ◌<◌, ◌≤◌, List, [], ◌∷◌, ◌++◌, length, take, drop, get_or, refl, sym, ap, ◌∙◌, subst, arith, Bool, true, false, cond, ◌||◌, ◌&&◌, append_assoc, append-nil, ⊎_elim, add-zero}
use Rattle.std.specs.List.{list_any, list_all, flat_map, IsDistinct, Contains}
use Rattle.std.specs.Cmp.{IsEquivalence}
use Rattle.std.proofs.lemmas.Grind.{flat_map-append}
use Rattle.std.proofs.lemmas.Map.Keys.{IsDistinct-push, apart_from_distinct}
use Rattle.std.proofs.lemmas.Map.Views.{Contains-from_any}
use Rattle.std.proofs.lemmas.List.{take-append-drop, length-append, length-take-le, take_all, take_more, take_at, get_or_at, get_or-take, length_push, get_or_default, get_or_append_left, take-append-le}
use Rattle.std.proofs.lemmas.Bool.{cases_lt}
use Rattle.std.proofs.lemmas.List.Folds.{list_any-append, list_all-append, list_any_at}
use Rattle.reach.specs.Reach.{has, with, added, IsFound, Leads}

or_right : (a b : Bool) → b ≡ true → (a || b) ≡ true
or_right true b h = refl
or_right false b h = h

only : (b : Bool) → (b || false) ≡ true → b ≡ true
only true h = refl
only false h = h

module _ {I : Type 0} (E : I → I → Bool) (laws : IsEquivalence E) (exact : (x y : I) → E x y ≡ true → x ≡ y) where
  pub added_append : (us xs ys : List I) → added E us (xs ++ ys) ≡ added E (added E us xs) ys
  added_append us [] ys = refl
  added_append us (x ∷ xs) ys = added_append (with E us x) xs ys

  -- what is added stands behind
  pub added_front : (us xs : List I) → (zs : List I) × (added E us xs ≡ us ++ zs)
  added_front us [] = ([], sym (append-nil us))
  added_front us (x ∷ xs) = by (has E x us) (λ ws. added_front ws xs)
    where
      by : (b : Bool) → ((ws : List I) → (zs : List I) × (added E ws xs ≡ ws ++ zs)) → (zs : List I) × (added E (cond b us (us ++ x ∷ [])) xs ≡ us ++ zs)
      by true rest = rest us
      by false rest = let r = rest (us ++ x ∷ []) in (x ∷ r.0, r.1 ∙ append_assoc us (x ∷ []) r.0)

  pub once_added : (us xs : List I) → IsDistinct E us → IsDistinct E (added E us xs)
  once_added us [] o = o
  once_added us (x ∷ xs) o = by (has E x us) refl (λ ws p. once_added ws xs p)
    where
      by : (b : Bool) → has E x us ≡ b → ((ws : List I) → IsDistinct E ws → IsDistinct E (added E ws xs)) → IsDistinct E (added E (cond b us (us ++ x ∷ [])) xs)
      by true is rest = rest us o
      by false is rest = rest (us ++ x ∷ []) (IsDistinct-push laws us x o is)

  -- what us or xs has is there
  pub has_kept : (q : I) (us xs : List I) → has E q us ≡ true → has E q (added E us xs) ≡ true
  has_kept q us xs h = let f = added_front us xs in rw f.1 (list_any-append (E q) us f.0 ∙ ap (λ b. b || list_any (E q) f.0) h)

  pub has_added : (q : I) (us xs : List I) → has E q xs ≡ true → has E q (added E us xs) ≡ true
  has_added q us [] h = cc
  has_added q us (x ∷ xs) h = by (E q x) refl h (has_added q (with E us x) xs)
    where
      here : (b : Bool) → has E x us ≡ b → E q x ≡ true → has E q (cond b us (us ++ x ∷ [])) ≡ true
      here true is e = rw (exact q x e) is
      here false is e = list_any-append (E q) us (x ∷ []) ∙ or_right (list_any (E q) us) (E q x || false) (rw e refl)

      by : (b : Bool) → E q x ≡ b → (b || has E q xs) ≡ true → (has E q xs ≡ true → has E q (added E (with E us x) xs) ≡ true) → has E q (added E (with E us x) xs) ≡ true
      by true is h rest = has_kept q (with E us x) xs (here (has E x us) refl is)
      by false is h rest = rest h

  -- what stands behind us is one of what was added
  pub new_in : (us xs : List I) (k : ℕ) (d : I) → length us ≤ k → k < length (added E us xs) → has E (get_or (added E us xs) k d) xs ≡ true
  new_in us [] k d from room = absurd (omega arith)
  new_in us (x ∷ xs) k d from room = by (has E x us) (λ ws l r. new_in ws xs k d l r) room
    where
      by : (b : Bool) → ((ws : List I) → length ws ≤ k → k < length (added E ws xs) → has E (get_or (added E ws xs) k d) xs ≡ true) → k < length (added E (cond b us (us ++ x ∷ [])) xs) → has E (get_or (added E (cond b us (us ++ x ∷ [])) xs) k d) (x ∷ xs) ≡ true
      by true rest r = or_right (E (get_or (added E us xs) k d) x) (has E (get_or (added E us xs) k d) xs) (rest us from r)
      by false rest r = ⊎_elim (λ lt. here (omega arith)) (λ ge. or_right (E (get_or (added E (us ++ x ∷ []) xs) k d) x) (has E (get_or (added E (us ++ x ∷ []) xs) k d) xs) (rest (us ++ x ∷ []) (let l : length (us ++ x ∷ []) ≡ length us + 1 = length_push us x in omega arith) r)) (cases_lt k (length us + 1))
        where
          here : length us ≡ k → (E (get_or (added E (us ++ x ∷ []) xs) k d) x || has E (get_or (added E (us ++ x ∷ []) xs) k d) xs) ≡ true
          here e =
              let f = added_front (us ++ x ∷ []) xs in
              let g : get_or (added E (us ++ x ∷ []) xs) k d ≡ x = ap (λ ys. get_or ys k d) (f.1 ∙ append_assoc us (x ∷ []) f.0) ∙ get_or_at us x f.0 d k e in
              ap (λ b. b || has E (get_or (added E (us ++ x ∷ []) xs) k d) xs) (subst (λ y. E y x ≡ true) (sym g) (laws.refl x))

  same_place : (us : List I) (i j : ℕ) (d : I) → IsDistinct E us → i < length us → j < length us → get_or us i d ≡ get_or us j d → i ≡ j
  same_place us i j d once p q e = ⊎_elim (λ lt. absurd (differ (get_or us i d) (get_or us j d) e (apart_from_distinct E us i j d once lt q))) (λ ge. ⊎_elim (λ lt. absurd (differ (get_or us j d) (get_or us i d) (sym e) (apart_from_distinct E us j i d once lt p))) (λ le. omega arith) (cases_lt j i)) (cases_lt i j)
    where
      differ : (x y : I) → x ≡ y → E x y ≡ false → ⊥
      differ x y e f = let t : E x y ≡ true = subst (λ z. E x z ≡ true) e (laws.refl x) in cc

  module _ (calls : I → List I) (roots : List I) (once : IsDistinct E roots) where
    behind : (us : List I) (k : ℕ) → IsFound E calls roots us → (zs : List I) × (us ≡ added E roots (flat_map calls (take k us)) ++ zs)
    behind us k f =
        let A : List I = added E roots (flat_map calls (take k us)) in
        let split : flat_map calls us ≡ flat_map calls (take k us) ++ flat_map calls (drop k us) = ap (λ xs. flat_map calls xs) (sym (take-append-drop k us)) ∙ flat_map-append calls (take k us) (drop k us) in
        let r = added_front A (flat_map calls (drop k us)) in
        (r.0, f.order ∙ ap (λ xs. added E roots xs) split ∙ added_append roots (flat_map calls (take k us)) (flat_map calls (drop k us)) ∙ r.1)

    next_is : (us : List I) (k : ℕ) (d : I) → IsFound E calls roots us → length roots ≤ k → k < length us → (k < length (added E roots (flat_map calls (take k us)))) × (get_or us k d ≡ get_or (added E roots (flat_map calls (take k us))) k d)
    next_is us k d f from room =
        let A : List I = added E roots (flat_map calls (take k us)) in
        let b = behind us k f in
        let x : I = get_or us k d in
        let at : Contains A x = Contains-from_any exact x A (has_added x roots (flat_map calls (take k us)) (f.before k d from room)) in
        let j : ℕ = at.0 in
        let jA : j < length A = at.1 in
        let len : length us ≡ length A + length b.0 = ap length b.1 ∙ length-append A b.0 in
        let there : get_or us j x ≡ x = ap (λ ys. get_or ys j x) b.1 ∙ get_or_append_left A b.0 x j jA ∙ at.2 in
        let there' : get_or us j d ≡ get_or us k d = get_or_default us j d x (omega arith) ∙ there in
        let us_once : IsDistinct E us = subst (IsDistinct E) (sym f.order) (once_added roots (flat_map calls us) once) in
        let jk : j ≡ k = same_place us j k d us_once (omega arith) room there' in
        let kA : k < length A = omega arith in
        (kA, ap (λ ys. get_or ys k d) b.1 ∙ get_or_append_left A b.0 d k kA)

    shorter : (us : List I) (k : ℕ) → IsFound E calls roots us → length (added E roots (flat_map calls (take k us))) ≤ length us
    shorter us k f = let b = behind us k f in let e : length us ≡ length (added E roots (flat_map calls (take k us))) + length b.0 = ap length b.1 ∙ length-append _ b.0 in omega arith

    front_more : (us vs : List I) (d : I) → IsFound E calls roots us → IsFound E calls roots vs → (k : ℕ) → length roots ≤ k → take k us ≡ take k vs → take (k + 1) us ≡ take (k + 1) vs
    front_more us vs d f g k from same = ⊎_elim (λ p. ⊎_elim (λ q. both p q) (λ q. absurd (stops us vs f g same p q)) (cases_lt k (length vs))) (λ p. ⊎_elim (λ q. absurd (stops vs us g f (sym same) q p)) (λ q. neither p q) (cases_lt k (length vs))) (cases_lt k (length us))
      where
        both : k < length us → k < length vs → take (k + 1) us ≡ take (k + 1) vs
        both p q =
            let x : get_or us k d ≡ get_or vs k d = (next_is us k d f from p).1 ∙ ap (λ xs. get_or (added E roots (flat_map calls xs)) k d) same ∙ sym ((next_is vs k d g from q).1) in
            take_more us k d p ∙ ap (λ xs. xs ++ get_or us k d ∷ []) same ∙ ap (λ y. take k vs ++ y ∷ []) x ∙ sym (take_more vs k d q)

        stops : (us vs : List I) → IsFound E calls roots us → IsFound E calls roots vs → take k us ≡ take k vs → k < length us → length vs ≤ k → ⊥
        stops us vs f g same p q =
            let a : k < length (added E roots (flat_map calls (take k us))) = (next_is us k d f from p).0 in
            let e : length (added E roots (flat_map calls (take k us))) ≡ length (added E roots (flat_map calls (take k vs))) = ap (λ xs. length (added E roots (flat_map calls xs))) same in
            let b : length (added E roots (flat_map calls (take k vs))) ≤ length vs = shorter vs k g in
            omega arith

        neither : length us ≤ k → length vs ≤ k → take (k + 1) us ≡ take (k + 1) vs
        neither p q = take_all (k + 1) us (omega arith) ∙ sym (take_all k us p) ∙ same ∙ take_all k vs q ∙ sym (take_all (k + 1) vs (omega arith))

    starts : (us : List I) → IsFound E calls roots us → take (length roots) us ≡ roots
    starts us f = let r = added_front roots (flat_map calls us) in ap (λ xs. take (length roots) xs) (f.order ∙ r.1) ∙ take_at roots r.0 (length roots) refl

    same_front : (us vs : List I) (d : I) → IsFound E calls roots us → IsFound E calls roots vs → (n : ℕ) → take (length roots + n) us ≡ take (length roots + n) vs
    same_front us vs d f g zero = rw add-zero (starts us f ∙ sym (starts vs g))
    same_front us vs d f g (suc n) = let e : length roots + suc n ≡ length roots + n + 1 = omega arith in rw e (front_more us vs d f g (length roots + n) (omega arith) (same_front us vs d f g n))

    -- there is one such list
    pub found_once : (us vs : List I) (d : I) → IsFound E calls roots us → IsFound E calls roots vs → us ≡ vs
    found_once us vs d f g =
        let n : ℕ = length us + length vs in
        sym (take_all (length roots + n) us (omega arith)) ∙ same_front us vs d f g n ∙ take_all (length roots + n) vs (omega arith)

    pub in_calls : (q x : I) (us : List I) → has E x us ≡ true → has E q (calls x) ≡ true → has E q (flat_map calls us) ≡ true
    in_calls q x [] h t = cc
    in_calls q x (u ∷ us) h t = by (E x u) refl h (in_calls q x us)
      where
        by : (b : Bool) → E x u ≡ b → (b || has E x us) ≡ true → (has E x us ≡ true → has E q (calls x) ≡ true → has E q (flat_map calls us) ≡ true) → has E q (calls u ++ flat_map calls us) ≡ true
        by true is h rest = list_any-append (E q) (calls u) (flat_map calls us) ∙ ap (λ b. b || has E q (flat_map calls us)) (subst (λ y. has E q (calls y) ≡ true) (exact x u is) t)
        by false is h rest = list_any-append (E q) (calls u) (flat_map calls us) ∙ or_right (has E q (calls u)) (has E q (flat_map calls us)) (rest h t)

    -- it is closed under calls
    pub found_closed : (us : List I) → IsFound E calls roots us → (q x : I) → has E x us ≡ true → has E q (calls x) ≡ true → has E q us ≡ true
    found_closed us f q x h t = subst (λ ys. has E q ys ≡ true) (sym f.order) (has_added q roots (flat_map calls us) (in_calls q x us h t))

    passes : (p : I → Bool) (q : I) (xs : List I) → list_all p xs ≡ true → has E q xs ≡ true → p q ≡ true
    passes p q [] a h = cc
    passes p q (x ∷ xs) a h = by (E q x) refl (p x) refl a h (passes p q xs)
      where
        by : (b : Bool) → E q x ≡ b → (c : Bool) → p x ≡ c → (c && list_all p xs) ≡ true → (b || has E q xs) ≡ true → (list_all p xs ≡ true → has E q xs ≡ true → p q ≡ true) → p q ≡ true
        by b is false pc a h rest = cc
        by true is true pc a h rest = ap p (exact q x is) ∙ pc
        by false is true pc a h rest = rest a h

    all_calls : (p : I → Bool) → ((x : I) → p x ≡ true → list_all p (calls x) ≡ true) → (us : List I) → list_all p us ≡ true → list_all p (flat_map calls us) ≡ true
    all_calls p closed [] a = refl
    all_calls p closed (u ∷ us) a = by (p u) refl a (all_calls p closed us)
      where
        by : (c : Bool) → p u ≡ c → (c && list_all p us) ≡ true → (list_all p us ≡ true → list_all p (flat_map calls us) ≡ true) → list_all p (calls u ++ flat_map calls us) ≡ true
        by false pc a rest = cc
        by true pc a rest = list_all-append p (calls u) (flat_map calls us) ∙ ap (λ b. b && list_all p (flat_map calls us)) (closed u pc) ∙ rest a

    all_front : (us : List I) (d : I) → IsFound E calls roots us → (p : I → Bool) → list_all p roots ≡ true → ((x : I) → p x ≡ true → list_all p (calls x) ≡ true) → (n : ℕ) → list_all p (take (length roots + n) us) ≡ true
    all_front us d f p r closed zero = rw add-zero (ap (λ xs. list_all p xs) (starts us f) ∙ r)
    all_front us d f p r closed (suc n) = let e : length roots + suc n ≡ length roots + n + 1 = omega arith in rw e (more (length roots + n) (omega arith) (all_front us d f p r closed n))
      where
        more : (k : ℕ) → length roots ≤ k → list_all p (take k us) ≡ true → list_all p (take (k + 1) us) ≡ true
        more k from a = ⊎_elim (λ lt. ap (λ xs. list_all p xs) (take_more us k d lt) ∙ list_all-append p (take k us) (get_or us k d ∷ []) ∙ ap (λ b. b && (p (get_or us k d) && true)) a ∙ ap (λ b. b && true) (passes p (get_or us k d) (flat_map calls (take k us)) (all_calls p closed (take k us) a) (f.before k d from lt)))
            (λ ge. ap (λ xs. list_all p xs) (take_all (k + 1) us (omega arith) ∙ sym (take_all k us ge)) ∙ a) (cases_lt k (length us))

    -- and the least: every closed set that has the roots has it
    pub found_least : (us : List I) (d : I) → IsFound E calls roots us → (p : I → Bool) → list_all p roots ≡ true → ((x : I) → p x ≡ true → list_all p (calls x) ≡ true) → list_all p us ≡ true
    found_least us d f p r closed = sym (ap (λ xs. list_all p xs) (take_all (length roots + length us) us (omega arith))) ∙ all_front us d f p r closed (length us)

  -- the calls of the first i members are read
  pub record Reading (calls : I → List I) (roots : List I) (i : ℕ) (us : List I) : Type 0 where
    pub order : us ≡ added E roots (flat_map calls (take i us))
    pub before : (k : ℕ) (d : I) → length roots ≤ k → k < length us → has E (get_or us k d) (flat_map calls (take k us)) ≡ true

  module _ (calls : I → List I) (roots : List I) (once : IsDistinct E roots) where
    pub reading_none : Reading calls roots 0 roots
    reading_none = record { order = refl; before = λ k d from l. absurd (omega arith) }

    -- the calls of one more member
    pub reading_more : (i : ℕ) (us ws : List I) (u : I) → Reading calls roots i us → i < length us → get_or us i u ≡ u → ws ≡ added E us (calls u) → Reading calls roots (i + 1) ws
    reading_more i us ws u r room read t =
        let f = added_front us (calls u) in
        let is : ws ≡ us ++ f.0 = t ∙ f.1 in
        let front : take (i + 1) ws ≡ take i us ++ u ∷ [] = ap (λ xs. take (i + 1) xs) is ∙ take-append-le (i + 1) us f.0 (omega arith) ∙ take_more us i u room ∙ ap (λ y. take i us ++ y ∷ []) read in
        let flat : flat_map calls (take (i + 1) ws) ≡ flat_map calls (take i us) ++ calls u = ap (λ xs. flat_map calls xs) front ∙ flat_map-append calls (take i us) (u ∷ []) ∙ ap (λ ys. flat_map calls (take i us) ++ ys) (append-nil (calls u)) in
        record {
          order = t ∙ ap (λ xs. added E xs (calls u)) r.order ∙ sym (added_append roots (flat_map calls (take i us)) (calls u)) ∙ ap (λ xs. added E roots xs) (sym flat);
          before = λ k d from l. ⊎_elim (λ lt. old k d from lt f.0 is) (λ ge. new k d ge l f.0 is) (cases_lt k (length us));
        }
      where
        old : (k : ℕ) (d : I) → length roots ≤ k → k < length us → (zs : List I) → ws ≡ us ++ zs → has E (get_or ws k d) (flat_map calls (take k ws)) ≡ true
        old k d from lt zs is =
            let a : get_or ws k d ≡ get_or us k d = ap (λ ys. get_or ys k d) is ∙ get_or_append_left us zs d k lt in
            let b : take k ws ≡ take k us = ap (λ ys. take k ys) is ∙ take-append-le k us zs (omega arith) in
            rw (a, b) (r.before k d from lt)

        new : (k : ℕ) (d : I) → length us ≤ k → k < length ws → (zs : List I) → ws ≡ us ++ zs → has E (get_or ws k d) (flat_map calls (take k ws)) ≡ true
        new k d ge l zs is =
            let last : has E (get_or ws k d) (calls u) ≡ true = rw t (new_in us (calls u) k d ge (subst (λ ys. k < length ys) t l)) in
            let len : length (take k ws) ≡ k = length-take-le k ws (omega arith) in
            let there : get_or (take k ws) i u ≡ u = get_or-take k ws i u (omega arith) ∙ ap (λ ys. get_or ys i u) is ∙ get_or_append_left us zs u i room ∙ read in
            let reader : has E u (take k ws) ≡ true = list_any_at (E u) (take k ws) i u (omega arith) (subst (λ y. E u y ≡ true) (sym there) (laws.refl u)) in
            in_calls calls roots once (get_or ws k d) u (take k ws) reader last

    -- where each member is read
    pub reading_all : (i : ℕ) (us : List I) → length us ≤ i → Reading calls roots i us → IsFound E calls roots us
    reading_all i us over r = record { order = r.order ∙ ap (λ xs. added E roots (flat_map calls xs)) (take_all i us over); before = r.before }

    pub reading_once : (i : ℕ) (us : List I) → Reading calls roots i us → IsDistinct E us
    reading_once i us r = subst (IsDistinct E) (sym r.order) (once_added roots (flat_map calls (take i us)) once)

  module _ (calls : I → List I) (roots : List I) (once : IsDistinct E roots) where
    calls_in : (q : I) (us : List I) → has E q (flat_map calls us) ≡ true → (u : I) × (has E u us ≡ true) × (has E q (calls u) ≡ true)
    calls_in q [] h = absurd (cc)
    calls_in q (u ∷ us) h = by (has E q (calls u)) refl (sym (list_any-append (E q) (calls u) (flat_map calls us)) ∙ h) (calls_in q us)
      where
        by : (b : Bool) → has E q (calls u) ≡ b → (b || has E q (flat_map calls us)) ≡ true → (has E q (flat_map calls us) ≡ true → (v : I) × (has E v us ≡ true) × (has E q (calls v) ≡ true)) → (v : I) × (has E v (u ∷ us) ≡ true) × (has E q (calls v) ≡ true)
        by true is h rest = (u, ap (λ b. b || has E u us) (laws.refl u), is)
        by false is h rest = let r = rest h in (r.0, or_right (E r.0 u) (has E r.0 us) r.1, r.2)

    -- what holds of the roots and goes on along calls holds of each member
    pub found_keeps : (us : List I) (d : I) → IsFound E calls roots us → (P : I → Type 0) → ((x : I) → has E x roots ≡ true → P x) → ((x y : I) → P x → has E y (calls x) ≡ true → P y) → (x : I) → has E x us ≡ true → P x
    found_keeps us d f P base on x h = front (length us) x (ap (λ ys. has E x ys) (take_all (length roots + length us) us (omega arith)) ∙ h)
      where
        starts : take (length roots) us ≡ roots
        starts = let r = added_front roots (flat_map calls us) in ap (λ xs. take (length roots) xs) (f.order ∙ r.1) ∙ take_at roots r.0 (length roots) refl

        front : (n : ℕ) (x : I) → has E x (take (length roots + n) us) ≡ true → P x
        front zero x h = base x (sym (ap (λ ys. has E x ys) (ap (λ m. take m us) (add-zero (length roots)) ∙ starts)) ∙ h)
        front (suc n) x h = let e : length roots + suc n ≡ length roots + n + 1 = omega arith in more (length roots + n) x (omega arith) (front n) (subst (λ m. has E x (take m us) ≡ true) e h)
          where
            more : (k : ℕ) (x : I) → length roots ≤ k → ((y : I) → has E y (take k us) ≡ true → P y) → has E x (take (k + 1) us) ≡ true → P x
            more k x from old h = ⊎_elim (λ lt. here lt (has E x (take k us)) refl (sym (ap (λ ys. has E x ys) (take_more us k d lt) ∙ list_any-append (E x) (take k us) (get_or us k d ∷ [])) ∙ h)) (λ ge. old x (sym (ap (λ ys. has E x ys) (take_all (k + 1) us (omega arith) ∙ sym (take_all k us ge))) ∙ h)) (cases_lt k (length us))
              where
                here : k < length us → (b : Bool) → has E x (take k us) ≡ b → (b || (E x (get_or us k d) || false)) ≡ true → P x
                here lt true is h = old x is
                here lt false is h =
                    let c = calls_in (get_or us k d) (take k us) (f.before k d from lt) in
                    let same : x ≡ get_or us k d = exact x (get_or us k d) (only (E x (get_or us k d)) h) in
                    subst P (sym same) (on c.0 (get_or us k d) (old c.0 c.1) c.2)

    pub leads_in : (us : List I) → IsFound E calls roots us → (n : ℕ) (a b : I) → has E a us ≡ true → Leads E calls n a b → has E b us ≡ true
    leads_in us f zero a b h l = subst (λ x. has E x us ≡ true) l h
    leads_in us f (suc n) a b h l = found_closed calls roots once us f b l.0 (leads_in us f n a l.0 h l.1) l.2

    pub leads_to : (us : List I) (d : I) → IsFound E calls roots us → (x : I) → has E x us ≡ true → (h : I) × (has E h roots ≡ true) × ((n : ℕ) × Leads E calls n h x)
    leads_to us d f = found_keeps us d f (λ x. (h : I) × (has E h roots ≡ true) × ((n : ℕ) × Leads E calls n h x)) (λ x r. (x, r, (0, refl))) (λ x y p c. (p.0, p.1, (suc p.2.0, (x, p.2.1, c))))
