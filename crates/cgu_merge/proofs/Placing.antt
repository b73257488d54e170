-- The maps' entries are lists of units in order, and taking the two least and putting their union back is a step of merging.
use Rattle.std.proofs.Common.{◌≡◌, ◌≢◌, ℕ, suc, ◌+◌, ◌-◌, ◌^◌, ◌<◌, ◌≤◌, drop, get_or, List, [], ◌∷◌, ◌++◌, length, map, min, refl, sym, ap, ◌∙◌, subst, arith, Bool, true, false, cond}
use Rattle.std.specs.Ordering.{nat_cmp}
use Rattle.std.specs.declared.cmp.Ordering.{Ordering}
use Rattle.std.specs.declared.cmp.Ordering.TheVariants.{Less, Equal, Greater}
use Rattle.std.specs.Prelude.{Vec}
use Rattle.std.proofs.lemmas.List.{drop_more, drop_all, length-map}
use Rattle.std.specs.Global.{Global}
use Rattle.std.specs.List.{AllByRecursion}
use Rattle.std.specs.BTreeMap.{insert_entry}
use Rattle.std.proofs.lemmas.Map.Lookups.{exact_pairs, exact_unsigned}
use Rattle.cgu_merge.specs.Ranked.{Ranked, key_cmp, ranked_larger, ranked_later, ranked_placed, ranked_joined, ranked_join, shown, shown_by_name, IsApart, weight, Stepped, ranked_merged, ranked_joins, ranked_order, ranked_firsts}

tie : (a b : ℕ × ℕ) → key_cmp a b ≡ Equal → a ≡ b
tie a b e = exact_pairs nat_cmp nat_cmp exact_unsigned exact_unsigned a b e

by_order : (k : ℕ × ℕ) (v : Vec ℕ Global) (e : (ℕ × ℕ) × Vec ℕ Global) (es : List ((ℕ × ℕ) × Vec ℕ Global)) (r : Ordering) → key_cmp k e.0 ≡ r → k.1 ≢ e.0.1 → map shown (insert_entry key_cmp es k v) ≡ ranked_placed ranked_larger (shown (k, v)) (map shown es) → map shown (insert_entry key_cmp (e ∷ es) k v) ≡ ranked_placed ranked_larger (shown (k, v)) (shown e ∷ map shown es)
by_order k v e es Less is apart rest = rw is refl
by_order k v e es Equal is apart rest = absurd (apart (ap (λ (p : ℕ × ℕ). p.1) (tie k e.0 is)))
by_order k v e es Greater is apart rest = rw is (ap (λ us. shown e ∷ us) rest)

-- what an insert at a new key gives is the placing
pub shown_insert : (k : ℕ × ℕ) (v : Vec ℕ Global) (es : List ((ℕ × ℕ) × Vec ℕ Global)) → AllByRecursion (λ y. k.1 ≢ y.least) (map shown es) → map shown (insert_entry key_cmp es k v) ≡ ranked_placed ranked_larger (shown (k, v)) (map shown es)
shown_insert k v [] h = refl
shown_insert k v (e ∷ es) h = by_order k v e es (key_cmp k e.0) refl h.0 (shown_insert k v es h.1)

by_name : (k : ℕ) (v : ℕ × Vec ℕ Global) (e : ℕ × (ℕ × Vec ℕ Global)) (es : List (ℕ × (ℕ × Vec ℕ Global))) (r : Ordering) → nat_cmp k e.0 ≡ r → k ≢ e.0 → map shown_by_name (insert_entry nat_cmp es k v) ≡ ranked_placed ranked_later (shown_by_name (k, v)) (map shown_by_name es) → map shown_by_name (insert_entry nat_cmp (e ∷ es) k v) ≡ ranked_placed ranked_later (shown_by_name (k, v)) (shown_by_name e ∷ map shown_by_name es)
by_name k v e es Less is apart rest = rw is refl
by_name k v e es Equal is apart rest = absurd (apart (exact_unsigned k e.0 is))
by_name k v e es Greater is apart rest = rw is (ap (λ us. shown_by_name e ∷ us) rest)

pub named_insert : (k : ℕ) (v : ℕ × Vec ℕ Global) (es : List (ℕ × (ℕ × Vec ℕ Global))) → AllByRecursion (λ y. k ≢ y.least) (map shown_by_name es) → map shown_by_name (insert_entry nat_cmp es k v) ≡ ranked_placed ranked_later (shown_by_name (k, v)) (map shown_by_name es)
named_insert k v [] h = refl
named_insert k v (e ∷ es) h = by_name k v e es (nat_cmp k e.0) refl h.0 (named_insert k v es h.1)

either : {A : Type 0} (P : A → Type 0) (b : Bool) (x y : A) → P x → P y → P (cond b x y)
either P b x y p q = elim b as (λ t. P (cond t x y)) [ true ↦ p | false ↦ q ]

pub weaker : (P Q : Ranked → Type 0) → ((x : Ranked) → P x → Q x) → (xs : List Ranked) → AllByRecursion P xs → AllByRecursion Q xs
weaker P Q f [] h = tt
weaker P Q f (x ∷ xs) h = (f x h.0, weaker P Q f xs h.1)

module _ (after : Ranked → Ranked → Bool) where
  pub all_placed : (P : Ranked → Type 0) (u : Ranked) (xs : List Ranked) → P u → AllByRecursion P xs → AllByRecursion P (ranked_placed after u xs)
  all_placed P u [] p h = (p, tt)
  all_placed P u (x ∷ xs) p h = either (AllByRecursion P) (after u x) (x ∷ ranked_placed after u xs) (u ∷ x ∷ xs) (h.0, all_placed P u xs p h.1) (p, h)

  pub apart_placed : (u : Ranked) (xs : List Ranked) → AllByRecursion (λ y. u.least ≢ y.least) xs → IsApart xs → IsApart (ranked_placed after u xs)
  apart_placed u [] h a = (tt, tt)
  apart_placed u (x ∷ xs) h a = either IsApart (after u x) (x ∷ ranked_placed after u xs) (u ∷ x ∷ xs)
      (all_placed (λ y. x.least ≢ y.least) u xs (λ e. h.0 (sym e)) a.0, apart_placed u xs h.1 a.1) (h, a)

  -- a sum over the units
  abbrev pub total : (Ranked → ℕ) → List Ranked → ℕ
  total f [] = 0
  total f (x ∷ xs) = f x + total f xs

  pub total_placed : (f : Ranked → ℕ) (u : Ranked) (xs : List Ranked) → total f (ranked_placed after u xs) ≡ f u + total f xs
  total_placed f u [] = omega arith
  total_placed f u (x ∷ xs) = either (λ us. total f us ≡ f u + (f x + total f xs)) (after u x) (x ∷ ranked_placed after u xs) (u ∷ x ∷ xs)
      (ap (λ n. f x + n) (total_placed f u xs) ∙ omega arith) refl

  pub weight_placed : (u : Ranked) (xs : List Ranked) → weight (ranked_placed after u xs) ≡ u.size + weight xs
  weight_placed u [] = omega arith
  weight_placed u (x ∷ xs) = either (λ us. weight us ≡ u.size + (x.size + weight xs)) (after u x) (x ∷ ranked_placed after u xs) (u ∷ x ∷ xs)
      (ap (λ n. x.size + n) (weight_placed u xs) ∙ omega arith) refl

  pub length_placed : (u : Ranked) (xs : List Ranked) → length (ranked_placed after u xs) ≡ length xs + 1
  length_placed u [] = omega arith
  length_placed u (x ∷ xs) = either (λ us. length us ≡ length (x ∷ xs) + 1) (after u x) (x ∷ ranked_placed after u xs) (u ∷ x ∷ xs)
      (ap suc (length_placed u xs) ∙ omega arith) (omega arith)

pub least_apart : (a b : Ranked) (us : List Ranked) → IsApart (a ∷ b ∷ us) → AllByRecursion (λ y. (ranked_joined a b).least ≢ y.least) us
least_apart a b us h = both us h.0.1 h.1.0
  where
    both : (us : List Ranked) → AllByRecursion (λ y. a.least ≢ y.least) us → AllByRecursion (λ y. b.least ≢ y.least) us → AllByRecursion (λ y. (ranked_joined a b).least ≢ y.least) us
    both [] p q = tt
    both (x ∷ xs) p q = ((let m : a.least ≢ x.least = p.0 in let n : b.least ≢ x.least = q.0 in omega arith), both xs p.1 q.1)

pub stepped : (p q : (ℕ × ℕ) × Vec ℕ Global) (es old new : List ((ℕ × ℕ) × Vec ℕ Global)) (v : Vec ℕ Global) (m : ℕ) → m ≡ min p.0.1 q.0.1 → IsApart (map shown old) → old ≡ p ∷ q ∷ es → v.items ≡ p.1.items ++ q.1.items → new ≡ insert_entry key_cmp es (p.0.0 + q.0.0, m) v → Stepped (map shown old) (map shown new)
stepped p q es old new v m least apart was items put =
    let is : new ≡ insert_entry key_cmp es (p.0.0 + q.0.0, min p.0.1 q.0.1) v = put ∙ ap (λ (x : ℕ). insert_entry key_cmp es (p.0.0 + q.0.0, x) v) least in
    let old_is : map shown old ≡ shown p ∷ shown q ∷ map shown es = ap (λ x. map shown x) was in
    let a : IsApart (shown p ∷ shown q ∷ map shown es) = subst IsApart old_is apart in
    let u : Ranked = ranked_joined (shown p) (shown q) in
    let far : AllByRecursion (λ y. u.least ≢ y.least) (map shown es) = least_apart (shown p) (shown q) (map shown es) a in
    let new_is : map shown new ≡ ranked_placed ranked_larger u (map shown es) = ap (λ x. map shown x) is ∙ shown_insert (p.0.0 + q.0.0, min p.0.1 q.0.1) v es far ∙ ap (λ (i : List ℕ). ranked_placed ranked_larger (record { size = p.0.0 + q.0.0; least = min p.0.1 q.0.1; parts = i }) (map shown es)) items in
    record {
      apart = subst IsApart (sym new_is) (apart_placed ranked_larger u (map shown es) far a.1.1);
      sum = rw (new_is, old_is) (weight_placed ranked_larger u (map shown es) ∙ omega arith);
      step = new_is ∙ sym (ap ranked_join old_is);
    }

-- the first units before `place` are there
pub record Loading (sizes : List ℕ) (place : ℕ) (us : List Ranked) : Type 0 where
  pub below : AllByRecursion (λ u. u.least < place) us
  pub rest : ranked_order ranked_larger us (ranked_firsts place (drop place sizes)) ≡ ranked_order ranked_larger [] (ranked_firsts 0 sizes)

pub loaded : (sizes : List ℕ) (place size : ℕ) (v : Vec ℕ Global) (old new : List ((ℕ × ℕ) × Vec ℕ Global)) → place < length sizes → size ≡ get_or sizes place size → Loading sizes place (map shown old) → v.items ≡ place ∷ [] → new ≡ insert_entry key_cmp old (size, place) v → Loading sizes (place + 1) (map shown new)
loaded sizes place size v old new room is h items put =
    let us : List Ranked = map shown old in
    let u : Ranked = record { size = size; least = place; parts = place ∷ [] } in
    let far : AllByRecursion (λ y. place ≢ y.least) us = weaker (λ (y : Ranked). y.least < place) (λ (y : Ranked). place ≢ y.least) (λ y b. omega arith) us h.below in
    let new_is : map shown new ≡ ranked_placed ranked_larger u us = ap (λ x. map shown x) put ∙ shown_insert (size, place) v old far ∙ ap (λ (i : List ℕ). ranked_placed ranked_larger (record { size = size; least = place; parts = i }) us) items in
    rw new_is (record {
      below = all_placed ranked_larger (λ y. y.least < place + 1) u us (omega arith) (weaker (λ (y : Ranked). y.least < place) (λ (y : Ranked). y.least < place + 1) (λ y b. omega arith) us h.below);
      rest = sym (ap (λ xs. ranked_order ranked_larger us (ranked_firsts place xs)) (drop_more sizes place size room ∙ ap (λ x. x ∷ drop (place + 1) sizes) (sym is))) ∙ h.rest;
    })

pub loaded_all : (sizes : List ℕ) (place : ℕ) (us : List Ranked) → length sizes ≤ place → Loading sizes place us → us ≡ ranked_order ranked_larger [] (ranked_firsts 0 sizes)
loaded_all sizes place us over h = sym (ap (λ xs. ranked_order ranked_larger us (ranked_firsts place xs)) (drop_all place sizes over)) ∙ h.rest

shorter : (us : List Ranked) → 2 ≤ length us → length (ranked_join us) + 1 ≡ length us
shorter [] h = absurd (omega arith)
shorter (a ∷ []) h = absurd (omega arith)
shorter (a ∷ b ∷ us) h = ap (λ n. n + 1) (length_placed ranked_larger (ranked_joined a b) us) ∙ omega arith

-- the two equations of merging
pub merged_step : (limit : ℕ) (us : List Ranked) → 1 ≤ limit → limit < length us → ranked_merged limit us ≡ ranked_merged limit (ranked_join us)
unfolding ranked_merged
merged_step limit us one more =
    let s : length (ranked_join us) + 1 ≡ length us = shorter us (omega arith) in
    let e : length us - limit ≡ suc (length (ranked_join us) - limit) = omega arith in
    ap (λ n. ranked_joins n us) e

pub merged_all : (limit : ℕ) (us : List Ranked) → length us ≤ limit → ranked_merged limit us ≡ us
unfolding ranked_merged
merged_all limit us h = let e : length us - limit ≡ 0 = omega arith in ap (λ n. ranked_joins n us) e

pub record Merging (start : List Ranked) (limit : ℕ) (us : List Ranked) : Type 0 where
  pub apart : IsApart us
  pub fits : weight us < 2 ^ 64
  pub rest : ranked_merged limit us ≡ ranked_merged limit start

pub merging : (start : List Ranked) (limit : ℕ) (old new : List Ranked) → 1 ≤ limit → limit < length old → Merging start limit old → Stepped old new → Merging start limit new
merging start limit old new one more h s = record {
  apart = s.apart;
  fits = omega (arith, s.sum, h.fits);
  rest = ap (λ us. ranked_merged limit us) s.step ∙ sym (merged_step limit old one more) ∙ h.rest;
}

pub shorter_shown : (old new : List ((ℕ × ℕ) × Vec ℕ Global)) → 2 ≤ length old → Stepped (map shown old) (map shown new) → length new < length old
shorter_shown old new two s =
    let a : length (map shown old) ≡ length old = length-map old shown in
    let b : length (map shown new) ≡ length new = length-map new shown in
    let d : length (map shown new) ≡ length (ranked_join (map shown old)) = ap (λ us. length us) s.step in
    let e : length (ranked_join (map shown old)) + 1 ≡ length (map shown old) = shorter (map shown old) (omega arith) in
    omega arith

-- the units that were taken from one map are in the other
pub record Naming (start : List Ranked) (us : List Ranked) (named : List Ranked) : Type 0 where
  pub apart : IsApart us
  pub far : AllByRecursion (λ u. AllByRecursion (λ y. u.least ≢ y.least) named) us
  pub rest : ranked_order ranked_later named us ≡ ranked_order ranked_later [] start

pub naming_begin : (start : List Ranked) (named : List Ranked) → named ≡ [] → IsApart start → Naming start start named
naming_begin start named none apart = rw none (record { apart = apart; far = all start; rest = refl })
  where
    all : (us : List Ranked) → AllByRecursion (λ u. AllByRecursion (λ (y : Ranked). u.least ≢ y.least) []) us
    all [] = tt
    all (u ∷ us) = (tt, all us)

pub naming_more : (start : List Ranked) (size least : ℕ) (v : Vec ℕ Global) (old new : List ((ℕ × ℕ) × Vec ℕ Global)) (before after : List (ℕ × (ℕ × Vec ℕ Global))) → old ≡ ((size, least), v) ∷ new → after ≡ insert_entry nat_cmp before least (size, v) → Naming start (map shown old) (map shown_by_name before) → Naming start (map shown new) (map shown_by_name after)
naming_more start size least v old new before after was put h =
    let u : Ranked = record { size = size; least = least; parts = v.items } in
    let old_is : map shown old ≡ u ∷ map shown new = ap (λ x. map shown x) was in
    let apart : IsApart (u ∷ map shown new) = subst IsApart old_is h.apart in
    let far : AllByRecursion (λ x. AllByRecursion (λ y. x.least ≢ y.least) (map shown_by_name before)) (u ∷ map shown new) = subst (λ us. AllByRecursion (λ (x : Ranked). AllByRecursion (λ (y : Ranked). x.least ≢ y.least) (map shown_by_name before)) us) old_is h.far in
    let is : map shown_by_name after ≡ ranked_placed ranked_later u (map shown_by_name before) = ap (λ x. map shown_by_name x) put ∙ named_insert least (size, v) before far.0 in
    rw is (record {
      apart = apart.1;
      far = both (map shown new) far.1 apart.0;
      rest = sym (ap (λ us. ranked_order ranked_later (map shown_by_name before) us) old_is) ∙ h.rest;
    })
  where
    both : (us : List Ranked) → AllByRecursion (λ x. AllByRecursion (λ y. x.least ≢ y.least) (map shown_by_name before)) us → AllByRecursion (λ y. least ≢ y.least) us → AllByRecursion (λ x. AllByRecursion (λ y. x.least ≢ y.least) (ranked_placed ranked_later (record { size = size; least = least; parts = v.items }) (map shown_by_name before))) us
    both [] p q = tt
    both (x ∷ xs) p q = (all_placed ranked_later (λ y. x.least ≢ y.least) (record { size = size; least = least; parts = v.items }) (map shown_by_name before) (λ e. q.0 (sym e)) p.0, both xs p.1 q.1)
