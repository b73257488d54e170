-- What a unit is made of is what its definition says.
use Rattle.std.proofs.Common.{◌≡◌, ℕ, ◌<◌, List, [], ◌∷◌, length, map, get_or, refl, sym, ap, ◌∙◌, subst, arith, Bool, true, false, cond, ◌&&◌, ◌||◌, Option, Some, None}
use Rattle.std.specs.Prelude.{filter, slice_get, nat_eq, nat_lt, All, Vec, not}
use Rattle.std.specs.List.{list_any, flat_map, AllByRecursion, IsDistinct, AllZip}
use Rattle.std.specs.Cmp.{nat_eq_equiv}
use Rattle.std.specs.Global.{Global}
use Rattle.std.specs.Str.{bytes_eq}
use Rattle.std.proofs.lemmas.Map.Views.{exact_unsigned_eq}
use Rattle.std.proofs.lemmas.Map.Keys.{IsDistinct-head, IsDistinct-tail, IsDistinct-cons}
use Rattle.std.proofs.lemmas.List.Elements.{All-from_recursion}
use Rattle.std.proofs.lemmas.Option.{slice_get-get_or, slice_get_within, slice_get-map}
use Rattle.std.proofs.lemmas.Slice.Eq.{bytes_eq-Decides}
use Rattle.reach.specs.Reach.{has, IsFound}
use Rattle.reach.proofs.Found.{leads_in, leads_to, has_kept}
use Rattle.text_order.specs.Sorted.{placed, sorted}
use Rattle.text_order.proofs.Same.{all_sorted}
use Rattle.text_order.specs.TextOrder.{text_at, AreApart}
use Rattle.cgu_merge.specs.declared.units.MergedUnit.{MergedUnit}
use Rattle.cgu_merge.specs.Merging.{Merged, name_of}
use Rattle.cgu_merge.specs.Ranked.{Named, finished, named_view}
use Rattle.cgu_copies.specs.Copies.{is_free, free_calls}
use Rattle.mono_items.specs.declared.items.MonoItem.{MonoItem}
use Rattle.mono_items.specs.declared.items.UnitPlan.{UnitPlan}
use Rattle.mono_items.specs.Homes.{has_home, home_of, first_names}
use Rattle.mono_items.specs.Units.{homeless, is_own, own_if, own_items, AreCopies, IsPlan, ArePlans}
use Rattle.cgu_partition.specs.Owners.{IsOwner, AreOwners}
use Rattle.cgu_partition.specs.Placed.{owner_among, owned_if, owned, IsPlaced}

-- ---- membership
filter_on : (p q : ℕ → Bool) (xs : List ℕ) → AllByRecursion (λ x. p x ≡ q x) xs → filter p xs ≡ filter q xs
filter_on p q [] h = refl
filter_on p q (x ∷ xs) h = ap (λ b. cond b (x ∷ filter p xs) (filter p xs)) h.0 ∙ ap (λ ys. cond (q x) (x ∷ ys) ys) (filter_on p q xs h.1)

swap : (a b c : Bool) → (a || (b || c)) ≡ (b || (a || c))
swap true true c = refl
swap true false c = refl
swap false true c = refl
swap false false c = refl

any_placed : (f : ℕ → Bool) (x : ℕ) (ys : List ℕ) → list_any f (placed x ys) ≡ (f x || list_any f ys)
any_placed f x [] = refl
any_placed f x (y ∷ ys) = by (nat_lt y x) (any_placed f x ys)
  where
    by : (b : Bool) → list_any f (placed x ys) ≡ (f x || list_any f ys) → list_any f (cond b (y ∷ placed x ys) (x ∷ y ∷ ys)) ≡ (f x || (f y || list_any f ys))
    by true rest = ap (λ b. f y || b) rest ∙ swap (f y) (f x) (list_any f ys)
    by false rest = refl

pub any_sorted : (f : ℕ → Bool) (xs : List ℕ) → list_any f (sorted xs) ≡ list_any f xs
unfolding sorted
any_sorted f [] = refl
any_sorted f (x ∷ xs) = any_placed f x (sorted xs) ∙ ap (λ b. f x || b) (any_sorted f xs)

any_on : (f g : ℕ → Bool) (xs : List ℕ) → AllByRecursion (λ x. f x ≡ g x) xs → list_any f xs ≡ list_any g xs
any_on f g [] h = refl
any_on f g (x ∷ xs) h = ap (λ b. b || list_any f xs) h.0 ∙ ap (λ b. g x || b) (any_on f g xs h.1)

and_or : (t e h : Bool) → (t && (e || h)) ≡ ((t && e) || (t && h))
and_or true e h = refl
and_or false e h = refl

-- what a filter has is what the list has and the test passes
pub has_filter : (t : ℕ → Bool) (p : ℕ) (xs : List ℕ) → has nat_eq p (filter t xs) ≡ (t p && has nat_eq p xs)
has_filter t p [] = by (t p)
  where
    by : (b : Bool) → false ≡ (b && false)
    by true = refl
    by false = refl
has_filter t p (x ∷ xs) = by (t x) refl (nat_eq p x) refl (has_filter t p xs)
  where
    by : (a : Bool) → t x ≡ a → (e : Bool) → nat_eq p x ≡ e → has nat_eq p (filter t xs) ≡ (t p && has nat_eq p xs) → has nat_eq p (cond a (x ∷ filter t xs) (filter t xs)) ≡ (t p && (nat_eq p x || has nat_eq p xs))
    by true at true e rest = rw e (sym (ap (λ b. b && true) (ap t (exact_unsigned_eq p x e) ∙ at)))
    by true at false e rest = rw e rest
    by false at true e rest = let tp : t p ≡ false = ap t (exact_unsigned_eq p x e) ∙ at in rest ∙ ap (λ b. b && has nat_eq p xs) tp ∙ sym (ap (λ b. b && (nat_eq p x || has nat_eq p xs)) tp)
    by false at false e rest = rw e rest

-- what is left of a list without repeats has none
pub filter_once : (t : ℕ → Bool) (xs : List ℕ) → IsDistinct nat_eq xs → IsDistinct nat_eq (filter t xs)
filter_once t [] h = h
filter_once t (x ∷ xs) h = by (t x) (filter_once t xs (IsDistinct-tail nat_eq x xs h))
  where
    kept : (ys : List ℕ) → AllByRecursion (λ y. nat_eq x y ≡ false) ys → AllByRecursion (λ y. nat_eq x y ≡ false) (filter t ys)
    kept [] g = tt
    kept (y ∷ ys) g = each (t y) (kept ys g.1)
      where
        each : (b : Bool) → AllByRecursion (λ z. nat_eq x z ≡ false) (filter t ys) → AllByRecursion (λ z. nat_eq x z ≡ false) (cond b (y ∷ filter t ys) (filter t ys))
        each true r = (g.0, r)
        each false r = r

    by : (b : Bool) → IsDistinct nat_eq (filter t xs) → IsDistinct nat_eq (cond b (x ∷ filter t xs) (filter t xs))
    by true rest = IsDistinct-cons nat_eq x (filter t xs) (kept xs (IsDistinct-head nat_eq x xs h)) rest
    by false rest = rest

pub filter_inside : (n : ℕ) (t : ℕ → Bool) (xs : List ℕ) → AllByRecursion (λ p. p < n) xs → AllByRecursion (λ p. p < n) (filter t xs)
filter_inside n t [] h = tt
filter_inside n t (x ∷ xs) h = by (t x) (filter_inside n t xs h.1)
  where
    by : (b : Bool) → AllByRecursion (λ p. p < n) (filter t xs) → AllByRecursion (λ p. p < n) (cond b (x ∷ filter t xs) (filter t xs))
    by true r = (h.0, r)
    by false r = r

-- ---- own items
same_test : (names : List (List ℕ)) (apart : AreApart names) (x : MonoItem) (r : ℕ) → r < length names → text_at names r ≡ home_of x → (k : ℕ) → k < length names → nat_eq r k ≡ bytes_eq (home_of x) (text_at names k)
same_test names apart x r inside home k l = by (nat_eq r k) refl (bytes_eq (home_of x) (text_at names k)) refl
  where
    by : (a : Bool) → nat_eq r k ≡ a → (b : Bool) → bytes_eq (home_of x) (text_at names k) ≡ b → a ≡ b
    by true e true f = refl
    by false e false f = refl
    by true e false f = absurd (let same : bytes_eq (home_of x) (text_at names k) ≡ true = (bytes_eq-Decides (home_of x) (text_at names k)).1 (sym home ∙ ap (λ (n : ℕ). text_at names n) (exact_unsigned_eq r k e)) in cc)
    by false e true f = absurd (let same : r ≡ k = apart.each r k inside l (home ∙ (bytes_eq-Decides (home_of x) (text_at names k)).0 f) in let t : nat_eq r k ≡ true = subst (λ (n : ℕ). nat_eq r n ≡ true) same (nat_eq_equiv.refl r) in cc)

own_by : (names : List (List ℕ)) (apart : AreApart names) (firsts : List ℕ) → AllByRecursion (λ k. k < length names) firsts → (x : MonoItem) (o : Option ℕ) → IsOwner names x o → owner_among (sorted firsts) o ≡ is_own names firsts x
own_by names apart firsts inside x None own = sym (ap (λ b. b && list_any (λ r. bytes_eq (home_of x) (text_at names r)) firsts) own)
own_by names apart firsts inside x (Some r) own = any_sorted (nat_eq r) firsts ∙ any_on (nat_eq r) (λ k. bytes_eq (home_of x) (text_at names k)) firsts (all firsts inside) ∙ sym (ap (λ b. b && list_any (λ k. bytes_eq (home_of x) (text_at names k)) firsts) own.0)
  where
    all : (ks : List ℕ) → AllByRecursion (λ k. k < length names) ks → AllByRecursion (λ k. nat_eq r k ≡ bytes_eq (home_of x) (text_at names k)) ks
    all [] g = tt
    all (k ∷ ks) g = (same_test names apart x r own.1 own.2 k g.0, all ks g.1)

owned_same : (items : List MonoItem) (owners : List (Option ℕ)) (names : List (List ℕ)) (apart : AreApart names) (firsts : List ℕ) → AllByRecursion (λ k. k < length names) firsts → AreOwners names items owners → (d : MonoItem) (p : ℕ) → p < length items → owned owners (sorted firsts) p ≡ own_if (is_own names firsts) (slice_get items p)
owned_same items owners names apart firsts inside owns d p room =
    ap (λ o. owned_if (sorted firsts) o) (slice_get-get_or owners p None (omega (arith, owns.count)))
    ∙ own_by names apart firsts inside (get_or items p d) (get_or owners p None) (owns.each p d None room)
    ∙ sym (ap (λ x. own_if (is_own names firsts) x) (slice_get-get_or items p d room))

-- ---- copies
free_same : (items : List MonoItem) (p : ℕ) (o : Option MonoItem) → slice_get items p ≡ o → own_if (λ x. not (has_home x)) (slice_get items p) ≡ is_free (homeless items) p
free_same items p None at = rw (slice_get-map (λ x. not (has_home x)) items p, at) refl
free_same items p (Some x) at = rw (slice_get-map (λ x. not (has_home x)) items p, at) refl

within_by : (items : List MonoItem) (p : ℕ) (o : Option MonoItem) → slice_get items p ≡ o → own_if (λ x. not (has_home x)) o ≡ true → p < length items
within_by items p None at h = cc
within_by items p (Some x) at h = slice_get_within items p x at

and_first : (a b : Bool) → (a && b) ≡ true → a ≡ true
and_first true b h = refl
and_first false b h = h

and_second : (a b : Bool) → (a && b) ≡ true → b ≡ true
and_second true b h = h
and_second false b h = cc

module _ (items : List MonoItem) (callees : List (Vec ℕ Global)) (order home copies found : List ℕ) (once : IsDistinct nat_eq home) (f : IsFound nat_eq (free_calls callees (homeless items)) home found) (c : copies ≡ filter (λ p. is_free (homeless items) p && has nat_eq p found) order) (inside : AllByRecursion (λ p. p < length items) order) (all : (k : ℕ) → k < length items → has nat_eq k order ≡ true) where
  abbrev test : ℕ → Bool
  test p = is_free (homeless items) p && has nat_eq p found

  in_copies : (p : ℕ) → has nat_eq p copies ≡ (test p && has nat_eq p order)
  in_copies p = ap (λ xs. has nat_eq p xs) c ∙ has_filter test p order

  copies_are_found : AreCopies items callees order home copies
  copies_are_found = record {
    sound = λ p h.
        let t : test p ≡ true = and_first (test p) (has nat_eq p order) (sym (in_copies p) ∙ h) in
        let l = leads_to nat_eq nat_eq_equiv exact_unsigned_eq (free_calls callees (homeless items)) home once found 0 f p (and_second (is_free (homeless items) p) (has nat_eq p found) t) in
        record { free = free_same items p (slice_get items p) refl ∙ and_first (is_free (homeless items) p) (has nat_eq p found) t; from = l.0; at_home = l.1; steps = l.2.0; leads = l.2.1 };
    whole = λ p k.
        let start : has nat_eq k.from found ≡ true = ap (λ xs. has nat_eq k.from xs) f.order ∙ has_kept nat_eq nat_eq_equiv exact_unsigned_eq k.from home (flat_map (free_calls callees (homeless items)) found) k.at_home in
        let there : has nat_eq p found ≡ true = leads_in nat_eq nat_eq_equiv exact_unsigned_eq (free_calls callees (homeless items)) home once found f k.steps k.from p start k.leads in
        let free : is_free (homeless items) p ≡ true = sym (free_same items p (slice_get items p) refl) ∙ k.free in
        let ordered : has nat_eq p order ≡ true = all p (within_by items p (slice_get items p) refl k.free) in
        in_copies p ∙ ap (λ b. (b && has nat_eq p found) && has nat_eq p order) free ∙ ap (λ b. b && has nat_eq p order) there ∙ ordered;
    listed = c ∙ filter_on test (λ p. has nat_eq p copies) order (each order inside);
  }
    where
      and_true : (b : Bool) → b ≡ (b && true)
      and_true true = refl
      and_true false = refl

      each : (ps : List ℕ) → AllByRecursion (λ p. p < length items) ps → AllByRecursion (λ p. test p ≡ has nat_eq p copies) ps
      each [] g = tt
      each (p ∷ ps) g = (and_true (test p) ∙ ap (λ b. test p && b) (sym (all p g.0)) ∙ sym (in_copies p), each ps g.1)

-- ---- plans
module _ (items : List MonoItem) (callees : List (Vec ℕ Global)) (order : List ℕ) (owners : List (Option ℕ)) (names : List (List ℕ)) (are : names ≡ first_names items) (apart : AreApart names) (owns : AreOwners names items owners) (order_once : IsDistinct nat_eq order) (inside : AllByRecursion (λ p. p < length items) order) (all : (k : ℕ) → k < length items → has nat_eq k order ≡ true) where
  own_tests : (firsts : List ℕ) → AllByRecursion (λ k. k < length names) firsts → (ps : List ℕ) → AllByRecursion (λ p. p < length items) ps → AllByRecursion (λ p. owned owners (sorted firsts) p ≡ own_if (is_own names firsts) (slice_get items p)) ps
  own_tests firsts g [] h = tt
  own_tests firsts g (p ∷ ps) h = (at items refl, own_tests firsts g ps h.1)
    where
      at : (xs : List MonoItem) → xs ≡ items → owned owners (sorted firsts) p ≡ own_if (is_own names firsts) (slice_get items p)
      at [] none = absurd (let l : p < length items = h.0 in let e : 0 ≡ length items = ap length none in omega arith)
      at (d ∷ xs) some = owned_same items owners names apart firsts g owns d p h.0

  plan_is : (u : MergedUnit) (l : Merged) (plan : UnitPlan) → named_view u ≡ finished names l → AllByRecursion (λ k. k < length names) l.firsts → IsPlaced order owners (homeless items) callees u plan → IsPlan items callees order l plan
  unfolding own_items
  plan_is u l plan same g h =
      let firsts : u.firsts.items ≡ sorted l.firsts = ap (λ (n : Named). n.firsts) same in
      record {
        name = h.name ∙ ap (λ (n : Named). n.name) same ∙ ap (λ ns. name_of ns l.firsts) are;
        size = h.size ∙ ap (λ (n : Named). n.size) same;
        home = h.home ∙ ap (λ (fs : List ℕ). filter (owned owners fs) order) firsts ∙ filter_on (owned owners (sorted l.firsts)) (λ p. own_if (is_own names l.firsts) (slice_get items p)) order (own_tests l.firsts g order inside) ∙ ap (λ ns. filter (λ p. own_if (is_own ns l.firsts) (slice_get items p)) order) are;
        copies = copies_are_found items callees order plan.home.items plan.copies.items h.found (subst (IsDistinct nat_eq) (sym h.home) (filter_once (owned owners u.firsts.items) order order_once)) h.is_found h.copies inside all;
      }

  pub plans_are : (ls : List Merged) (us : List MergedUnit) (ps : List UnitPlan) → map named_view us ≡ map (finished names) ls → AllByRecursion (λ l. AllByRecursion (λ k. k < length names) l.firsts) ls → AllZip (IsPlaced order owners (homeless items) callees) us ps → ArePlans items callees order ls ps
  plans_are [] [] [] same g h = tt
  plans_are [] [] (p ∷ ps) same g h = h
  plans_are [] (u ∷ us) ps same g h = cc
  plans_are (l ∷ ls) [] ps same g h = cc
  plans_are (l ∷ ls) (u ∷ us) [] same g h = absurd h
  plans_are (l ∷ ls) (u ∷ us) (p ∷ ps) same g h =
      let one : named_view u ≡ finished names l = cc in
      let rest : map named_view us ≡ map (finished names) ls = cc in
      (plan_is u l p one g.0 h.0, plans_are ls us ps rest g.1 h.1)

-- the places of each unit are places of names
pub units_inside : (names : List (List ℕ)) (ls : List Merged) (us : List MergedUnit) → map named_view us ≡ map (finished names) ls → AllByRecursion (λ l. AllByRecursion (λ k. k < length names) l.firsts) ls → AllByRecursion (λ u. All (λ p. p < length names) u.firsts.items) us
units_inside names [] [] same g = tt
units_inside names [] (u ∷ us) same g = cc
units_inside names (l ∷ ls) [] same g = tt
units_inside names (l ∷ ls) (u ∷ us) same g =
    let one : named_view u ≡ finished names l = cc in
    let rest : map named_view us ≡ map (finished names) ls = cc in
    let firsts : u.firsts.items ≡ sorted l.firsts = ap (λ (n : Named). n.firsts) one in
    (subst (λ (ps : List ℕ). All (λ p. p < length names) ps) (sym firsts) (All-from_recursion (λ p. p < length names) (sorted l.firsts) (all_sorted (λ p. p < length names) l.firsts g.0)), units_inside names ls us rest g.1)
