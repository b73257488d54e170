-- Units merge by their least places as they do by their names.
use Rattle.std.proofs.Common.{◌≡◌, ◌≢◌, ℕ, zero, suc, ◌+◌, ◌-◌, ◌<◌, ◌≤◌, sum, List, [], ◌∷◌, ◌++◌, length, map, min, refl, sym, ap, ◌∙◌, subst, arith, Bool, true, false, cond, ◌⊎◌, inl, inr, ⊎_elim}
use Rattle.std.specs.Prelude.{nat_lt}
use Rattle.std.specs.List.{AllByRecursion}
use Rattle.std.specs.Ordering.{nat_cmp, ordering_then, is_gt}
use Rattle.std.specs.declared.cmp.Ordering.{Ordering}
use Rattle.std.specs.declared.cmp.Ordering.TheVariants.{Less, Equal, Greater}
use Rattle.std.proofs.lemmas.Cmp.{nat_list_cmp_total, tied_itself}
use Rattle.std.proofs.lemmas.Bool.{cases_lt}
use Rattle.std.proofs.lemmas.Bool.Decides.{nat_tests}
use Rattle.std.proofs.lemmas.List.{length-map}
use Rattle.std.proofs.lemmas.List.Sums.{sum_by-cons}
use Rattle.std.proofs.lemmas.List.Elements.{All-from_recursion}
use borrow.Author.Tests.{ltb-false}
use Rattle.text_order.specs.Sorted.{placed as number_placed, sorted}
use Rattle.text_order.specs.TextOrder.{text_cmp, text_at}
use Rattle.text_order.proofs.Same.{all_sorted}
use Rattle.cgu_merge.specs.Merging.{Merged, behind, plus, name_of, placed, in_order, larger, later, join_least, joins, merged, firsts, merged_units}
use Rattle.cgu_merge.specs.Ranked.{Ranked, plain, ranked_larger, ranked_later, ranked_placed, ranked_joined, ranked_join, ranked_joins, ranked_merged, ranked_firsts, ranked_order, IsApart, weight, AreInside, AreNames}
use Rattle.cgu_merge.proofs.NameOrder.{IsTail, names_decide}
use Rattle.cgu_merge.proofs.Placing.{all_placed, apart_placed, weight_placed, least_apart}

abbrev IsIn : ℕ → List ℕ → Type 0
IsIn m [] = ⊥
IsIn m (x ∷ xs) = (m ≡ x) ⊎ IsIn m xs

-- a unit whose places are below n, and whose least place is the least of them
pub record Good (n : ℕ) (u : Ranked) : Type 0 where
  pub inside : AllByRecursion (λ p. p < n) u.parts
  pub lowest : AllByRecursion (λ p. u.least ≤ p) u.parts
  pub has : IsIn u.least u.parts

not_less : (m y : ℕ) → m ≤ y → nat_lt y m ≡ false
not_less m y h = grind (arith, nat_tests)

placed_least : (m : ℕ) (ys : List ℕ) → AllByRecursion (λ p. m ≤ p) ys → number_placed m ys ≡ m ∷ ys
placed_least m [] h = refl
placed_least m (y ∷ ys) h = rw (not_less m y h.0) refl

-- the least of numbers is the first in order
sorted_head : (m : ℕ) (xs : List ℕ) → AllByRecursion (λ p. m ≤ p) xs → IsIn m xs → (ts : List ℕ) × (sorted xs ≡ m ∷ ts)
unfolding sorted
sorted_head m [] low h = absurd h
sorted_head m (x ∷ xs) low (inl same) = (sorted xs, ap (λ (y : ℕ). number_placed y (sorted xs)) (sym same) ∙ placed_least m (sorted xs) (all_sorted (λ p. m ≤ p) xs low.1))
sorted_head m (x ∷ xs) low (inr h) = by (sorted_head m xs low.1 h)
  where
    cases : (b : Bool) → nat_lt m x ≡ b → (us : List ℕ) → (ts : List ℕ) × (cond b (m ∷ number_placed x us) (x ∷ m ∷ us) ≡ m ∷ ts)
    cases true is us = (number_placed x us, refl)
    cases false is us = let ge : x ≤ m = ltb-false m x is in let le : m ≤ x = low.0 in let same : x ≡ m = omega arith in (m ∷ us, ap (λ (y : ℕ). y ∷ m ∷ us) same)

    by : (us : List ℕ) × (sorted xs ≡ m ∷ us) → (ts : List ℕ) × (number_placed x (sorted xs) ≡ m ∷ ts)
    by r = let c = cases (nat_lt m x) refl r.0 in (c.0, ap (λ ys. number_placed x ys) r.1 ∙ c.1)

behind_tail : (ns : List (List ℕ)) → IsTail (behind ns)
behind_tail [] = tt
behind_tail (n ∷ ns) = refl

-- the name of a unit begins with the least of its first names, and goes on with `+` if it goes on
name_begins : (names : List (List ℕ)) (u : Ranked) → Good (length names) u → (t : List ℕ) × IsTail t × (name_of names u.parts ≡ text_at names u.least ++ t)
unfolding name_of
name_begins names u g = let s = sorted_head u.least u.parts g.lowest g.has in (behind (map (text_at names) s.0), behind_tail (map (text_at names) s.0), ap (λ xs. plus (map (text_at names) xs)) s.1)

at_inside : (P : ℕ → Type 0) (m : ℕ) (xs : List ℕ) → AllByRecursion P xs → IsIn m xs → P m
at_inside P m [] h i = absurd i
at_inside P m (x ∷ xs) h (inl same) = subst P (sym same) h.0
at_inside P m (x ∷ xs) h (inr i) = at_inside P m xs h.1 i

at_text : (P : List ℕ → Type 0) (ts : List (List ℕ)) (i : ℕ) → AllByRecursion P ts → i < length ts → P (text_at ts i)
at_text P [] i h l = absurd (omega arith)
at_text P (t ∷ ts) zero h l = h.0
at_text P (t ∷ ts) (suc i) h l = at_text P ts i h.1 (omega arith)

nat_less : (x y : ℕ) → x < y → nat_cmp x y ≡ Less
nat_less x y h = grind (arith, nat_tests)

nat_greater : (x y : ℕ) → y < x → nat_cmp x y ≡ Greater
nat_greater x y h = grind (arith, nat_tests)

module _ (names : List (List ℕ)) (rules : AreNames names) where
  text_places : (i j : ℕ) → i < length names → j < length names → i ≢ j → text_cmp (text_at names i) (text_at names j) ≡ nat_cmp i j
  text_places i j p q apart = ⊎_elim (λ lt. rules.rise i j lt q ∙ sym (nat_less i j lt)) (λ ge. let gt : j < i = omega arith in nat_list_cmp_total.antisymm (text_at names i) (text_at names j) ∙ rw (rules.rise j i gt p) (sym (nat_greater i j gt))) (cases_lt i j)

  not_equal : (i j : ℕ) → i ≢ j → nat_cmp i j ≡ Equal → ⊥
  not_equal i j apart e = ⊎_elim (λ lt. let l : nat_cmp i j ≡ Less = nat_less i j lt in cc) (λ ge. let l : nat_cmp i j ≡ Greater = nat_greater i j (omega arith) in cc) (cases_lt i j)

  names_order : (a b : Ranked) → Good (length names) a → Good (length names) b → a.least ≢ b.least → text_cmp (name_of names a.parts) (name_of names b.parts) ≡ nat_cmp a.least b.least
  names_order a b g h apart =
      let s = name_begins names a g in
      let t = name_begins names b h in
      let p : a.least < length names = at_inside (λ x. x < length names) a.least a.parts g.inside g.has in
      let q : b.least < length names = at_inside (λ x. x < length names) b.least b.parts h.inside h.has in
      let places : text_cmp (text_at names a.least) (text_at names b.least) ≡ nat_cmp a.least b.least = text_places a.least b.least p q apart in
      let differ : text_at names a.least ≢ text_at names b.least = λ e. not_equal a.least b.least apart (sym places ∙ ap (λ (x : List ℕ). text_cmp (text_at names a.least) x) (sym e) ∙ tied_itself nat_list_cmp_total (text_at names a.least)) in
      ap (λ (x : List ℕ). text_cmp x (name_of names b.parts)) s.2 ∙ ap (λ (x : List ℕ). text_cmp (text_at names a.least ++ s.0) x) t.2
      ∙ names_decide (text_at names a.least) (text_at names b.least) s.0 t.0 (at_text (λ n. AllByRecursion (λ c. 43 < c) n) names a.least rules.above p) (at_text (λ n. AllByRecursion (λ c. 43 < c) n) names b.least rules.above q) s.1 t.1 differ
      ∙ places

  larger_same : (a b : Ranked) → Good (length names) a → Good (length names) b → a.least ≢ b.least → larger names (plain a) (plain b) ≡ ranked_larger a b
  larger_same a b g h apart = ap (λ (o : Ordering). is_gt (ordering_then (nat_cmp a.size b.size) o)) (names_order a b g h apart)

  later_same : (a b : Ranked) → Good (length names) a → Good (length names) b → a.least ≢ b.least → later names (plain a) (plain b) ≡ ranked_later a b
  later_same a b g h apart = ap is_gt (names_order a b g h apart)

abbrev pub AreGood : ℕ → List Ranked → Type 0
AreGood n us = AllByRecursion (Good n) us

-- each of the units xs is apart from each of us
abbrev AreFar : List Ranked → List Ranked → Type 0
AreFar us xs = AllByRecursion (λ x. AllByRecursion (λ y. x.least ≢ y.least) us) xs

module _ (n : ℕ) (after : Merged → Merged → Bool) (ranked_after : Ranked → Ranked → Bool) (same : (a b : Ranked) → Good n a → Good n b → a.least ≢ b.least → after (plain a) (plain b) ≡ ranked_after a b) where
  placed_by : (u x : Ranked) (xs : List Ranked) (b c : Bool) → b ≡ c → map plain (ranked_placed ranked_after u xs) ≡ placed after (plain u) (map plain xs) → map plain (cond c (x ∷ ranked_placed ranked_after u xs) (u ∷ x ∷ xs)) ≡ cond b (plain x ∷ placed after (plain u) (map plain xs)) (plain u ∷ plain x ∷ map plain xs)
  placed_by u x xs true true e rest = ap (λ ys. plain x ∷ ys) rest
  placed_by u x xs false false e rest = refl
  placed_by u x xs true false e rest = cc
  placed_by u x xs false true e rest = cc

  placed_same : (u : Ranked) (xs : List Ranked) → Good n u → AreGood n xs → AllByRecursion (λ y. u.least ≢ y.least) xs → map plain (ranked_placed ranked_after u xs) ≡ placed after (plain u) (map plain xs)
  placed_same u [] g h apart = refl
  placed_same u (x ∷ xs) g h apart = placed_by u x xs (after (plain u) (plain x)) (ranked_after u x) (same u x g h.0 apart.0) (placed_same u xs g h.1 apart.1)

  far_more : (u : Ranked) (us xs : List Ranked) → AllByRecursion (λ y. u.least ≢ y.least) xs → AreFar us xs → AreFar (ranked_placed ranked_after u us) xs
  far_more u us [] p q = tt
  far_more u us (x ∷ xs) p q = (all_placed ranked_after (λ y. x.least ≢ y.least) u us (λ e. p.0 (sym e)) q.0, far_more u us xs p.1 q.1)

  order_same : (us xs : List Ranked) → AreGood n us → AreGood n xs → IsApart xs → AreFar us xs → map plain (ranked_order ranked_after us xs) ≡ in_order after (map plain us) (map plain xs)
  order_same us [] g h apart far = refl
  order_same us (x ∷ xs) g h apart far =
      order_same (ranked_placed ranked_after x us) xs (all_placed ranked_after (Good n) x us h.0 g) h.1 apart.1 (far_more x us xs apart.0 far.1)
      ∙ ap (λ ys. in_order after ys (map plain xs)) (placed_same x us h.0 g far.0)

  order_good : (us xs : List Ranked) → AreGood n us → AreGood n xs → AreGood n (ranked_order ranked_after us xs)
  order_good us [] g h = g
  order_good us (x ∷ xs) g h = order_good (ranked_placed ranked_after x us) xs (all_placed ranked_after (Good n) x us h.0 g) h.1

  order_apart : (us xs : List Ranked) → IsApart us → IsApart xs → AreFar us xs → IsApart (ranked_order ranked_after us xs)
  order_apart us [] g h far = g
  order_apart us (x ∷ xs) g h far = order_apart (ranked_placed ranked_after x us) xs (apart_placed ranked_after x us far.0 g) h.1 (far_more x us xs h.0 far.1)

order_weight : (us xs : List Ranked) → weight (ranked_order ranked_larger us xs) ≡ weight us + weight xs
order_weight us [] = omega arith
order_weight us (x ∷ xs) = order_weight (ranked_placed ranked_larger x us) xs ∙ ap (λ n. n + weight xs) (weight_placed ranked_larger x us) ∙ omega arith

far_none : (xs : List Ranked) → AreFar [] xs
far_none [] = tt
far_none (x ∷ xs) = (tt, far_none xs)

firsts_plain : (n : ℕ) (sizes : List ℕ) → map plain (ranked_firsts n sizes) ≡ firsts n sizes
firsts_plain n [] = refl
firsts_plain n (s ∷ ss) = ap (λ us. record { size = s; firsts = n ∷ [] } ∷ us) (firsts_plain (n + 1) ss)

firsts_good : (m n : ℕ) (sizes : List ℕ) → n + length sizes ≤ m → AreGood m (ranked_firsts n sizes)
firsts_good m n [] h = tt
firsts_good m n (s ∷ ss) h = (record { inside = (omega arith, tt); lowest = (omega arith, tt); has = inl refl }, firsts_good m (n + 1) ss (omega arith))

firsts_apart : (n : ℕ) (sizes : List ℕ) → IsApart (ranked_firsts n sizes)
firsts_apart n [] = tt
firsts_apart n (s ∷ ss) = (above n (n + 1) ss (omega arith), firsts_apart (n + 1) ss)
  where
    above : (k m : ℕ) (xs : List ℕ) → k < m → AllByRecursion (λ y. k ≢ y.least) (ranked_firsts m xs)
    above k m [] h = tt
    above k m (x ∷ xs) h = ((omega arith), above k (m + 1) xs (omega arith))

sum_cons : (s : ℕ) (ss : List ℕ) → sum (s ∷ ss) ≡ s + sum ss
sum_cons s ss = sum_by-cons (λ x. x) s ss

firsts_weight : (n : ℕ) (sizes : List ℕ) → weight (ranked_firsts n sizes) ≡ sum sizes
firsts_weight n [] = refl
firsts_weight n (s ∷ ss) = ap (λ m. s + m) (firsts_weight (n + 1) ss) ∙ sym (sum_cons s ss)

in_left : (m : ℕ) (xs ys : List ℕ) → IsIn m xs → IsIn m (xs ++ ys)
in_left m [] ys i = absurd i
in_left m (x ∷ xs) ys (inl same) = inl same
in_left m (x ∷ xs) ys (inr i) = inr (in_left m xs ys i)

in_right : (m : ℕ) (xs ys : List ℕ) → IsIn m ys → IsIn m (xs ++ ys)
in_right m [] ys i = i
in_right m (x ∷ xs) ys i = inr (in_right m xs ys i)

all_both : (P : ℕ → Type 0) (xs ys : List ℕ) → AllByRecursion P xs → AllByRecursion P ys → AllByRecursion P (xs ++ ys)
all_both P [] ys p q = q
all_both P (x ∷ xs) ys p q = (p.0, all_both P xs ys p.1 q)

lower : (m k : ℕ) (xs : List ℕ) → m ≤ k → AllByRecursion (λ p. k ≤ p) xs → AllByRecursion (λ p. m ≤ p) xs
lower m k [] le h = tt
lower m k (x ∷ xs) le h = ((let l : k ≤ x = h.0 in omega arith), lower m k xs le h.1)

joined_good : (n : ℕ) (a b : Ranked) → Good n a → Good n b → Good n (ranked_joined a b)
joined_good n a b g h = record {
  inside = all_both (λ p. p < n) a.parts b.parts g.inside h.inside;
  lowest = all_both (λ p. min a.least b.least ≤ p) a.parts b.parts (lower (min a.least b.least) a.least a.parts (omega arith) g.lowest) (lower (min a.least b.least) b.least b.parts (omega arith) h.lowest);
  has = ⊎_elim (λ lt. let e : a.least ≡ min a.least b.least = omega arith in subst (λ (m : ℕ). IsIn m (a.parts ++ b.parts)) e (in_left a.least a.parts b.parts g.has)) (λ ge. let e : b.least ≡ min a.least b.least = omega arith in subst (λ (m : ℕ). IsIn m (a.parts ++ b.parts)) e (in_right b.least a.parts b.parts h.has)) (cases_lt a.least b.least);
}

join_good : (n : ℕ) (us : List Ranked) → AreGood n us → AreGood n (ranked_join us)
join_good n [] g = tt
join_good n (a ∷ []) g = g
join_good n (a ∷ b ∷ us) g = all_placed ranked_larger (Good n) (ranked_joined a b) us (joined_good n a b g.0 g.1.0) g.1.1

join_apart : (us : List Ranked) → IsApart us → IsApart (ranked_join us)
join_apart [] a = tt
join_apart (x ∷ []) a = a
join_apart (x ∷ y ∷ us) a = apart_placed ranked_larger (ranked_joined x y) us (least_apart x y us a) a.1.1

joins_good : (n k : ℕ) (us : List Ranked) → AreGood n us → AreGood n (ranked_joins k us)
joins_good n zero us g = g
joins_good n (suc k) us g = joins_good n k (ranked_join us) (join_good n us g)

joins_apart : (k : ℕ) (us : List Ranked) → IsApart us → IsApart (ranked_joins k us)
joins_apart zero us a = a
joins_apart (suc k) us a = joins_apart k (ranked_join us) (join_apart us a)

module _ (names : List (List ℕ)) (rules : AreNames names) where
  join_same : (us : List Ranked) → AreGood (length names) us → IsApart us → map plain (ranked_join us) ≡ join_least names (map plain us)
  join_same [] g a = refl
  join_same (x ∷ []) g a = refl
  join_same (x ∷ y ∷ us) g a = placed_same (length names) (larger names) ranked_larger (larger_same names rules) (ranked_joined x y) us (joined_good (length names) x y g.0 g.1.0) g.1.1 (least_apart x y us a)

  joins_same : (k : ℕ) (us : List Ranked) → AreGood (length names) us → IsApart us → map plain (ranked_joins k us) ≡ joins names k (map plain us)
  joins_same zero us g a = refl
  joins_same (suc k) us g a = joins_same k (ranked_join us) (join_good (length names) us g) (join_apart us a) ∙ ap (λ xs. joins names k xs) (join_same us g a)

  merged_same : (limit : ℕ) (us : List Ranked) → AreGood (length names) us → IsApart us → map plain (ranked_merged limit us) ≡ merged names limit (map plain us)
  unfolding ranked_merged merged
  merged_same limit us g a = joins_same (length us - limit) us g a ∙ sym (ap (λ n. joins names (n - limit) (map plain us)) (length-map us plain))

  merged_good : (limit : ℕ) (us : List Ranked) → AreGood (length names) us → AreGood (length names) (ranked_merged limit us)
  unfolding ranked_merged
  merged_good limit us g = joins_good (length names) (length us - limit) us g

  merged_apart : (limit : ℕ) (us : List Ranked) → IsApart us → IsApart (ranked_merged limit us)
  unfolding ranked_merged
  merged_apart limit us a = joins_apart (length us - limit) us a

-- the first units in order, those that are left of them, and these by name
abbrev pub ranked_start : List ℕ → List Ranked
ranked_start sizes = ranked_order ranked_larger [] (ranked_firsts 0 sizes)

abbrev pub ranked_left : List ℕ → ℕ → List Ranked
ranked_left sizes limit = ranked_merged limit (ranked_start sizes)

abbrev pub ranked_named : List ℕ → ℕ → List Ranked
ranked_named sizes limit = ranked_order ranked_later [] (ranked_left sizes limit)

pub start_apart : (names : List (List ℕ)) → AreNames names → (sizes : List ℕ) → IsApart (ranked_start sizes)
start_apart names rules sizes = order_apart (length names) (larger names) ranked_larger (larger_same names rules) [] (ranked_firsts 0 sizes) tt (firsts_apart 0 sizes) (far_none (ranked_firsts 0 sizes))

pub start_weight : (sizes : List ℕ) → weight (ranked_start sizes) ≡ sum sizes
start_weight sizes =
    let both : weight (ranked_start sizes) ≡ 0 + weight (ranked_firsts 0 sizes) = order_weight [] (ranked_firsts 0 sizes) in
    let firsts_only : weight (ranked_firsts 0 sizes) ≡ sum sizes = firsts_weight 0 sizes in
    omega arith

pub left_apart : (names : List (List ℕ)) → AreNames names → (sizes : List ℕ) (limit : ℕ) → IsApart (ranked_left sizes limit)
left_apart names rules sizes limit = merged_apart names rules limit (ranked_start sizes) (start_apart names rules sizes)

module _ (names : List (List ℕ)) (rules : AreNames names) (sizes : List ℕ) (count : length sizes ≡ length names) (limit : ℕ) where
  start_good : AreGood (length names) (ranked_start sizes)
  start_good = order_good (length names) (larger names) ranked_larger (larger_same names rules) [] (ranked_firsts 0 sizes) tt (firsts_good (length names) 0 sizes (omega arith))

  left_good : AreGood (length names) (ranked_left sizes limit)
  left_good = merged_good names rules limit (ranked_start sizes) start_good

  pub all_named : AreGood (length names) (ranked_named sizes limit)
  all_named = order_good (length names) (later names) ranked_later (later_same names rules) [] (ranked_left sizes limit) tt left_good

  start_same : map plain (ranked_start sizes) ≡ in_order (larger names) [] (firsts 0 sizes)
  start_same = order_same (length names) (larger names) ranked_larger (larger_same names rules) [] (ranked_firsts 0 sizes) tt (firsts_good (length names) 0 sizes (omega arith)) (firsts_apart 0 sizes) (far_none (ranked_firsts 0 sizes)) ∙ ap (λ xs. in_order (larger names) [] xs) (firsts_plain 0 sizes)

  left_same : map plain (ranked_left sizes limit) ≡ merged names limit (in_order (larger names) [] (firsts 0 sizes))
  left_same = merged_same names rules limit (ranked_start sizes) start_good (start_apart names rules sizes) ∙ ap (λ xs. merged names limit xs) start_same

  -- what is merged by places is what is merged by names
  pub named_same : map plain (ranked_named sizes limit) ≡ merged_units names sizes limit
  unfolding merged_units
  named_same = order_same (length names) (later names) ranked_later (later_same names rules) [] (ranked_left sizes limit) tt left_good (left_apart names rules sizes limit) (far_none (ranked_left sizes limit)) ∙ ap (λ xs. in_order (later names) [] xs) left_same

  pub named_inside : AreInside (length names) (ranked_named sizes limit)
  named_inside = inside (ranked_named sizes limit) all_named
    where
      inside : (us : List Ranked) → AreGood (length names) us → AreInside (length names) us
      inside [] g = tt
      inside (u ∷ us) g = (All-from_recursion (λ p. p < length names) u.parts (g.0).inside, inside us g.1)

-- the places of each unit that is left are places of names
pub merged_inside : (names : List (List ℕ)) → AreNames names → (sizes : List ℕ) → length sizes ≡ length names → (limit : ℕ) → AllByRecursion (λ u. AllByRecursion (λ p. p < length names) u.firsts) (merged_units names sizes limit)
merged_inside names rules sizes count limit = subst (λ (us : List Merged). AllByRecursion (λ (u : Merged). AllByRecursion (λ p. p < length names) u.firsts) us) (named_same names rules sizes count limit) (plains (ranked_named sizes limit) (all_named names rules sizes count limit))
  where
    plains : (us : List Ranked) → AreGood (length names) us → AllByRecursion (λ (u : Merged). AllByRecursion (λ p. p < length names) u.firsts) (map plain us)
    plains [] g = tt
    plains (u ∷ us) g = ((g.0).inside, plains us g.1)
