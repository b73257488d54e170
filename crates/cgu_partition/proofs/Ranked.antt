-- Numbers in order, and lists in the order of ranks.
use Rattle.std.proofs.Common.{◌≡◌, ◌≢◌, ℕ, zero, suc, ◌+◌, ◌<◌, ◌≤◌, List, [], ◌∷◌, length, map, get_or, set, refl, sym, ap, ◌∙◌, subst, arith, Bool, true, false, cond, ◌&&◌, ◌||◌, ⊎_elim}
use Rattle.std.specs.Prelude.{filter, nat_eq, nat_lt, All}
use Rattle.std.specs.List.{AllByRecursion, IsDistinct, flat_map}
use Rattle.std.specs.Cmp.{nat_eq_equiv}
use Rattle.std.proofs.lemmas.Bool.{cases_lt}
use Rattle.std.proofs.lemmas.Bool.Decides.{nat_tests}
use Rattle.std.proofs.lemmas.List.{length-set, get_or-set_same, get_or-set_other}
use Rattle.std.proofs.lemmas.List.Elements.{All-from_recursion, recursion_from_All}
use Rattle.std.proofs.lemmas.Map.Keys.{IsDistinct-head, IsDistinct-tail, IsDistinct-cons, apart_from_distinct}
use Rattle.std.proofs.lemmas.Map.Views.{exact_unsigned_eq}
use borrow.Author.Tests.{ltb-true, ltb-false}
use Rattle.reach.specs.Reach.{has, IsFound}
use Rattle.reach.proofs.Found.{once_added}
use Rattle.text_order.specs.Sorted.{placed, sorted}
use Rattle.text_order.proofs.Same.{all_sorted, all_placed}
use Rattle.cgu_copies.specs.Copies.{is_free}
use Rattle.cgu_partition.specs.Buckets.{AreRanks}
use Rattle.cgu_partition.proofs.Planned.{has_filter, filter_once, any_sorted}

-- ---- lists that rise
abbrev Rises : List ℕ → Type 0
Rises [] = Unit {0}
Rises (x ∷ xs) = AllByRecursion (λ y. x < y) xs × Rises xs

not_there : (q : ℕ) (xs : List ℕ) → AllByRecursion (λ y. q < y) xs → has nat_eq q xs ≡ false
not_there q [] h = refl
not_there q (x ∷ xs) h = let l : q < x = h.0 in let t : nat_eq q x ≡ false = grind (arith, nat_tests) in rw t (not_there q xs h.1)

all_less : (q x : ℕ) (xs : List ℕ) → q < x → AllByRecursion (λ y. x < y) xs → AllByRecursion (λ y. q < y) xs
all_less q x [] l h = tt
all_less q x (y ∷ xs) l h = ((let m : x < y = h.0 in omega arith), all_less q x xs l h.1)

itself : (x : ℕ) (xs : List ℕ) → has nat_eq x (x ∷ xs) ≡ true
itself x xs = ap (λ b. b || has nat_eq x xs) (nat_eq_equiv.refl x)

behind : (q x : ℕ) (xs : List ℕ) → q < x → Rises (x ∷ xs) → has nat_eq q (x ∷ xs) ≡ false
behind q x xs l r = not_there q (x ∷ xs) (l, all_less q x xs l r.0)

-- lists that rise and have the same members are one
same_members : (xs ys : List ℕ) → Rises xs → Rises ys → ((q : ℕ) → has nat_eq q xs ≡ has nat_eq q ys) → xs ≡ ys
same_members [] [] a b h = refl
same_members [] (y ∷ ys) a b h = let e : false ≡ has nat_eq y (y ∷ ys) = h y in let t : has nat_eq y (y ∷ ys) ≡ true = itself y ys in cc
same_members (x ∷ xs) [] a b h = let e : has nat_eq x (x ∷ xs) ≡ false = h x in let t : has nat_eq x (x ∷ xs) ≡ true = itself x xs in cc
same_members (x ∷ xs) (y ∷ ys) a b h =
    let head : x ≡ y = ⊎_elim (λ lt. absurd (let e : has nat_eq x (x ∷ xs) ≡ true = itself x xs in let f : has nat_eq x (y ∷ ys) ≡ false = behind x y ys lt b in let s : has nat_eq x (x ∷ xs) ≡ has nat_eq x (y ∷ ys) = h x in cc)) (λ ge. ⊎_elim (λ lt. absurd (let e : has nat_eq y (y ∷ ys) ≡ true = itself y ys in let f : has nat_eq y (x ∷ xs) ≡ false = behind y x xs lt a in let s : has nat_eq y (x ∷ xs) ≡ has nat_eq y (y ∷ ys) = h y in cc)) (λ le. omega arith) (cases_lt y x)) (cases_lt x y) in
    let rest : xs ≡ ys = same_members xs ys a.1 b.1 (λ q. tail q (nat_eq q x) refl head) in
    cc
  where
    or_cancel : (b c d e : Bool) → b ≡ false → (b || c) ≡ (b || d) → c ≡ d
    or_cancel false c d e p q = q
    or_cancel true c d e p q = cc

    tail : (q : ℕ) (b : Bool) → nat_eq q x ≡ b → x ≡ y → has nat_eq q xs ≡ has nat_eq q ys
    tail q true is same =
        let at : q ≡ x = exact_unsigned_eq q x is in
        let l : has nat_eq q xs ≡ false = ap (λ n. has nat_eq n xs) at ∙ not_there x xs a.0 in
        let r : has nat_eq q ys ≡ false = ap (λ n. has nat_eq n ys) (at ∙ same) ∙ not_there y ys b.0 in
        cc
    tail q false is same =
        let e : (nat_eq q x || has nat_eq q xs) ≡ (nat_eq q x || has nat_eq q ys) = h q ∙ ap (λ n. nat_eq q n || has nat_eq q ys) (sym same) in
        or_cancel (nat_eq q x) (has nat_eq q xs) (has nat_eq q ys) true is e

either : {A : Type 0} (P : A → Type 0) (b : Bool) (x y : A) → (b ≡ true → P x) → (b ≡ false → P y) → P (cond b x y)
either P true x y p q = p refl
either P false x y p q = q refl

rises_placed : (x : ℕ) (ys : List ℕ) → has nat_eq x ys ≡ false → Rises ys → Rises (placed x ys)
rises_placed x [] n r = (tt, tt)
rises_placed x (y ∷ ys) n r =
    either Rises (nat_lt y x) (y ∷ placed x ys) (x ∷ y ∷ ys)
    (λ t. (all_placed (λ z. y < z) x ys (ltb-true y x t) r.0, rises_placed x ys (other (nat_eq x y) (has nat_eq x ys) n).1 r.1))
    (λ t. let l : x ≤ y = ltb-false y x t in let ne : nat_eq x y ≡ false = (other (nat_eq x y) (has nat_eq x ys) n).0 in let m : x < y = grind (arith, nat_tests) in ((m, all_less x y ys m r.0), r))
  where
    other : (a b : Bool) → (a || b) ≡ false → (a ≡ false) × (b ≡ false)
    other true b h = cc
    other false b h = (refl, h)

none_from : (x : ℕ) (ys : List ℕ) → AllByRecursion (λ y. nat_eq x y ≡ false) ys → has nat_eq x ys ≡ false
none_from x [] h = refl
none_from x (y ∷ ys) h = rw h.0 (none_from x ys h.1)

rises_sorted : (xs : List ℕ) → IsDistinct nat_eq xs → Rises (sorted xs)
unfolding sorted
rises_sorted [] h = tt
rises_sorted (x ∷ xs) h = rises_placed x (sorted xs) (any_sorted (nat_eq x) xs ∙ none_from x xs (IsDistinct-head nat_eq x xs h)) (rises_sorted xs (IsDistinct-tail nat_eq x xs h))

-- ---- numbers from a on
abbrev pub count_up : ℕ → ℕ → List ℕ
count_up a zero = []
count_up a (suc n) = a ∷ count_up (a + 1) n

count_from : (b a n : ℕ) → b < a → AllByRecursion (λ y. b < y) (count_up a n)
count_from b a zero l = tt
count_from b a (suc n) l = (l, count_from b (a + 1) n (omega arith))

count_rises : (a n : ℕ) → Rises (count_up a n)
count_rises a zero = tt
count_rises a (suc n) = (count_from a (a + 1) n (omega arith), count_rises (a + 1) n)

count_has : (q a n : ℕ) → a ≤ q → q < a + n → has nat_eq q (count_up a n) ≡ true
count_has q a zero l m = absurd (omega arith)
count_has q a (suc n) l m = by (nat_eq q a) refl (λ p r. count_has q (a + 1) n p r)
  where
    by : (b : Bool) → nat_eq q a ≡ b → (a + 1 ≤ q → q < a + 1 + n → has nat_eq q (count_up (a + 1) n) ≡ true) → (nat_eq q a || has nat_eq q (count_up (a + 1) n)) ≡ true
    by true is rest = rw is refl
    by false is rest = let more : a < q = grind (arith, nat_tests) in rw is (rest (omega arith) (omega arith))

count_not : (q a n : ℕ) → a + n ≤ q → has nat_eq q (count_up a n) ≡ false
count_not q a zero l = refl
count_not q a (suc n) l = let t : nat_eq q a ≡ false = grind (arith, nat_tests) in rw t (count_not q (a + 1) n (omega arith))

filter_rises : (p : ℕ → Bool) (xs : List ℕ) → Rises xs → Rises (filter p xs)
filter_rises p [] r = tt
filter_rises p (x ∷ xs) r = by (p x) (filter_rises p xs r.1)
  where
    kept : (ys : List ℕ) → AllByRecursion (λ y. x < y) ys → AllByRecursion (λ y. x < y) (filter p ys)
    kept [] g = tt
    kept (y ∷ ys) g = each (p y) (kept ys g.1)
      where
        each : (b : Bool) → AllByRecursion (λ z. x < z) (filter p ys) → AllByRecursion (λ z. x < z) (cond b (y ∷ filter p ys) (filter p ys))
        each true s = (g.0, s)
        each false s = s

    by : (b : Bool) → Rises (filter p xs) → Rises (cond b (x ∷ filter p xs) (filter p xs))
    by true s = (kept xs r.0, s)
    by false s = s

all_has : (P : ℕ → Type 0) (xs : List ℕ) (p : ℕ) → AllByRecursion P xs → has nat_eq p xs ≡ true → P p
all_has P [] p h e = cc
all_has P (x ∷ xs) p h e = by (nat_eq p x) refl e (all_has P xs p h.1)
  where
    by : (b : Bool) → nat_eq p x ≡ b → (b || has nat_eq p xs) ≡ true → (has nat_eq p xs ≡ true → P p) → P p
    by true is e rest = subst P (sym (exact_unsigned_eq p x is)) h.0
    by false is e rest = rest e

-- distinct numbers below n in order are those of 0 to n - 1 that are among them
sorted_below : (n : ℕ) (xs : List ℕ) → IsDistinct nat_eq xs → AllByRecursion (λ x. x < n) xs → sorted xs ≡ filter (λ i. has nat_eq i xs) (count_up 0 n)
sorted_below n xs once inside = same_members (sorted xs) (filter (λ i. has nat_eq i xs) (count_up 0 n)) (rises_sorted xs once) (filter_rises (λ i. has nat_eq i xs) (count_up 0 n) (count_rises 0 n)) (λ q. any_sorted (nat_eq q) xs ∙ sym (has_filter (λ i. has nat_eq i xs) q (count_up 0 n) ∙ by q (has nat_eq q xs) refl))
  where
    by : (q : ℕ) (b : Bool) → has nat_eq q xs ≡ b → (has nat_eq q xs && has nat_eq q (count_up 0 n)) ≡ has nat_eq q xs
    by q true is = let l : q < n = all_has (λ x. x < n) xs q inside is in rw is (count_has q 0 n (omega arith) (omega arith))
    by q false is = rw is refl

-- ---- a list by its places
at_places : (a : ℕ) (xs : List ℕ) (f : ℕ → ℕ) → ((i : ℕ) → i < length xs → f (a + i) ≡ get_or xs i 0) → map f (count_up a (length xs)) ≡ xs
at_places a [] f h = refl
at_places a (x ∷ xs) f h =
    let z : a + 0 ≡ a = omega arith in
    let first : f a ≡ x = ap f (sym z) ∙ h 0 (omega arith) in
    let rest : map f (count_up (a + 1) (length xs)) ≡ xs = at_places (a + 1) xs f (λ i l. let e : a + 1 + i ≡ a + suc i = omega arith in ap f e ∙ h (suc i) (omega arith)) in
    cc

by_places : (xs : List ℕ) → map (λ i. get_or xs i 0) (count_up 0 (length xs)) ≡ xs
by_places xs = at_places 0 xs (λ i. get_or xs i 0) (λ i l. let e : 0 + i ≡ i = omega arith in ap (λ n. get_or xs n 0) e)

filter_mapped : (p : ℕ → Bool) (f : ℕ → ℕ) (is : List ℕ) → filter p (map f is) ≡ map f (filter (λ i. p (f i)) is)
filter_mapped p f [] = refl
filter_mapped p f (i ∷ is) = by (p (f i)) (filter_mapped p f is)
  where
    by : (b : Bool) → filter p (map f is) ≡ map f (filter (λ j. p (f j)) is) → cond b (f i ∷ filter p (map f is)) (filter p (map f is)) ≡ map f (cond b (i ∷ filter (λ j. p (f j)) is) (filter (λ j. p (f j)) is))
    by true r = ap (λ ys. f i ∷ ys) r
    by false r = r

filter_on : (p q : ℕ → Bool) (xs : List ℕ) → AllByRecursion (λ x. p x ≡ q x) xs → filter p xs ≡ filter q xs
filter_on p q [] h = refl
filter_on p q (x ∷ xs) h = ap (λ b. cond b (x ∷ filter p xs) (filter p xs)) h.0 ∙ ap (λ ys. cond (q x) (x ∷ ys) ys) (filter_on p q xs h.1)

up_to : (P : ℕ → Type 0) (a n : ℕ) → ((i : ℕ) → a ≤ i → i < a + n → P i) → AllByRecursion P (count_up a n)
up_to P a zero h = tt
up_to P a (suc n) h = (h a (omega arith) (omega arith), up_to P (a + 1) n (λ i l m. h i (omega arith) (omega arith)))

-- what is put in order by ranks is the order, filtered
pub in_ranks : (order xs : List ℕ) (test : ℕ → Bool) → IsDistinct nat_eq xs → AllByRecursion (λ x. x < length order) xs → ((i : ℕ) → i < length order → has nat_eq i xs ≡ test (get_or order i 0)) → map (λ i. get_or order i 0) (sorted xs) ≡ filter test order
in_ranks order xs test once inside same =
    ap (map (λ i. get_or order i 0)) (sorted_below (length order) xs once inside ∙ filter_on (λ i. has nat_eq i xs) (λ i. test (get_or order i 0)) (count_up 0 (length order)) (up_to (λ i. has nat_eq i xs ≡ test (get_or order i 0)) 0 (length order) (λ i l m. same i (omega arith))))
    ∙ sym (filter_mapped test (λ i. get_or order i 0) (count_up 0 (length order))) ∙ ap (filter test) (by_places order)

-- ---- ranks
-- the ranks below i are there
pub record Ranking (order : List ℕ) (count i : ℕ) (ranks : List ℕ) : Type 0 where
  pub many : length ranks ≡ count
  pub each : (k : ℕ) → k < i → get_or ranks (get_or order k 0) 0 ≡ k

pub ranking_more : (order : List ℕ) (count i : ℕ) (ranks now : List ℕ) → IsDistinct nat_eq order → All (λ p. p < count) order → i < length order → Ranking order count i ranks → now ≡ set ranks (get_or order i 0) i → Ranking order count (i + 1) now
ranking_more order count i ranks now once inside room h put = rw put (record {
  many = length-set ranks (get_or order i 0) i ∙ h.many;
  each = λ k l. ⊎_elim (λ lt. old k lt) (λ ge. new k (omega arith)) (cases_lt k i);
})
  where
    new : (k : ℕ) → k ≡ i → get_or (set ranks (get_or order i 0) i) (get_or order k 0) 0 ≡ k
    new k e = let l : get_or order i 0 < count = inside i 0 room in rw e (get_or-set_same ranks (get_or order i 0) i 0 (omega (arith, h.many)))

    old : (k : ℕ) → k < i → get_or (set ranks (get_or order i 0) i) (get_or order k 0) 0 ≡ k
    old k lt =
        let f : nat_eq (get_or order k 0) (get_or order i 0) ≡ false = apart_from_distinct nat_eq order k i 0 once lt room in
        let ne : get_or order k 0 ≢ get_or order i 0 = λ e. (let t : nat_eq (get_or order k 0) (get_or order i 0) ≡ true = subst (λ (n : ℕ). nat_eq (get_or order k 0) n ≡ true) e (nat_eq_equiv.refl (get_or order k 0)) in cc) in
        get_or-set_other ranks (get_or order i 0) (get_or order k 0) i 0 ne ∙ h.each k lt

-- the rank of an item in the order
module _ (order ranks : List ℕ) (count : ℕ) (are : AreRanks order count ranks) where
  record RankOf (p : ℕ) : Type 0 where
    i : ℕ
    inside : i < length order
    at : get_or order i 0 ≡ p
    is : get_or ranks p 0 ≡ i

  find_rank : (xs : List ℕ) (p : ℕ) → has nat_eq p xs ≡ true → (i : ℕ) × (i < length xs) × (get_or xs i 0 ≡ p)
  find_rank [] p h = cc
  find_rank (x ∷ xs) p h = by (nat_eq p x) refl h (find_rank xs p)
    where
      by : (b : Bool) → nat_eq p x ≡ b → (b || has nat_eq p xs) ≡ true → (has nat_eq p xs ≡ true → (i : ℕ) × (i < length xs) × (get_or xs i 0 ≡ p)) → (i : ℕ) × (i < length (x ∷ xs)) × (get_or (x ∷ xs) i 0 ≡ p)
      by true is h rest = (0, omega arith, sym (exact_unsigned_eq p x is))
      by false is h rest = let r = rest h in (suc r.0, (let l : r.0 < length xs = r.1 in omega arith), r.2)

  rank_of : (p : ℕ) → has nat_eq p order ≡ true → RankOf p
  rank_of p h = let f = find_rank order p h in record { i = f.0; inside = f.1; at = f.2; is = sym (ap (λ n. get_or ranks n 0) f.2) ∙ are.each f.0 f.1 }

  ranks_inside : (ps : List ℕ) → AllByRecursion (λ p. has nat_eq p order ≡ true) ps → AllByRecursion (λ r. r < length order) (map (λ p. get_or ranks p 0) ps)
  ranks_inside [] h = tt
  ranks_inside (p ∷ ps) h = (let r = rank_of p h.0 in subst (λ n. n < length order) (sym r.is) r.inside, ranks_inside ps h.1)

  one_rank : (p q : ℕ) → has nat_eq p order ≡ true → has nat_eq q order ≡ true → get_or ranks p 0 ≡ get_or ranks q 0 → p ≡ q
  one_rank p q h k e = let r = rank_of p h in let s = rank_of q k in sym r.at ∙ ap (λ n. get_or order n 0) (sym r.is ∙ e ∙ s.is) ∙ s.at

  rank_apart : (p q : ℕ) (b : Bool) → has nat_eq p order ≡ true → has nat_eq q order ≡ true → nat_eq p q ≡ false → nat_eq (get_or ranks p 0) (get_or ranks q 0) ≡ b → nat_eq (get_or ranks p 0) (get_or ranks q 0) ≡ false
  rank_apart p q false h k n e = e
  rank_apart p q true h k n e = let same : p ≡ q = one_rank p q h k (exact_unsigned_eq _ _ e) in let t : nat_eq p q ≡ true = subst (λ (m : ℕ). nat_eq p m ≡ true) same (nat_eq_equiv.refl p) in cc

  ranks_once : (ps : List ℕ) → AllByRecursion (λ p. has nat_eq p order ≡ true) ps → IsDistinct nat_eq ps → IsDistinct nat_eq (map (λ p. get_or ranks p 0) ps)
  ranks_once [] h d = d
  ranks_once (p ∷ ps) h d = IsDistinct-cons nat_eq (get_or ranks p 0) (map (λ q. get_or ranks q 0) ps) (apart ps h.1 (IsDistinct-head nat_eq p ps d)) (ranks_once ps h.1 (IsDistinct-tail nat_eq p ps d))
    where
      apart : (qs : List ℕ) → AllByRecursion (λ q. has nat_eq q order ≡ true) qs → AllByRecursion (λ q. nat_eq p q ≡ false) qs → AllByRecursion (λ r. nat_eq (get_or ranks p 0) r ≡ false) (map (λ q. get_or ranks q 0) qs)
      apart [] a b = tt
      apart (q ∷ qs) a b = (rank_apart p q (nat_eq (get_or ranks p 0) (get_or ranks q 0)) h.0 a.0 b.0 refl, apart qs a.1 b.1)

  -- the items of a list are found by their ranks
  has_rank : (i : ℕ) (ps : List ℕ) → i < length order → AllByRecursion (λ p. has nat_eq p order ≡ true) ps → has nat_eq i (map (λ p. get_or ranks p 0) ps) ≡ has nat_eq (get_or order i 0) ps
  has_rank i [] l h = refl
  has_rank i (p ∷ ps) l h = ap (λ b. b || has nat_eq i (map (λ q. get_or ranks q 0) ps)) (test (nat_eq i (get_or ranks p 0)) refl (nat_eq (get_or order i 0) p) refl) ∙ ap (λ b. nat_eq (get_or order i 0) p || b) (has_rank i ps l h.1)
    where
      test : (a : Bool) → nat_eq i (get_or ranks p 0) ≡ a → (b : Bool) → nat_eq (get_or order i 0) p ≡ b → a ≡ b
      test true e true f = refl
      test false e false f = refl
      test true e false f = absurd (let r = rank_of p h.0 in let at : get_or order i 0 ≡ p = ap (λ n. get_or order n 0) (exact_unsigned_eq i (get_or ranks p 0) e ∙ r.is) ∙ r.at in let t : nat_eq (get_or order i 0) p ≡ true = subst (λ (m : ℕ). nat_eq (get_or order i 0) m ≡ true) at (nat_eq_equiv.refl (get_or order i 0)) in cc)
      test false e true f = absurd (let at : i ≡ get_or ranks p 0 = sym (are.each i l) ∙ ap (λ n. get_or ranks n 0) (exact_unsigned_eq (get_or order i 0) p f) in let t : nat_eq i (get_or ranks p 0) ≡ true = subst (λ (m : ℕ). nat_eq i m ≡ true) at (nat_eq_equiv.refl i) in cc)

all_filter : (P : ℕ → Type 0) (t : ℕ → Bool) (xs : List ℕ) → AllByRecursion P xs → AllByRecursion P (filter t xs)
all_filter P t [] h = tt
all_filter P t (x ∷ xs) h = by (t x) (all_filter P t xs h.1)
  where
    by : (b : Bool) → AllByRecursion P (filter t xs) → AllByRecursion P (cond b (x ∷ filter t xs) (filter t xs))
    by true r = (h.0, r)
    by false r = r

each_has : (n : ℕ) (order ps : List ℕ) → ((p : ℕ) → p < n → has nat_eq p order ≡ true) → AllByRecursion (λ p. p < n) ps → AllByRecursion (λ p. has nat_eq p order ≡ true) ps
each_has n order [] all h = tt
each_has n order (p ∷ ps) all h = (all p h.0, each_has n order ps all h.1)

module _ (order ranks : List ℕ) (homeless : List Bool) (found : List ℕ) (all : (p : ℕ) → p < length homeless → has nat_eq p order ≡ true) (are : AreRanks order (length homeless) ranks) (inside : All (λ p. p < length homeless) found) (once : IsDistinct nat_eq found) where
  listed : AllByRecursion (λ p. has nat_eq p order ≡ true) (filter (is_free homeless) found)
  listed = each_has (length homeless) order (filter (is_free homeless) found) all (all_filter (λ p. p < length homeless) (is_free homeless) found (recursion_from_All (λ p. p < length homeless) found inside))

  pub picked_inside : (picked : List ℕ) → picked ≡ sorted (map (λ p. get_or ranks p 0) (filter (is_free homeless) found)) → All (λ r. r < length order) picked
  picked_inside picked e = All-from_recursion (λ r. r < length order) picked (subst (AllByRecursion (λ r. r < length order)) (sym e) (all_sorted (λ r. r < length order) (map (λ p. get_or ranks p 0) (filter (is_free homeless) found)) (ranks_inside order ranks (length homeless) are (filter (is_free homeless) found) listed)))

  pub copies_ordered : (picked copied : List ℕ) → picked ≡ sorted (map (λ p. get_or ranks p 0) (filter (is_free homeless) found)) → copied ≡ map (λ i. get_or order i 0) picked → copied ≡ filter (λ p. is_free homeless p && has nat_eq p found) order
  copies_ordered picked copied e f =
      f ∙ ap (map (λ i. get_or order i 0)) e
      ∙ in_ranks order (map (λ p. get_or ranks p 0) (filter (is_free homeless) found)) (λ p. is_free homeless p && has nat_eq p found)
      (ranks_once order ranks (length homeless) are (filter (is_free homeless) found) listed (filter_once (is_free homeless) found once))
      (ranks_inside order ranks (length homeless) are (filter (is_free homeless) found) listed)
      (λ i l. has_rank order ranks (length homeless) are i (filter (is_free homeless) found) l listed ∙ has_filter (is_free homeless) (get_or order i 0) found)

-- what is found from roots without repeats has none
pub found_apart : (calls : ℕ → List ℕ) (roots us vs : List ℕ) → vs ≡ us → IsFound nat_eq calls roots us → IsDistinct nat_eq roots → IsDistinct nat_eq vs
found_apart calls roots us vs e f d = subst (IsDistinct nat_eq) (sym (e ∙ f.order)) (once_added nat_eq nat_eq_equiv exact_unsigned_eq roots (flat_map calls us) d)
