-- Counts over lists that grow, lose a member or have one replaced.
use Rattle.std.proofs.Common.{◌≡◌, ℕ, zero, suc, ◌+◌, ◌≤◌, Bool, true, false, eqb, cond, List, [], ◌∷◌, ◌++◌, length, set, sym, refl, ap, arith}
use Rattle.std.proofs.lemmas.Bool.{eqb-true, eq-eqb}
use Rattle.std.proofs.lemmas.List.Sums.{sum_by-cons}
use Rattle.std.proofs.lemmas.List.Sorted.{sum_by-IsPermutation}
use Rattle.std.proofs.lemmas.List.Recursion.{is_count_by}
use Rattle.std.specs.List.{sum_by, count_by}
use Rattle.std.specs.List.Sorted.{IsPermutation}
use mathlib.Core.Option.{some, some-injective, some-ne-none}
use lib.ListN.{get_elem?}
use Rattle.counting.specs.Count.{one_if, times, without, total}

pub one_if-same : (x : ℕ) → one_if (eqb x x) ≡ 1
one_if-same x = ap one_if (eq-eqb x x refl)

one_if-le : (b : Bool) → one_if b ≤ 1
one_if-le true = omega arith
one_if-le false = omega arith

pub times-append : (x : ℕ) (l m : List ℕ) → times x (l ++ m) ≡ times x l + times x m
times-append x [] m = omega arith
times-append x (y ∷ l) m = let r = times-append x l m in omega arith

pub times-snoc : (x y : ℕ) (l : List ℕ) → times x (l ++ y ∷ []) ≡ times x l + one_if (eqb x y)
times-snoc x y [] = omega arith
times-snoc x y (z ∷ l) = let r = times-snoc x y l in omega arith

without_step : (x y z : ℕ) (l m : List ℕ) (b : Bool) → eqb y z ≡ b → (1 ≤ times y l → times x m + one_if (eqb x y) ≡ times x l) → 1 ≤ one_if b + times y l
    → times x (cond b l (z ∷ m)) + one_if (eqb x y) ≡ one_if (eqb x z) + times x l
without_step x y z l m true is r h = let e : one_if (eqb x y) ≡ one_if (eqb x z) = ap (λ (k : ℕ). one_if (eqb x k)) (eqb-true y z is) in omega arith
without_step x y z l m false is r h = let e = r (omega arith) in omega arith

-- one y less, where there was one
pub times-without : (x y : ℕ) (l : List ℕ) → 1 ≤ times y l → times x (without y l) + one_if (eqb x y) ≡ times x l
times-without x y [] h = absurd (omega arith)
times-without x y (z ∷ l) h = without_step x y z l (without y l) (eqb y z) refl (times-without x y l) h

pub total-append : {A : Type 0} (f : A → ℕ) (l m : List A) → total f (l ++ m) ≡ total f l + total f m
total-append f [] m = omega arith
total-append f (x ∷ l) m = let r = total-append f l m in omega arith

pub total-snoc : {A : Type 0} (f : A → ℕ) (l : List A) (w : A) → total f (l ++ w ∷ []) ≡ total f l + f w
total-snoc f [] w = omega arith
total-snoc f (x ∷ xs) w = let r = total-snoc f xs w in omega arith

-- the member in place i is replaced
pub total-set : {A : Type 0} (f : A → ℕ) (l : List A) (i : ℕ) (v w : A) → get_elem? l i ≡ some v → total f (set l i w) + f v ≡ total f l + f w
total-set f [] i v w e = absurd (some-ne-none v (sym e))
total-set f (x ∷ xs) zero v w e = let is : f x ≡ f v = ap f (some-injective x v e) in omega arith
total-set f (x ∷ xs) (suc i) v w e = let r = total-set f xs i v w e in omega arith

-- a lighter weight gives a lesser total
pub total-mono : {A : Type 0} (f g : A → ℕ) → ((v : A) → f v ≤ g v) → (l : List A) → total f l ≤ total g l
total-mono f g le [] = omega arith
total-mono f g le (x ∷ xs) = let r = total-mono f g le xs in let h = le x in omega arith

-- each member weighs at most what all weigh
pub total-at : {A : Type 0} (f : A → ℕ) (l : List A) (i : ℕ) (v : A) → get_elem? l i ≡ some v → f v ≤ total f l
total-at f [] i v e = absurd (some-ne-none v (sym e))
total-at f (x ∷ xs) zero v e = let is : f x ≡ f v = ap f (some-injective x v e) in omega arith
total-at f (x ∷ xs) (suc i) v e = let r = total-at f xs i v e in omega arith

-- a number stands in a list at most as often as the list is long
pub times-length : (x : ℕ) (l : List ℕ) → times x l ≤ length l
times-length x [] = omega arith
times-length x (y ∷ l) = let r = times-length x l in let b = one_if-le (eqb x y) in omega arith

length_step : (y z : ℕ) (l m : List ℕ) (b : Bool) → (1 ≤ times y l → length m + 1 ≡ length l) → 1 ≤ one_if b + times y l → length (cond b l (z ∷ m)) + 1 ≡ suc (length l)
length_step y z l m true r h = omega arith
length_step y z l m false r h = let e = r (omega arith) in omega arith

-- one less, where there was one
pub length-without : (y : ℕ) (l : List ℕ) → 1 ≤ times y l → length (without y l) + 1 ≡ length l
length-without y [] h = absurd (omega arith)
length-without y (z ∷ l) h = length_step y z l (without y l) (eqb y z) (length-without y l) h

-- a list in which nothing stands more often than in another is no longer
pub length-times : (l m : List ℕ) → ((x : ℕ) → times x l ≤ times x m) → length l ≤ length m
length-times [] m le = omega arith
length-times (x ∷ l) m le =
    let same = one_if-same x in
    let here = le x in
    let some_x : 1 ≤ times x m = omega arith in
    let shorter = length-without x m some_x in
    let r = length-times l (without x m) (λ y. let w = times-without y x m some_x in let k = le y in omega arith) in
    omega arith

times-sum_by : (x : ℕ) (l : List ℕ) → times x l ≡ sum_by (λ y. one_if (eqb x y)) l
times-sum_by x [] = refl
times-sum_by x (y ∷ l) = let r = times-sum_by x l in omega (arith, sum_by-cons (λ z. one_if (eqb x z)) y l)

-- a list with the same elements has each number as often
pub times-IsPermutation : (x : ℕ) (l m : List ℕ) → IsPermutation l m → times x m ≡ times x l
times-IsPermutation x l m same = let a = times-sum_by x l in let b = times-sum_by x m in let s = sum_by-IsPermutation (λ y. one_if (eqb x y)) l m same in omega arith

one_or : (b : Bool) (n : ℕ) → one_if b + n ≡ cond b (1 + n) n
one_or true n = refl
one_or false n = omega arith

pub times-count_by : (x : ℕ) (l : List ℕ) → times x l ≡ count_by (λ y. eqb x y) l
times-count_by x l = is_count_by (times x) (λ y. eqb x y) refl (λ y ys. one_or (eqb x y) (times x ys)) l
