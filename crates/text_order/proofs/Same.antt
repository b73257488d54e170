use Rattle.std.proofs.Common.{◌≡◌, ℕ, suc, ◌+◌, ◌<◌, ◌≤◌, List, [], ◌∷◌, refl, sym, ap, ◌∙◌, arith, Bool, true, false, cond, ⊎_elim}
use Rattle.std.specs.Prelude.{nat_lt, nat_eq, sum_by}
use Rattle.std.specs.List.{AllByRecursion}
use Rattle.std.specs.List.Sorted.{IsPermutation, IsSorted, IsNonDecreasing}
use Rattle.std.specs.Ordering.{nat_cmp}
use Rattle.std.proofs.lemmas.List.Sorted.{IsNonDecreasingBy-from_sort, sum_by-IsPermutation}
use Rattle.std.proofs.lemmas.List.Elements.{recursion_from_All}
use Rattle.std.proofs.lemmas.List.Sums.{sum_by-cons}
use Rattle.std.proofs.lemmas.Bool.{cases_lt}
use Rattle.std.proofs.lemmas.Bool.Decides.{nat_tests}
use borrow.Author.Tests.{ltb-true, ltb-false}
use Rattle.text_order.specs.Sorted.{placed, sorted}

-- how often q stands in a list
abbrev pub one : ℕ → ℕ → ℕ
one q x = cond (nat_eq q x) 1 0

abbrev pub count : ℕ → List ℕ → ℕ
count q [] = 0
count q (x ∷ xs) = one q x + count q xs

count_is : (q : ℕ) (xs : List ℕ) → sum_by (one q) xs ≡ count q xs
count_is q [] = refl
count_is q (x ∷ xs) = sum_by-cons (one q) x xs ∙ ap (λ n. one q x + n) (count_is q xs)

abbrev Rises : List ℕ → Type 0
Rises [] = Unit {0}
Rises (x ∷ xs) = AllByRecursion (λ y. x ≤ y) xs × Rises xs

one_same : (x : ℕ) → one x x ≡ 1
one_same x = grind (arith, nat_tests)

one_less : (q x : ℕ) → q < x → one q x ≡ 0
one_less q x h = grind (arith, nat_tests)

none : (q x : ℕ) (xs : List ℕ) → q < x → AllByRecursion (λ y. x ≤ y) xs → count q xs ≡ 0
none q x [] h a = refl
none q x (y ∷ ys) h a = let l : q < y = (let b : x ≤ y = a.0 in omega arith) in let p : one q y ≡ 0 = one_less q y l in let r : count q ys ≡ 0 = none q x ys h a.1 in omega arith

same_counts : (xs ys : List ℕ) → Rises xs → Rises ys → ((q : ℕ) → count q xs ≡ count q ys) → xs ≡ ys
same_counts [] [] a b h = refl
same_counts [] (y ∷ ys) a b h = let e : 0 ≡ one y y + count y ys = h y in let o : one y y ≡ 1 = one_same y in absurd (omega arith)
same_counts (x ∷ xs) [] a b h = let e : one x x + count x xs ≡ 0 = h x in let o : one x x ≡ 1 = one_same x in absurd (omega arith)
same_counts (x ∷ xs) (y ∷ ys) a b h =
    let o : one x x ≡ 1 = one_same x in
    let p : one y y ≡ 1 = one_same y in
    let head : x ≡ y = ⊎_elim (λ lt. absurd (let z : one x y ≡ 0 = one_less x y lt in let c : count x ys ≡ 0 = none x y ys lt b.0 in let e : one x x + count x xs ≡ one x y + count x ys = h x in omega arith)) (λ ge. ⊎_elim (λ lt. absurd (let z : one y x ≡ 0 = one_less y x lt in let c : count y xs ≡ 0 = none y x xs lt a.0 in let e : one y x + count y xs ≡ one y y + count y ys = h y in omega arith)) (λ le. omega arith) (cases_lt y x)) (cases_lt x y) in
    let tail : xs ≡ ys = same_counts xs ys a.1 b.1 (λ q. let e : one q x + count q xs ≡ one q y + count q ys = h q in let f : one q x ≡ one q y = ap (λ z. one q z) head in omega arith) in
    cc

either : {A : Type 0} (P : A → Type 0) (b : Bool) (x y : A) → (b ≡ true → P x) → (b ≡ false → P y) → P (cond b x y)
either P true x y p q = p refl
either P false x y p q = q refl

count_placed : (q x : ℕ) (ys : List ℕ) → count q (placed x ys) ≡ one q x + count q ys
count_placed q x [] = refl
count_placed q x (y ∷ ys) = let r : count q (placed x ys) ≡ one q x + count q ys = count_placed q x ys in either (λ zs. count q zs ≡ one q x + (one q y + count q ys)) (nat_lt y x) (y ∷ placed x ys) (x ∷ y ∷ ys) (λ t. omega arith) (λ t. refl)

pub all_placed : (P : ℕ → Type 0) (x : ℕ) (ys : List ℕ) → P x → AllByRecursion P ys → AllByRecursion P (placed x ys)
all_placed P x [] p a = (p, tt)
all_placed P x (y ∷ ys) p a = either (AllByRecursion P) (nat_lt y x) (y ∷ placed x ys) (x ∷ y ∷ ys) (λ t. (a.0, all_placed P x ys p a.1)) (λ t. (p, a))

weaker : (x y : ℕ) (ys : List ℕ) → x ≤ y → AllByRecursion (λ z. y ≤ z) ys → AllByRecursion (λ z. x ≤ z) ys
weaker x y [] h a = tt
weaker x y (z ∷ zs) h a = ((let b : y ≤ z = a.0 in omega arith), weaker x y zs h a.1)

rises_placed : (x : ℕ) (ys : List ℕ) → Rises ys → Rises (placed x ys)
rises_placed x [] r = (tt, tt)
rises_placed x (y ∷ ys) r = either Rises (nat_lt y x) (y ∷ placed x ys) (x ∷ y ∷ ys)
    (λ t. (all_placed (λ z. y ≤ z) x ys (let l : y < x = ltb-true y x t in omega arith) r.0, rises_placed x ys r.1))
    (λ t. let l : x ≤ y = ltb-false y x t in ((l, weaker x y ys l r.0), r))

pub all_sorted : (P : ℕ → Type 0) (xs : List ℕ) → AllByRecursion P xs → AllByRecursion P (sorted xs)
unfolding sorted
all_sorted P [] a = tt
all_sorted P (x ∷ xs) a = all_placed P x (sorted xs) a.0 (all_sorted P xs a.1)

rises_sorted : (xs : List ℕ) → Rises (sorted xs)
unfolding sorted
rises_sorted [] = tt
rises_sorted (x ∷ xs) = rises_placed x (sorted xs) (rises_sorted xs)

-- putting numbers in order keeps how often each of them stands there
pub count_sorted : (q : ℕ) (xs : List ℕ) → count q (sorted xs) ≡ count q xs
unfolding sorted
count_sorted q [] = refl
count_sorted q (x ∷ xs) = count_placed q x (sorted xs) ∙ ap (λ n. one q x + n) (count_sorted q xs)

rises_from : (xs : List ℕ) → IsNonDecreasing xs → Rises xs
rises_from [] h = tt
rises_from (x ∷ xs) h = (recursion_from_All (λ y. x ≤ y) xs (λ k d l. h 0 (suc k) d (omega arith) (omega arith)), rises_from xs (λ i j d l m. h (suc i) (suc j) d (omega arith) (omega arith)))

-- what a sort gives is the one list in order with the same elements
pub sorted_is : (xs ys : List ℕ) → IsPermutation xs ys → IsSorted nat_cmp ys → ys ≡ sorted xs
sorted_is xs ys p s = same_counts ys (sorted xs) (rises_from ys (IsNonDecreasingBy-from_sort (λ x. x) ys s)) (rises_sorted xs) (λ q. sym (count_is q ys) ∙ sum_by-IsPermutation (one q) xs ys p ∙ count_is q xs ∙ sym (count_sorted q xs))
