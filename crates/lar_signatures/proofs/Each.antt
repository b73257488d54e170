-- Lists of which each member stands for one of another list.
use Rattle.std.proofs.Common.{◌≡◌, ℕ, zero, suc, ◌+◌, ◌<◌, ◌≤◌, List, [], ◌∷◌, ◌++◌, length, map, take, get_or, Some, refl, sym, ap, ◌∙◌, subst, arith}
use Rattle.std.specs.Prelude.{slice_get}
use Rattle.std.proofs.lemmas.List.{map_more, take_all, length-map, length-take}
use Rattle.lar_signatures.specs.EachStands.{EachStands, IfStands}

pub each_weaker : {A B : Type 0} (P Q : ℕ → A → B → Type 0) → ((n : ℕ) (x : A) (y : B) → P n x y → Q n x y) → (k : ℕ) (xs : List A) (ys : List B) → EachStands P k xs ys → EachStands Q k xs ys
each_weaker P Q f k [] [] h = tt
each_weaker P Q f k (x ∷ xs) (y ∷ ys) h = (f k x y h.0, each_weaker P Q f (suc k) xs ys h.1)
each_weaker P Q f k [] (y ∷ ys) h = absurd h
each_weaker P Q f k (x ∷ xs) [] h = absurd h

each_more : {A B : Type 0} (P : ℕ → A → B → Type 0) (k n : ℕ) (xs : List A) (ys : List B) (x : A) (y : B) → n ≡ k + length ys → EachStands P k xs ys → P n x y → EachStands P k (xs ++ x ∷ []) (ys ++ y ∷ [])
each_more P k n [] [] x y e h p = let same : n ≡ k = omega arith in (subst (λ (m : ℕ). P m x y) same p, tt)
each_more P k n (a ∷ xs) (b ∷ ys) x y e h p = (h.0, each_more P (suc k) n xs ys x y (omega arith) h.1 p)
each_more P k n [] (b ∷ ys) x y e h p = absurd h
each_more P k n (a ∷ xs) [] x y e h p = absurd h

each_from : {A B : Type 0} (P : ℕ → A → B → Type 0) (k n m : ℕ) (xs : List A) (ys : List B) → m ≡ k + n → EachStands P k xs ys → IfStands (P m) (slice_get xs n) (slice_get ys n)
each_from P k n m [] [] e h = tt
each_from P k zero m (x ∷ xs) (y ∷ ys) e h = let same : k ≡ m = omega arith in subst (λ (j : ℕ). P j x y) same h.0
each_from P k (suc n) m (x ∷ xs) (y ∷ ys) e h = each_from P (suc k) n m xs ys (omega arith) h.1
each_from P k n m [] (y ∷ ys) e h = absurd h
each_from P k n m (x ∷ xs) [] e h = absurd h

-- the members of one number
pub each_at : {A B : Type 0} (P : ℕ → A → B → Type 0) (n : ℕ) (xs : List A) (ys : List B) → EachStands P 0 xs ys → IfStands (P n) (slice_get xs n) (slice_get ys n)
each_at P n xs ys h = each_from P 0 n n xs ys (omega arith) h

-- one item further
pub each_further : {A B I : Type 0} (P : ℕ → A → B → Type 0) (f : I → B) (items : List I) (i : ℕ) (x : I) (out after : List A) (s : A) → x ≡ get_or items i x → i < length items
    → EachStands P 0 out (map f (take i items)) → after ≡ out ++ s ∷ [] → P i s (f x) → EachStands P 0 after (map f (take (i + 1) items))
each_further {I = I} P f items i x out after s at below h push p =
    let count : i ≡ 0 + length (map f (take i items)) = (let a = length-map (take i items) f in let b = length-take i items in omega (arith, a, b)) in
    let more : map f (take (i + 1) items) ≡ map f (take i items) ++ f x ∷ [] = map_more f items i x below ∙ ap (λ (y : I). map f (take i items) ++ f y ∷ []) (sym at) in
    rw (push, more) (each_more P 0 i out (map f (take i items)) s (f x) count h p)

pub each_end : {A B I : Type 0} (P : ℕ → A → B → Type 0) (f : I → B) (items : List I) (i : ℕ) (out : List A) (ys : List B) → length items ≤ i → map f items ≡ ys → EachStands P 0 out (map f (take i items)) → EachStands P 0 out ys
each_end {B = B} P f items i out ys past e h = subst (λ (zs : List B). EachStands P 0 out zs) (ap (map f) (take_all i items past) ∙ e) h

pub each_begun : {A B I : Type 0} (P : ℕ → A → B → Type 0) (f : I → B) (items : List I) (out : List A) → out ≡ [] → EachStands P 0 out (map f (take 0 items))
each_begun P f items out e = rw e tt

-- one item further, where what stood before still does
pub each_step : {A B I : Type 0} (P Q : ℕ → A → B → Type 0) (f : I → B) (items : List I) (i : ℕ) (x : I) (out after : List A) (s : A) → ((n : ℕ) (a : A) (b : B) → P n a b → Q n a b) → x ≡ get_or items i x → i < length items
    → EachStands P 0 out (map f (take i items)) → after ≡ out ++ s ∷ [] → Q i s (f x) → EachStands Q 0 after (map f (take (i + 1) items))
each_step P Q f items i x out after s weaker at below h push q = each_further Q f items i x out after s at below (each_weaker P Q weaker 0 out (map f (take i items)) h) push q

pub each_length : {A B : Type 0} (P : ℕ → A → B → Type 0) (k : ℕ) (xs : List A) (ys : List B) → EachStands P k xs ys → length xs ≡ length ys
each_length P k [] [] h = refl
each_length P k (x ∷ xs) (y ∷ ys) h = ap suc (each_length P (suc k) xs ys h.1)
each_length P k [] (y ∷ ys) h = absurd h
each_length P k (x ∷ xs) [] h = absurd h

index_from : {A B : Type 0} (P : ℕ → A → B → Type 0) (k i n : ℕ) (xs : List A) (ys : List B) (x : A) (y : B) → n ≡ k + i → EachStands P k xs ys → x ≡ get_or xs i x → i < length xs → slice_get ys i ≡ Some y → P n x y
index_from P k i n [] ys x y e h at below g = absurd (omega arith)
index_from P k i n (a ∷ xs) [] x y e h at below g = absurd h
index_from {A = A} {B = B} P k zero n (a ∷ xs) (b ∷ ys) x y e h at below g =
    let same : k ≡ n = omega arith in
    let b_is : b ≡ y = cc in
    subst (λ (m : ℕ). P m x y) same (subst (λ (z : B). P k x z) b_is (subst (λ (z : A). P k z b) (sym at) h.0))
index_from P k (suc i) n (a ∷ xs) (b ∷ ys) x y e h at below g = index_from P (suc k) i n xs ys x y (omega arith) h.1 at (omega arith) g

-- the member at an index
pub each_index : {A B : Type 0} (P : ℕ → A → B → Type 0) (i : ℕ) (xs : List A) (ys : List B) (x : A) (y : B) → EachStands P 0 xs ys → x ≡ get_or xs i x → i < length xs → slice_get ys i ≡ Some y → P i x y
each_index P i xs ys x y h at below g = index_from P 0 i i xs ys x y (omega arith) h at below g
