-- The number of a list among lists.
use Rattle.std.proofs.Common.{◌≡◌, ◌≢◌, ℕ, zero, suc, ◌+◌, ◌<◌, List, [], ◌∷◌, ◌++◌, length, Option, Some, None, Bool, true, false, cond, refl, ap, subst, arith, add-zero}
use Rattle.std.specs.Prelude.{if◌then◌else◌}
use Rattle.lar_rules.specs.Declared.{same_modules}
use Rattle.lar_names.specs.Scopes.{list_at, number_from, number_of, AreScopes}
use Rattle.lar_names.proofs.Sameness.{same_means, modules_self}

abbrev pub or_else : {A : Type 0} → Option A → Option A → Option A
or_else None o = o
or_else (Some p) o = Some p

pub or_none : {A : Type 0} (o : Option A) → or_else o None ≡ o
or_none None = refl
or_none (Some p) = refl

push_by : (n : ℕ) (m l x : List (List ℕ)) (ls : List (List (List ℕ))) (b : Bool) → number_from (n + 1) m (ls ++ l ∷ []) ≡ or_else (number_from (n + 1) m ls) (if same_modules l m then Some (n + 1 + length ls) else None) → cond b (Some n) (number_from (n + 1) m (ls ++ l ∷ [])) ≡ or_else (cond b (Some n) (number_from (n + 1) m ls)) (if same_modules l m then Some (n + length (x ∷ ls)) else None)
push_by n m l x ls true rest = refl
push_by n m l x ls false rest = let e : n + 1 + length ls ≡ n + suc (length ls) = omega arith in subst (λ (k : ℕ). number_from (n + 1) m (ls ++ l ∷ []) ≡ or_else (number_from (n + 1) m ls) (if same_modules l m then Some k else None)) e rest

push_from : (n : ℕ) (m l : List (List ℕ)) (ls : List (List (List ℕ))) → number_from n m (ls ++ l ∷ []) ≡ or_else (number_from n m ls) (if same_modules l m then Some (n + length ls) else None)
push_from n m l [] = rw add-zero refl
push_from n m l (x ∷ ls) = push_by n m l x ls (same_modules x m) (push_from (n + 1) m l ls)

pub number_push : (m l : List (List ℕ)) (ls : List (List (List ℕ))) → number_of m (ls ++ l ∷ []) ≡ or_else (number_of m ls) (if same_modules l m then Some (length ls) else None)
unfolding number_of
number_push m l ls = let e : 0 + length ls ≡ length ls = omega arith in subst (λ (k : ℕ). number_from 0 m (ls ++ l ∷ []) ≡ or_else (number_from 0 m ls) (if same_modules l m then Some k else None)) e (push_from 0 m l ls)

record Stands (n p : ℕ) (m : List (List ℕ)) (ls : List (List (List ℕ))) : Type 0 where
  i : ℕ
  bound : i < length ls
  place : p ≡ n + i
  is : list_at ls i ≡ m

stands_by : (n p : ℕ) (m x : List (List ℕ)) (ls : List (List (List ℕ))) (b : Bool) → same_modules x m ≡ b → cond b (Some n) (number_from (n + 1) m ls) ≡ Some p → (number_from (n + 1) m ls ≡ Some p → Stands (n + 1) p m ls) → Stands n p m (x ∷ ls)
stands_by n p m x ls true t e rest = let o : n ≡ p = cc in record { i = 0; bound = omega arith; place = omega arith; is = same_means x m t }
stands_by n p m x ls false t e rest = let f : Stands (n + 1) p m ls = rest e in record { i = suc f.i; bound = (let l = f.bound in omega arith); place = (let l = f.place in omega arith); is = f.is }

stands_from : (n p : ℕ) (m : List (List ℕ)) (ls : List (List (List ℕ))) → number_from n m ls ≡ Some p → Stands n p m ls
stands_from n p m [] e = cc
stands_from n p m (x ∷ ls) e = stands_by n p m x ls (same_modules x m) refl e (stands_from (n + 1) p m ls)

-- a number that is found is that of the list
pub number_found : (ls : List (List (List ℕ))) (m : List (List ℕ)) (p : ℕ) → number_of m ls ≡ Some p → (p < length ls) × (list_at ls p ≡ m)
unfolding number_of
number_found ls m p e =
    let f : Stands 0 p m ls = stands_from 0 p m ls e in
    let l : f.i < length ls = f.bound in
    let o : p ≡ 0 + f.i = f.place in
    let same : f.i ≡ p = omega arith in
    (omega arith, subst (λ (i : ℕ). list_at ls i ≡ m) same f.is)

missing_by : (n : ℕ) (m x : List (List ℕ)) (ls : List (List (List ℕ))) (b : Bool) → same_modules x m ≡ b → cond b (Some n) (number_from (n + 1) m ls) ≡ None → (x ≢ m) × (number_from (n + 1) m ls ≡ None)
missing_by n m x ls true t e = cc
missing_by n m x ls false t e = ((λ same. let s : same_modules m m ≡ true = modules_self m in let t2 : same_modules m m ≡ false = subst (λ (y : List (List ℕ)). same_modules y m ≡ false) same t in cc), e)

missing_from : (n : ℕ) (m : List (List ℕ)) (ls : List (List (List ℕ))) (i : ℕ) → number_from n m ls ≡ None → i < length ls → list_at ls i ≢ m
missing_from n m [] i e h = absurd (omega arith)
missing_from n m (x ∷ ls) zero e h = (missing_by n m x ls (same_modules x m) refl e).0
missing_from n m (x ∷ ls) (suc i) e h = missing_from (n + 1) m ls i (missing_by n m x ls (same_modules x m) refl e).1 (omega arith)

-- a list that has no number is none of the lists
pub number_missing : (ls : List (List (List ℕ))) (m : List (List ℕ)) (i : ℕ) → number_of m ls ≡ None → i < length ls → list_at ls i ≢ m
unfolding number_of
number_missing ls m i e h = missing_from 0 m ls i e h

pub at_old : (ls : List (List (List ℕ))) (l : List (List ℕ)) (i : ℕ) → i < length ls → list_at (ls ++ l ∷ []) i ≡ list_at ls i
at_old [] l i h = absurd (omega arith)
at_old (x ∷ ls) l zero h = refl
at_old (x ∷ ls) l (suc i) h = at_old ls l i (omega arith)

pub at_new : (ls : List (List (List ℕ))) (l : List (List ℕ)) → list_at (ls ++ l ∷ []) (length ls) ≡ l
at_new [] l = refl
at_new (x ∷ ls) l = at_new ls l

number_case : (ls : List (List (List ℕ))) (i : ℕ) (o : Option ℕ) → AreScopes ls → i < length ls → number_of (list_at ls i) ls ≡ o → o ≡ Some i
number_case ls i None are h e = absurd (number_missing ls (list_at ls i) i e h refl)
number_case ls i (Some p) are h e = let f = number_found ls (list_at ls i) p e in ap Some (are.apart p i f.0 h f.1)

-- each list has its place as its number
pub number_is : (ls : List (List (List ℕ))) (i : ℕ) → AreScopes ls → i < length ls → number_of (list_at ls i) ls ≡ Some i
number_is ls i are h = number_case ls i (number_of (list_at ls i) ls) are h refl
