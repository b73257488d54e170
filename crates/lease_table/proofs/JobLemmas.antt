-- The list of jobs that are out, as one joins or leaves it.
use Rattle.std.proofs.Common.{◌≡◌, ℕ, ◌+◌, ◌≤◌, Bool, true, false, eqb, List, [], ◌∷◌, ◌++◌, Some, None, Option, refl, ap, arith}
use Rattle.std.proofs.lemmas.Bool.{eqb-true}
use Rattle.counting.specs.Count.{one_if, times}
use Rattle.counting.proofs.Count.{times-snoc, times-without, one_if-same}
use Rattle.lease_table.specs.Jobs.{times_job, IsOut, IsNotOut, out_with, out_without}

pub times-out_with : (x : ℕ) (o : Option ℕ) (out : List ℕ) → times x (out_with out o) ≡ times x out + times_job x o
times-out_with x (Some y) out = times-snoc x y out
times-out_with x None out = omega arith

pub times_job-le : (x : ℕ) (o : Option ℕ) → times_job x o ≤ 1
times_job-le x (Some y) = elim (eqb x y) as (λ b. one_if b ≤ 1) [ true ↦ omega arith | false ↦ omega arith ]
times_job-le x None = omega arith

pub no-times : (l : List ℕ) → ((x : ℕ) → times x l ≡ 0) → l ≡ []
no-times [] none = refl
no-times (x ∷ xs) none = let e = none x in let o = one_if-same x in absurd (omega arith)

-- a named job that is absent is there once afterwards
pub times-out_with-once : (o : Option ℕ) (out : List ℕ) → IsNotOut o out → ((x : ℕ) → times x out ≤ 1) → (x : ℕ) → times x (out_with out o) ≤ 1
times-out_with-once None out absent once x = once x
times-out_with-once (Some y) out absent once x = one (eqb x y) refl
  where
    one : (b : Bool) → eqb x y ≡ b → times x (out ++ y ∷ []) ≤ 1
    one true is = let e : times x out ≡ times y out = ap (λ (k : ℕ). times k out) (eqb-true x y is) in let t = times-snoc x y out in let b : one_if (eqb x y) ≡ 1 = ap one_if is in omega arith
    one false is = let t = times-snoc x y out in let b : one_if (eqb x y) ≡ 0 = ap one_if is in let o' = once x in omega arith

pub times-out_without : (x : ℕ) (o : Option ℕ) (out : List ℕ) → ((y : ℕ) → times_job y o ≤ times y out) → times x (out_without out o) + times_job x o ≡ times x out
times-out_without x None out has = omega arith
times-out_without x (Some y) out has = let e = one_if-same y in let h = has y in times-without x y out (omega arith)

pub is_out : (o : Option ℕ) (out : List ℕ) → ((y : ℕ) → times_job y o ≤ times y out) → ((y : ℕ) → times y out ≤ 1) → IsOut o out
is_out None out has once = tt
is_out (Some y) out has once = let e = one_if-same y in let h = has y in let k = once y in omega arith

pub IsNotOut-out_without : (n o : Option ℕ) (out : List ℕ) → ((y : ℕ) → times_job y o ≤ times y out) → IsNotOut n out → IsNotOut n (out_without out o)
IsNotOut-out_without None o out has absent = tt
IsNotOut-out_without (Some x) o out has absent = let t = times-out_without x o out has in omega arith
