-- Lists that are defined by recursion, by the place at which they differ from what they were made of.
use Rattle.std.proofs.Common.{◌≡◌, ℕ, suc, ◌+◌, ◌<◌, ◌≤◌, ltb, eqb, Bool, true, false, not, cond, List, [], ◌∷◌, length, set, get_or, position, remove, insert, count_by, is_none, is_some, unwrap_or, Option, Some, None, sym, refl, ap, ◌∙◌, arith}
use Rattle.std.specs.List.{position_or_len}
use Rattle.std.proofs.lemmas.Bool.{ltb-true, ltb-false}
use Rattle.std.proofs.lemmas.List.Recursion.{is_count_by}
use Rattle.coord_core.specs.declared.job.Job.{Job}
use Rattle.coord_core.specs.declared.queue.Queued.{Queued}
use Rattle.coord_core.specs.State.{one_some, payers, payer_of, jobs_without, paid_by, precedes, placed, bytes_without}

pub place_some : {X : Type 0} (p : X → Bool) (xs : List X) (at : ℕ) → position p xs ≡ Some at → (position_or_len p xs ≡ at) × (position_or_len p xs < length xs)
place_some p xs at is = by (ltb (position_or_len p xs) (length xs)) refl is
  where
    by : (t : Bool) → ltb (position_or_len p xs) (length xs) ≡ t → cond t (Some (position_or_len p xs)) None ≡ Some at → (position_or_len p xs ≡ at) × (position_or_len p xs < length xs)
    by true l e = (cc, ltb-true _ _ l)
    by false l e = absurd (cc)

pub place_none : {X : Type 0} (p : X → Bool) (xs : List X) → position p xs ≡ None → length xs ≤ position_or_len p xs
place_none p xs is = by (ltb (position_or_len p xs) (length xs)) refl is
  where
    by : (t : Bool) → ltb (position_or_len p xs) (length xs) ≡ t → cond t (Some (position_or_len p xs)) None ≡ None → length xs ≤ position_or_len p xs
    by true l e = absurd (cc)
    by false l e = ltb-false _ _ l

pub placed-insert : (e : Queued) (q : List Queued) → placed e q ≡ insert q (position_or_len (precedes e) q) e
placed-insert e [] = refl
placed-insert e (y ∷ ys) = by (precedes e y) (placed-insert e ys)
  where
    k : ℕ
    k = position_or_len (precedes e) ys

    by : (t : Bool) → placed e ys ≡ insert ys k e → cond t (e ∷ y ∷ ys) (y ∷ placed e ys) ≡ insert (y ∷ ys) (cond (not t) (1 + k) 0) e
    by true r = refl
    by false r = ap (λ (l : List Queued). y ∷ l) r ∙ ap (λ (n : ℕ). insert (y ∷ ys) n e) (let z : suc k ≡ 1 + k = omega arith in z)

pub place-most : {X : Type 0} (p : X → Bool) (xs : List X) → position_or_len p xs ≤ length xs
place-most p [] = omega arith
place-most p (x ∷ xs) = by (p x) (place-most p xs)
  where
    by : (t : Bool) → position_or_len p xs ≤ length xs → cond (not t) (1 + position_or_len p xs) 0 ≤ length (x ∷ xs)
    by true r = omega arith
    by false r = omega arith

-- the place that `position` answers, or the end
pub place_or_end : {X : Type 0} (p : X → Bool) (xs : List X) → unwrap_or (position p xs) (length xs) ≡ position_or_len p xs
place_or_end p xs = by (ltb (position_or_len p xs) (length xs)) refl
  where
    by : (t : Bool) → ltb (position_or_len p xs) (length xs) ≡ t → unwrap_or (cond t (Some (position_or_len p xs)) None) (length xs) ≡ position_or_len p xs
    by true l = refl
    by false l = let a = ltb-false _ _ l in let b = place-most p xs in omega arith

pub paid_by-set : (b : ℕ) (js : List Job) (d : Job) → position_or_len (λ j. is_none j.payer) js < length js → paid_by b js ≡ set js (position_or_len (λ j. is_none j.payer) js) (record { unit = (get_or js (position_or_len (λ j. is_none j.payer) js) d).unit; payer = Some b })
paid_by-set b [] d l = absurd (omega arith)
paid_by-set b (j ∷ js) d l = by (is_none j.payer) l (paid_by-set b js d)
  where
    k : ℕ
    k = position_or_len (λ (x : Job). is_none x.payer) js

    by : (t : Bool) → cond (not t) (1 + k) 0 < length (j ∷ js) → (k < length js → paid_by b js ≡ set js k (record { unit = (get_or js k d).unit; payer = Some b }))
        → cond t ((record j { payer = Some b }) ∷ js) (j ∷ paid_by b js) ≡ set (j ∷ js) (cond (not t) (1 + k) 0) (record { unit = (get_or (j ∷ js) (cond (not t) (1 + k) 0) d).unit; payer = Some b })
    by true l r = refl
    by false l r = ap (λ (x : List Job). j ∷ x) (r (omega arith)) ∙ ap (λ (n : ℕ). set (j ∷ js) n (record { unit = (get_or (j ∷ js) n d).unit; payer = Some b })) (let z : suc k ≡ 1 + k = omega arith in z)

pub paid_by-none : (b : ℕ) (js : List Job) → length js ≤ position_or_len (λ j. is_none j.payer) js → paid_by b js ≡ js
paid_by-none b [] l = refl
paid_by-none b (j ∷ js) l = by (is_none j.payer) l (paid_by-none b js)
  where
    k : ℕ
    k = position_or_len (λ (x : Job). is_none x.payer) js

    by : (t : Bool) → length (j ∷ js) ≤ cond (not t) (1 + k) 0 → (length js ≤ k → paid_by b js ≡ js) → cond t ((record j { payer = Some b }) ∷ js) (j ∷ paid_by b js) ≡ j ∷ js
    by true l r = absurd (omega arith)
    by false l r = ap (λ (x : List Job). j ∷ x) (r (omega arith))

pub jobs_without-remove : (i : ℕ) (js : List Job) (d : Job) → position_or_len (λ j. eqb j.unit i) js < length js → (jobs_without i js ≡ remove js (position_or_len (λ j. eqb j.unit i) js)) × (payer_of i js ≡ (get_or js (position_or_len (λ j. eqb j.unit i) js) d).payer)
jobs_without-remove i [] d l = absurd (omega arith)
jobs_without-remove i (j ∷ js) d l = by (eqb j.unit i) l (jobs_without-remove i js d)
  where
    k : ℕ
    k = position_or_len (λ (x : Job). eqb x.unit i) js

    next : suc k ≡ 1 + k
    next = omega arith

    by : (t : Bool) → cond (not t) (1 + k) 0 < length (j ∷ js) → (k < length js → (jobs_without i js ≡ remove js k) × (payer_of i js ≡ (get_or js k d).payer))
        → (cond t js (j ∷ jobs_without i js) ≡ remove (j ∷ js) (cond (not t) (1 + k) 0)) × (cond t j.payer (payer_of i js) ≡ (get_or (j ∷ js) (cond (not t) (1 + k) 0) d).payer)
    by true l r = (refl, refl)
    by false l r = let h = r (omega arith) in (ap (λ (x : List Job). j ∷ x) h.0 ∙ ap (λ (n : ℕ). remove (j ∷ js) n) next, h.1 ∙ ap (λ (n : ℕ). (get_or (j ∷ js) n d).payer) next)

pub jobs_without-none : (i : ℕ) (js : List Job) → length js ≤ position_or_len (λ j. eqb j.unit i) js → (jobs_without i js ≡ js) × (payer_of i js ≡ None)
jobs_without-none i [] l = (refl, refl)
jobs_without-none i (j ∷ js) l = by (eqb j.unit i) l (jobs_without-none i js)
  where
    k : ℕ
    k = position_or_len (λ (x : Job). eqb x.unit i) js

    by : (t : Bool) → length (j ∷ js) ≤ cond (not t) (1 + k) 0 → (length js ≤ k → (jobs_without i js ≡ js) × (payer_of i js ≡ None))
        → (cond t js (j ∷ jobs_without i js) ≡ j ∷ js) × (cond t j.payer (payer_of i js) ≡ None)
    by true l r = absurd (omega arith)
    by false l r = let h = r (omega arith) in (ap (λ (x : List Job). j ∷ x) h.0, h.1)

pub payers_count : (js : List Job) → count_by (λ j. is_some j.payer) js ≡ payers js
payers_count js = sym (is_count_by payers (λ (j : Job). is_some j.payer) refl (λ j xs. step j.payer (payers xs)) js)
  where
    step : (o : Option ℕ) (n : ℕ) → one_some o + n ≡ cond (is_some o) (1 + n) n
    step (Some x) n = refl
    step None n = omega arith

pub bytes_without-remove : (b : ℕ) (l : List ℕ) → position_or_len (λ x. eqb x b) l < length l → bytes_without b l ≡ remove l (position_or_len (λ x. eqb x b) l)
bytes_without-remove b [] l = absurd (omega arith)
bytes_without-remove b (x ∷ xs) l = by (eqb x b) l (bytes_without-remove b xs)
  where
    k : ℕ
    k = position_or_len (λ (y : ℕ). eqb y b) xs

    by : (t : Bool) → cond (not t) (1 + k) 0 < length (x ∷ xs) → (k < length xs → bytes_without b xs ≡ remove xs k) → cond t xs (x ∷ bytes_without b xs) ≡ remove (x ∷ xs) (cond (not t) (1 + k) 0)
    by true l r = refl
    by false l r = ap (λ (z : List ℕ). x ∷ z) (r (omega arith)) ∙ ap (λ (n : ℕ). remove (x ∷ xs) n) (let z : suc k ≡ 1 + k = omega arith in z)

pub bytes_without-none : (b : ℕ) (l : List ℕ) → length l ≤ position_or_len (λ x. eqb x b) l → bytes_without b l ≡ l
bytes_without-none b [] l = refl
bytes_without-none b (x ∷ xs) l = by (eqb x b) l (bytes_without-none b xs)
  where
    k : ℕ
    k = position_or_len (λ (y : ℕ). eqb y b) xs

    by : (t : Bool) → length (x ∷ xs) ≤ cond (not t) (1 + k) 0 → (length xs ≤ k → bytes_without b xs ≡ xs) → cond t xs (x ∷ bytes_without b xs) ≡ x ∷ xs
    by true l r = absurd (omega arith)
    by false l r = ap (λ (z : List ℕ). x ∷ z) (r (omega arith))
