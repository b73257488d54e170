-- What the calls of a pool change, one after another.
use Rattle.std.proofs.Common.{◌≡◌, ℕ, ◌+◌, ◌≤◌, min, List, [], ◌∷◌, ◌++◌, length, length-append, Option, Some, None, ◌<◌, ◌⊎◌, inl, inr, ⊎_elim, sym, refl, ap, ◌∙◌, subst, arith}
use Rattle.std.proofs.Math.Nat.{min-le_left, min-le_right, le-min, min-eq_left}
use Rattle.std.proofs.lemmas.Bool.{cases_lt}
use Rattle.counting.specs.Count.{times, total}
use Rattle.counting.proofs.Count.{times-append, total-snoc}
use Rattle.outside.specs.Counts.{last_count}
use Rattle.token_pool.specs.Pool.{Bag, PoolState, Moved, FreeMoved, TakenGrew, Dealt, NoneFree, no_byte}
use Rattle.coord_core.specs.declared.event.Event.{Event}
use Rattle.coord_core.specs.declared.event.Event.TheVariants.{Empty}
use Rattle.coord_core.specs.Journal.{took_by, gave_by, took, gave, lost}
use Rattle.coord_run.specs.Journal.{of_fault, IsEmptyAt, Empties}
use Rattle.coord_run.specs.Driven.{Called}
use Rattle.coord_run.proofs.AtEachLemmas.{at_each-snoc}
use Rattle.coord_run.proofs.JournalLemmas.{gather-snoc}

-- what one event tells of the pool
abbrev pub CalledBy : PoolState → Event → PoolState → Type 0
CalledBy before e after = Dealt before (λ x. times x (took_by e)) (λ x. times x (gave_by e)) (length (took_by e)) (of_fault e) after

free-both : (p q r : Option Bag) (a b c d e f : Bag) → ((x : ℕ) → e x ≡ a x + c x) → ((x : ℕ) → f x ≡ b x + d x) → FreeMoved p a b q → FreeMoved q c d r → FreeMoved p e f r
free-both (Some p) (Some q) (Some r) a b c d e f ea fb h k = λ x. let i = h x in let j = k x in let u = ea x in let v = fb x in omega arith
free-both (Some p) (Some q) None a b c d e f ea fb h k = k
free-both (Some p) None r a b c d e f ea fb h k = absurd h
free-both None q r a b c d e f ea fb h k = tt

taken-both : (p q r : Option ℕ) (a b e : ℕ) → e ≡ a + b → TakenGrew p a q → TakenGrew q b r → TakenGrew p e r
taken-both (Some p) (Some q) (Some r) a b e is h k = omega arith
taken-both None (Some q) (Some r) a b e is h k = absurd h
taken-both (Some p) None (Some r) a b e is h k = absurd k
taken-both None None (Some r) a b e is h k = absurd k
taken-both (Some p) q None a b e is h k = tt
taken-both None q None a b e is h k = tt

-- a count that may have stopped at the last value
at-least : (last a k : ℕ) → min a last ≤ k → (a ≤ k) ⊎ (last ≤ k)
at-least last a k h = ⊎_elim (λ (low : a < last). inl (let e : min a last ≡ a = min-eq_left (omega arith) in omega arith)) (λ (high : last ≤ a). inr (let e : last ≤ min a last = le-min high (omega arith) in omega arith)) (cases_lt a last)

faults-both : (last p q r l n : ℕ) → min (p + l) last ≤ q → min (q + n) last ≤ r → min (p + (l + n)) last ≤ r
faults-both last p q r l n h k =
    let a = min-le_left (p + (l + n)) last in
    let b = min-le_right (p + (l + n)) last in
    ⊎_elim (λ (u : p + l ≤ q). ⊎_elim (λ (v : q + n ≤ r). omega arith) (λ (v : last ≤ r). omega arith) (at-least last (q + n) r k))
    (λ (u : last ≤ q). ⊎_elim (λ (v : q + n ≤ r). omega arith) (λ (v : last ≤ r). omega arith) (at-least last (q + n) r k))
    (at-least last (p + l) q h)

dealt-both : (p q r : PoolState) (a b c d e f : Bag) (k l m n : ℕ) → ((x : ℕ) → e x ≡ a x + c x) → ((x : ℕ) → f x ≡ b x + d x) → Dealt p a b k l q → Dealt q c d m n r → Dealt p e f (k + m) (l + n) r
dealt-both p q r a b c d e f k l m n ea fb h j = record {
  owed = λ x. let u = h.owed x in let v = j.owed x in let y = ea x in let z = fb x in omega arith;
  free = free-both p.free q.free r.free b a d c f e fb ea h.free j.free;
  taken = taken-both p.taken q.taken r.taken k m (k + m) refl h.taken j.taken;
  faults = faults-both last_count p.faults q.faults r.faults l n h.faults j.faults;
}

-- the bags of a call, in other words
pub dealt-as : (p q : PoolState) (a b c d : Bag) (k l : ℕ) → ((x : ℕ) → c x ≡ a x) → ((x : ℕ) → d x ≡ b x) → Dealt p a b k l q → Dealt p c d k l q
dealt-as p q a b c d k l ca db h = record {
  owed = λ x. let u = h.owed x in let y = ca x in let z = db x in omega arith;
  free = free-as p.free q.free h.free;
  taken = h.taken;
  faults = h.faults;
}
  where
    free-as : (f g : Option Bag) → FreeMoved f b a g → FreeMoved f d c g
    free-as (Some f) (Some g) u = λ x. let v = u x in let y = ca x in let z = db x in omega arith
    free-as (Some f) None u = u
    free-as None g u = tt

pub called-none : (p : PoolState) → Dealt p (λ x. 0) (λ x. 0) 0 0 p
called-none p = record { owed = λ x. omega arith; free = same p.free; taken = told p.taken; faults = let m = min-le_left (p.faults + 0) last_count in omega arith }
  where
    same : (f : Option Bag) → FreeMoved f (λ x. 0) (λ x. 0) f
    same (Some f) = λ x. omega arith
    same None = tt

    told : (t : Option ℕ) → TakenGrew t 0 t
    told (Some t) = omega arith
    told None = tt

pub called-snoc : (p q r : PoolState) (es : List Event) (e : Event) → Called p es q → CalledBy q e r → Called p (es ++ e ∷ []) r
called-snoc p q r es e h k =
    let t = gather-snoc took_by es e in let g = gather-snoc gave_by es e in
    let d = dealt-both p q r (λ x. times x (took es)) (λ x. times x (gave es)) (λ x. times x (took_by e)) (λ x. times x (gave_by e)) (λ x. times x (took (es ++ e ∷ []))) (λ x. times x (gave (es ++ e ∷ []))) (length (took es)) (total of_fault es) (length (took_by e)) (of_fault e)
    (λ x. ap (times x) t ∙ times-append x (took es) (took_by e)) (λ x. ap (times x) g ∙ times-append x (gave es) (gave_by e)) h k in
    let n : length (took (es ++ e ∷ [])) ≡ length (took es) + length (took_by e) = ap (λ (l : List ℕ). length l) t ∙ length-append (took es) (took_by e) in
    let m = total-snoc of_fault es e in
    subst (λ (i : ℕ). Dealt p (λ x. times x (took (es ++ e ∷ []))) (λ x. times x (gave (es ++ e ∷ []))) i (total of_fault (es ++ e ∷ [])) r) (sym n)
    (subst (λ (i : ℕ). Dealt p (λ x. times x (took (es ++ e ∷ []))) (λ x. times x (gave (es ++ e ∷ []))) (length (took es) + length (took_by e)) i r) (sym m) d)

-- what an event tells of an Empty, where the free bytes are told
abbrev pub EmptyNow : Option Bag → List Event → Event → Type 0
EmptyNow (Some free) before e = IsEmptyAt free before e
EmptyNow None before e = Unit {0}

pub empties-snoc : (free : Option Bag) (es : List Event) (e : Event) → Empties free es → EmptyNow free es e → Empties free (es ++ e ∷ [])
empties-snoc (Some free) es e h k = at_each-snoc (IsEmptyAt free) es e h k
empties-snoc None es e h k = tt

pub no-empty : (free : Option Bag) (es : List Event) (e : Event) → ((f : Bag) → IsEmptyAt f es e) → EmptyNow free es e
no-empty (Some f) es e h = h f
no-empty None es e h = tt

pub empty-now : (p q : PoolState) (es : List Event) → Called p es q → NoneFree q.free → EmptyNow p.free es Empty
empty-now p q es h none = by p.free q.free h.free none
  where
    by : (f g : Option Bag) → FreeMoved f (λ x. times x (gave es)) (λ x. times x (took es)) g → NoneFree g → EmptyNow f es Empty
    by (Some f) (Some g) moved zero = λ x. let m = moved x in let z = zero x in omega arith
    by (Some f) None moved zero = absurd moved
    by None g moved zero = tt

-- the calls of a session whose bytes were all given or lost
pub repaid-owed : (p q : PoolState) (es : List Event) (bytes : List ℕ) → Called p es q → bytes ≡ lost es → ((x : ℕ) → times x (took es) ≡ times x (gave es) + times x (lost es)) → Moved p.owed (λ x. times x bytes) no_byte q.owed
repaid-owed p q es bytes h is bag x = let o = h.owed x in let b = bag x in let l : times x bytes ≡ times x (lost es) = ap (times x) is in omega arith

pub repaid-free : (p q : PoolState) (es : List Event) (bytes : List ℕ) → Called p es q → bytes ≡ lost es → ((x : ℕ) → times x (took es) ≡ times x (gave es) + times x (lost es)) → FreeMoved p.free no_byte (λ x. times x bytes) q.free
repaid-free p q es bytes h is bag = by p.free q.free h.free
  where
    by : (f g : Option Bag) → FreeMoved f (λ x. times x (gave es)) (λ x. times x (took es)) g → FreeMoved f no_byte (λ x. times x bytes) g
    by (Some f) (Some g) moved = λ x. let m = moved x in let b = bag x in let l : times x bytes ≡ times x (lost es) = ap (times x) is in omega arith
    by (Some f) None moved = moved
    by None g moved = tt
