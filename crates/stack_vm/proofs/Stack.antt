-- The parts of a stack, where its front stays and more is put behind it.
use Rattle.std.proofs.Common.{◌≡◌, ℕ, ◌+◌, ◌-◌, ◌<◌, ◌≤◌, List, ◌++◌, length, take, drop, get_or, slice_set, ℤ, pos, arith, ◌∙◌, ap, length-drop}
use Rattle.std.proofs.lemmas.List.{length-take, get_or-drop, drop-take, take-append-le, drop-append-le, take-set-le, drop-set-lt, drop-set-add, take-take}
use Rattle.std.proofs.Math.Seq.{take-set-lt}
use Rattle.stack_vm.specs.Effect.{under}

-- a word from the top is one of the operands
pub under_drop : (V : List ℤ) (m k : ℕ) → m + k < length V → under (drop m V) k ≡ under V k
under_drop V m k h =
    let e : m + ((length (drop m V) - 1) - k) ≡ (length V - 1) - k = omega (arith, length-drop m V) in
    get_or-drop m V ((length (drop m V) - 1) - k) (pos 0) ∙ ap (λ (n : ℕ). get_or V n (pos 0)) e

-- the parts of the stack, where its front stays and more is put behind it
pub front_stays : (V p : List ℤ) (n l : ℕ) → n ≤ l → l ≤ length V → take n (take l V ++ p) ≡ take n V
front_stays V p n l a b =
    let e : n ≤ length (take l V) = omega (arith, length-take l V) in
    take-append-le n (take l V) p e ∙ take-take n l V a

pub drop_take_at : (V : List ℤ) (n l : ℕ) → n ≤ l → drop n (take l V) ≡ take (l - n) (drop n V)
drop_take_at V n l a =
    let e : l ≡ n + (l - n) = omega arith in
    ap (λ (m : ℕ). drop n (take m V)) e ∙ drop-take n (l - n) V

pub slots_stay : (V p : List ℤ) (n k l : ℕ) → n + k ≤ l → l ≤ length V → take k (drop n (take l V ++ p)) ≡ take k (drop n V)
slots_stay V p n k l a b =
    let e : n ≤ length (take l V) = omega (arith, length-take l V) in
    let f : k ≤ length (drop n (take l V)) = omega (arith, length-drop n (take l V), length-take l V) in
    ap (λ (xs : List ℤ). take k xs) (drop-append-le n (take l V) p e)
    ∙ (take-append-le k (drop n (take l V)) p f
    ∙ (ap (λ (xs : List ℤ). take k xs) (drop_take_at V n l (omega arith)) ∙ take-take k (l - n) (drop n V) (omega arith)))

pub operands_are : (V p : List ℤ) (m l : ℕ) → m ≤ l → l ≤ length V → drop m (take l V ++ p) ≡ take (l - m) (drop m V) ++ p
operands_are V p m l a b =
    let e : m ≤ length (take l V) = omega (arith, length-take l V) in
    drop-append-le m (take l V) p e ∙ ap (λ (xs : List ℤ). xs ++ p) (drop_take_at V m l a)

-- the same where a slot is written
pub stored_front : (V : List ℤ) (n s l : ℕ) (x : ℤ) → n ≤ l → take n (slice_set (take l V) (n + s) x) ≡ take n V
stored_front V n s l x a = take-set-le n (take l V) (n + s) x (omega arith) ∙ take-take n l V a

pub stored_slots : (V : List ℤ) (n k s l : ℕ) (x : ℤ) → s < k → n + k ≤ l → take k (drop n (slice_set (take l V) (n + s) x)) ≡ slice_set (take k (drop n V)) s x
stored_slots V n k s l x h a =
    ap (λ (xs : List ℤ). take k xs) (drop-set-add n (take l V) s x)
    ∙ (take-set-lt k (drop n (take l V)) s x h
    ∙ ap (λ (xs : List ℤ). slice_set xs s x) (ap (λ (xs : List ℤ). take k xs) (drop_take_at V n l (omega arith)) ∙ take-take k (l - n) (drop n V) (omega arith)))

pub stored_operands : (V : List ℤ) (n k s l : ℕ) (x : ℤ) → s < k → n + k ≤ l → drop (n + k) (slice_set (take l V) (n + s) x) ≡ take (l - (n + k)) (drop (n + k) V)
stored_operands V n k s l x h a = drop-set-lt (n + k) (take l V) (n + s) x (omega arith) ∙ drop_take_at V (n + k) l a
