-- What is forgotten when words are put into several sets of slots.
use Rattle.std.proofs.Common.{◌≡◌, ◌≢◌, ℕ, ◌+◌, ◌<◌, ◌≤◌, ◌^◌, ◌==◌, Bool, true, false, ◌&&◌, ◌||◌, if◌then◌else◌, List, length, inl, inr, refl, sym, ap, ◌∙◌, arith}
use Rattle.std.proofs.Math.Path.{fun_ext}
use Rattle.std.proofs.lemmas.Bool.Decides.{eqb_tells, nat_tests}
use lib.Dec.{leb, ltb}
use Rattle.opt_slots.specs.Slots.{no_slot, only, between, also}
use Rattle.opt_slots.proofs.Slots.{between-same, between-more}
use Rattle.opt_known.specs.declared.entry.Entry.{Entry}
use Rattle.opt_known.specs.Facts.{PlainFact, nothing, is_word, is_load, unless_named, forget, if_so}
use Rattle.opt_known.specs.Table.{facts_in, InTime}
use Rattle.opt_known.proofs.Times.{forget-out}

none_forgotten : (f : PlainFact) → unless_named no_slot f ≡ f
unfolding no_slot
none_forgotten nothing = refl
none_forgotten (is_word v) = refl
none_forgotten (is_load t) = refl

pub forget_nothing : (facts : ℕ → PlainFact) → forget no_slot facts ≡ facts
unfolding forget no_slot
forget_nothing facts = fun_ext (λ s. none_forgotten (facts s))

twice_named : (p q : Bool) (t : ℕ) (b : ℕ → Bool) → b t ≡ q → unless_named b (if p then nothing else is_load t) ≡ (if p || q then nothing else is_load t)
twice_named true q t b is = refl
twice_named false q t b is = ap (λ x. if x then nothing else is_load t) is

both_named : (a b : ℕ → Bool) (f : PlainFact) → unless_named b (unless_named a f) ≡ unless_named (also a b) f
unfolding also
both_named a b nothing = refl
both_named a b (is_word v) = refl
both_named a b (is_load t) = twice_named (a t) (b t) t b refl

named_nothing : (b : ℕ → Bool) → unless_named b nothing ≡ nothing
named_nothing b = refl

twice_at : (p q : Bool) (b : ℕ → Bool) (g h : PlainFact) → unless_named b g ≡ h → (if q then nothing else unless_named b (if p then nothing else g)) ≡ (if p || q then nothing else h)
twice_at true true b g h is = refl
twice_at true false b g h is = refl
twice_at false true b g h is = refl
twice_at false false b g h is = is

pub forget_twice : (a b : ℕ → Bool) (facts : ℕ → PlainFact) → forget b (forget a facts) ≡ forget (also a b) facts
unfolding forget also
forget_twice a b facts = fun_ext (λ s. twice_at (a s) (b s) b (unless_named a (facts s)) (unless_named (also a b) (facts s)) (both_named a b (facts s)))

-- the slots of a set below this one
unfoldable pub below : ℕ → (ℕ → Bool) → ℕ → Bool
below n a k = ltb k n && a k

-- the others
unfoldable pub beyond : ℕ → (ℕ → Bool) → ℕ → Bool
beyond n a k = leb n k && a k

none_below : (x : Bool) (k : ℕ) → (ltb k 0 && x) ≡ false
none_below x k = grind (arith, nat_tests)

pub below-zero : (a : ℕ → Bool) → below 0 a ≡ no_slot
unfolding below no_slot
below-zero a = fun_ext (λ k. none_below (a k) k)

if_so-at : (x : Bool) (n k : ℕ) → if_so x (only n) k ≡ (x && (k == n))
unfolding only no_slot
if_so-at true n k = refl
if_so-at false n k = refl

same_place : (n : ℕ) (x : Bool) → ((ltb n n && x) || (x && (n == n))) ≡ (ltb n (n + 1) && x)
same_place n true = grind (arith, nat_tests)
same_place n false = grind (arith, nat_tests)

other_place : (n k : ℕ) (x y : Bool) → k ≢ n → ((ltb k n && x) || (y && (k == n))) ≡ (ltb k (n + 1) && x)
other_place n k true true h = grind (arith, nat_tests)
other_place n k true false h = grind (arith, nat_tests)
other_place n k false true h = grind (arith, nat_tests)
other_place n k false false h = grind (arith, nat_tests)

here_more : (n k : ℕ) (a : ℕ → Bool) → ((ltb k n && a k) || (a n && (k == n))) ≡ (ltb k (n + 1) && a k)
here_more n k a =
    elim (eqb_tells k n) [
      | inl is ↦ rw is.1 (same_place n (a n))
      | inr other ↦ other_place n k (a k) (a n) other.1
    ]

one_below : (n k : ℕ) (a : ℕ → Bool) → ((ltb k n && a k) || if_so (a n) (only n) k) ≡ (ltb k (n + 1) && a k)
one_below n k a = ap (λ x. (ltb k n && a k) || x) (if_so-at (a n) n k) ∙ here_more n k a

pub below-more : (n : ℕ) (a : ℕ → Bool) → also (below n a) (if_so (a n) (only n)) ≡ below (n + 1) a
unfolding below also
below-more n a = fun_ext (λ k. one_below n k a)

halves : (n k : ℕ) (x : Bool) → ((ltb k n && x) || (leb n k && x)) ≡ x
halves n k true = grind (arith, nat_tests)
halves n k false = grind (arith, nat_tests)

below-beyond : (n : ℕ) (a : ℕ → Bool) → also (below n a) (beyond n a) ≡ a
unfolding below beyond also
below-beyond n a = fun_ext (λ k. halves n k (a k))

not_beyond : (n k : ℕ) (x : Bool) → k < n → (leb n k && x) ≡ false
not_beyond n k x h = grind (arith, nat_tests)

-- slots without an entry need no put
pub forget-below : (c : ℕ) (ys : List Entry) (a : ℕ → Bool) (facts : ℕ → PlainFact) → InTime c ys → c < 2 ^ 64 → facts_in ys ≡ forget (below (length ys) a) facts → facts_in ys ≡ forget a facts
unfolding beyond
forget-below c ys a facts time top is =
    sym (forget-out c ys (beyond (length ys) a) time top (λ k h. not_beyond (length ys) k (a k) h))
    ∙ ap (forget (beyond (length ys) a)) is
    ∙ forget_twice (below (length ys) a) (beyond (length ys) a) facts
    ∙ ap (λ s. forget s facts) (below-beyond (length ys) a)

-- one turn of a loop that puts into a row of slots
pub row_put : (old now new : ℕ → PlainFact) (s n : ℕ) → s ≤ n → now ≡ forget (between s n) old → new ≡ forget (only n) now → new ≡ forget (between s (n + 1)) old
row_put old now new s n h is_now is_new =
    is_new ∙ ap (forget (only n)) is_now ∙ forget_twice (between s n) (only n) old ∙ ap (λ a. forget a old) (between-more s n h)

pub row_begun : (s : ℕ) (facts : ℕ → PlainFact) → facts ≡ forget (between s s) facts
row_begun s facts = sym (ap (λ a. forget a facts) (between-same s) ∙ forget_nothing facts)

-- one turn of a loop that puts into the slots of a set
pub set_put : (old now new : ℕ → PlainFact) (n : ℕ) (a : ℕ → Bool) → now ≡ forget (below n a) old → new ≡ forget (if_so (a n) (only n)) now → new ≡ forget (below (n + 1) a) old
set_put old now new n a is_now is_new =
    is_new ∙ ap (forget (if_so (a n) (only n))) is_now ∙ forget_twice (below n a) (if_so (a n) (only n)) old ∙ ap (λ b. forget b old) (below-more n a)

pub set_begun : (a : ℕ → Bool) (facts : ℕ → PlainFact) → facts ≡ forget (below 0 a) facts
set_begun a facts = sym (ap (λ b. forget b facts) (below-zero a) ∙ forget_nothing facts)
