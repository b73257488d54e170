-- Measuring heights, one instruction after the other.
use Rattle.std.proofs.Common.{◌≡◌, ℕ, ◌<◌, ◌≤◌, List, [], ◌∷◌, ◌++◌, Option, Some, None, refl, arith, ◌∙◌, ap, unwrap_or}
use Rattle.std.specs.Prelude.{max}
use Rattle.object_format.specs.Image.{LinkedFn}
use Rattle.stack_vm.specs.Heights.{first_at, as_number, Shows, Before, here, next, reached, heights, greatest}
use Rattle.stack_vm.specs.declared.operation.Placed.{Placed}

-- one more instruction
pub reached_more : (fs : List LinkedFn) (b : Before) (ps : List Placed) (p : Placed) → reached fs b (ps ++ p ∷ []) ≡ next fs (reached fs b ps) p
reached_more fs b [] p = refl
reached_more fs b (q ∷ ps) p = reached_more fs (next fs b q) ps p

pub heights_more : (fs : List LinkedFn) (b : Before) (ps : List Placed) (p : Placed) → heights fs b (ps ++ p ∷ []) ≡ heights fs b ps ++ (p.offset, here (reached fs b ps) p.offset) ∷ []
heights_more fs b [] p = refl
heights_more fs b (q ∷ ps) p = ap (λ (hs : List (ℕ × ℕ)). (q.offset, here b q.offset) ∷ hs) (heights_more fs (next fs b q) ps p)

pub greatest_more : (hs : List (ℕ × ℕ)) (offset height : ℕ) → greatest (hs ++ (offset, height) ∷ []) ≡ max (greatest hs) height
greatest_more [] offset height = omega arith
greatest_more (h ∷ hs) offset height = ap (λ (n : ℕ). max h.1 n) (greatest_more hs offset height) ∙ omega arith

pub here_is : (handed : Option ℕ) (b : Before) (place height number limit : ℕ) → handed ≡ b.handed
    → (((n : ℕ) → handed ≡ Some n → height ≡ n))
    → (((o : Option ℕ) → handed ≡ None → number ≡ as_number o → (((n : ℕ) → o ≡ Some n → n < 4294967295)) → height ≡ unwrap_or o 0))
    → number ≡ as_number (first_at b.jumps place) → (((h : ℕ) → first_at b.jumps place ≡ Some h → h ≤ limit)) → limit < 4294967295
    → height ≡ here b place
here_is (Some n) b place height number limit e p q is low small = rw (← e) (p n refl)
here_is None b place height number limit e p q is low small = rw (← e) (q (first_at b.jumps place) refl is (λ n f. omega (arith, low n f)))

low_or : (o : Option ℕ) (limit : ℕ) → (((h : ℕ) → o ≡ Some h → h ≤ limit)) → unwrap_or o 0 ≤ limit
low_or None limit p = omega arith
low_or (Some h) limit p = p h refl

low_from : (o p : Option ℕ) (limit : ℕ) → (((h : ℕ) → o ≡ Some h → h ≤ limit)) → (((h : ℕ) → p ≡ Some h → h ≤ limit)) → unwrap_or o (unwrap_or p 0) ≤ limit
low_from None p limit f g = low_or p limit g
low_from (Some h) p limit f g = f h refl

pub here_low : (b : Before) (place limit : ℕ) → (((h : ℕ) → b.handed ≡ Some h → h ≤ limit)) → (((h : ℕ) → first_at b.jumps place ≡ Some h → h ≤ limit)) → here b place ≤ limit
here_low b place limit f g = low_from b.handed (first_at b.jumps place) limit f g

pub shown_higher : (pairs : List (ℕ × ℕ)) (xs : List ℕ) (limit more : ℕ) → Shows pairs xs limit → limit ≤ more → Shows pairs xs more
shown_higher pairs xs limit more b up = record { each = b.each; small = λ t h e. omega (arith, b.small t h e) }
