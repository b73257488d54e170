-- Numbers past the limit.
use Rattle.std.proofs.Common.{◌≡◌, ℕ, ◌-◌, ◌+◌, ◌*◌, ◌/◌, ◌≤◌, ◌<◌, List, [], ◌∷◌, None, arith, length, slice_index_or}
use Rattle.lar_lexer.specs.Reading.{digits_at, number_at}

-- more digits make no number smaller
pub digits_grow : (n : ℕ) (bytes : List ℕ) → n ≤ (digits_at n bytes).0
digits_grow n [] = omega arith
digits_grow n (b ∷ bs) = grind (arith, digits_grow (n * 10 + (b - 48)) bs)

pub past : (n : ℕ) (rest bytes : List ℕ) → 1 ≤ length rest → 48 ≤ slice_index_or rest 0 0 → slice_index_or rest 0 0 < 58 → (9223372036854775807 - (slice_index_or rest 0 0 - 48)) / 10 < n
    → digits_at n rest ≡ digits_at 0 bytes → None ≡ number_at bytes
past n [] bytes some low high over told = absurd (omega (arith, some))
past n (b ∷ bs) bytes some low high over told =
    let more : 9223372036854775807 < n * 10 + (b - 48) = omega (arith, over, low, high) in
    grind (arith, digits_grow (n * 10 + (b - 48)) bs, more, told, low, high)
