-- Where a text is split.
use Rattle.std.proofs.Common.{◌≡◌, ℕ, ◌+◌, ◌<◌, Bool, true, false, not, cond, List, [], ◌∷◌, length, get_or, refl, ap, arith}
use Rattle.std.specs.Prelude.{◌==◌}
use Rattle.std.specs.List.{after_first, onto_first, position_or_len, slice_split}
use Rattle.std.specs.Str.{IsUtf8}
use Rattle.std.proofs.lemmas.Bool.Decides.{nat_tests}
use Rattle.std.proofs.lemmas.List.Sums.{passes_at_first}
use Rattle.std.proofs.lemmas.Str.{IsUtf8-drop, IsCharBoundary-after_ascii}
use Rattle.make_flags.specs.Words.{is_space}

pub slice_split-nowhere : {X : Type 0} (p : X → Bool) (xs : List X) → position_or_len p xs ≡ length xs → slice_split p xs ≡ xs ∷ []
slice_split-nowhere p [] e = refl
slice_split-nowhere p (x ∷ xs) e = elim (p x) as (λ b. cond (not b) (1 + position_or_len p xs) 0 ≡ length (x ∷ xs) → cond b ([] ∷ slice_split p xs) (onto_first x (slice_split p xs)) ≡ (x ∷ xs) ∷ []) [
  | true ↦ λ none. absurd (omega arith)
  | false ↦ λ more. ap (onto_first x) (slice_split-nowhere p xs (omega arith))
] e

-- What comes after a space of a text is a text.
pub IsUtf8-after_space : (bs : List ℕ) → IsUtf8 bs → position_or_len is_space bs < length bs → IsUtf8 (after_first is_space bs)
IsUtf8-after_space bs text found =
    let passes : (get_or bs (position_or_len is_space bs) 0 == 32) ≡ true = passes_at_first is_space bs 0 found in
    let space : get_or bs (position_or_len is_space bs) 0 ≡ 32 = grind (arith, nat_tests) in
    IsUtf8-drop bs (position_or_len is_space bs + 1) text (IsCharBoundary-after_ascii bs (position_or_len is_space bs) text found (omega arith))
