-- Prints that are read one after the other.
use Rattle.std.proofs.Common.{◌≡◌, ℕ, suc, ◌-◌, ◌+◌, ◌≤◌, ◌<◌, List, [], ◌∷◌, ◌++◌, Some, None, sym, ap, ◌∙◌, append_assoc, arith, ℤ}
use Rattle.std.proofs.lemmas.List.{append-nil}
use Rattle.lar_lexer.specs.Reading.{print_at, prints_at}

-- what was read before, and what is still read
abbrev pub with_front : List ℤ → List ℤ × List ℕ → List ℤ × List ℕ
with_front front more = (front ++ more.0, more.1)

pub goes_on : (front : List ℤ) (i : ℕ) (bytes after : List ℕ) (n : ℤ) (total : List ℤ × List ℕ) → i < 1000 → Some (n, after) ≡ print_at bytes
    → with_front front (prints_at (1000 - i) bytes) ≡ total → with_front (front ++ n ∷ []) (prints_at (1000 - (i + 1)) after) ≡ total
unfolding prints_at
goes_on front i bytes after n total lt h so_far =
    let k : 1000 - i ≡ suc (1000 - (i + 1)) = omega arith in
    let one : with_front front (prints_at (1000 - i) bytes) ≡ with_front (front ++ n ∷ []) (prints_at (1000 - (i + 1)) after) = rw (k, ← h) (simp append_assoc) in
    sym one ∙ so_far

pub stops : (front : List ℤ) (i : ℕ) (bytes : List ℕ) (total : List ℤ × List ℕ) → i < 1000 → None ≡ print_at bytes
    → with_front front (prints_at (1000 - i) bytes) ≡ total → (front, bytes) ≡ total
unfolding prints_at
stops front i bytes total lt h so_far =
    let k : 1000 - i ≡ suc (1000 - (i + 1)) = omega arith in
    let one : with_front front (prints_at (1000 - i) bytes) ≡ (front, bytes) = rw (k, ← h) (ap (λ (ns : List ℤ). (ns, bytes)) (append-nil front)) in
    sym one ∙ so_far

pub is_full : (front : List ℤ) (i : ℕ) (bytes : List ℕ) (total : List ℤ × List ℕ) → 1000 ≤ i
    → with_front front (prints_at (1000 - i) bytes) ≡ total → (front, bytes) ≡ total
unfolding prints_at
is_full front i bytes total le so_far =
    let k : 1000 - i ≡ 0 = omega arith in
    let one : with_front front (prints_at (1000 - i) bytes) ≡ (front, bytes) = rw k (ap (λ (ns : List ℤ). (ns, bytes)) (append-nil front)) in
    sym one ∙ so_far
