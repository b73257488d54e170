-- How a file in the thin form is read, from the left.
use Rattle.std.specs.Prelude.{ℕ, zero, suc, ◌+◌, ◌-◌, ◌*◌, ◌^◌, ◌==◌, nat_lt, if◌then◌else◌, Bool, false, List, [], ◌∷◌, length, Option, Some, None, ℤ, pos, codes}
use Rattle.std.specs.Option.{option_map_or}
use Rattle.lar_lexer.specs.Thin.{is_blank, is_digit}

infixl 10 ◌>>=◌
abbrev pub ◌>>=◌ : {A B : Type 0} → Option A → (A → Option B) → Option B
None >>= f = None
(Some x) >>= f = f x

-- the bytes behind the blanks at the front
abbrev pub after_blanks : List ℕ → List ℕ
after_blanks [] = []
after_blanks (b ∷ bs) = if is_blank b then after_blanks bs else b ∷ bs

-- the bytes behind a word at the front
abbrev pub after_word : List ℕ → List ℕ → Option (List ℕ)
after_word [] bytes = Some bytes
after_word (w ∷ ws) [] = None
after_word (w ∷ ws) (b ∷ bs) = if w == b then after_word ws bs else None

-- the bytes behind a word that may have blanks before it
abbrev pub part : List ℕ → List ℕ → Option (List ℕ)
part word bytes = after_word word (after_blanks bytes)

-- the number that n and the digits at the front write, and the bytes behind them
abbrev pub digits_at : ℕ → List ℕ → ℕ × List ℕ
digits_at n [] = (n, [])
digits_at n (b ∷ bs) = if is_digit b then digits_at (n * 10 + (b - 48)) bs else (n, b ∷ bs)

-- a number of at least one digit and at most 2^63 - 1
abbrev pub number_at : List ℕ → Option (ℤ × List ℕ)
number_at bytes =
    let d = digits_at 0 bytes in
    if length d.1 == length bytes then None else (if nat_lt d.0 (2 ^ 63) then Some (pos d.0, d.1) else None)

-- print(number);
unfoldable pub print_at : List ℕ → Option (ℤ × List ℕ)
print_at bytes = do
  word ← part (codes "print") bytes
  inside ← part (codes "(") word
  number ← number_at (after_blanks inside)
  close ← part (codes ")") number.1
  rest ← part (codes ";") close
  Some (number.0, rest)

-- at most so many prints, one after the other
unfoldable pub prints_at : ℕ → List ℕ → List ℤ × List ℕ
prints_at zero bytes = ([], bytes)
prints_at (suc n) bytes = option_map_or (λ p. let more = prints_at n p.1 in (p.0 ∷ more.0, more.1)) (print_at bytes) ([], bytes)

-- fn main() {
unfoldable pub head_at : List ℕ → Option (List ℕ)
head_at bytes = do
  word ← part (codes "fn") bytes
  name ← if length (after_blanks word) == length word then None else part (codes "main") word
  inside ← part (codes "(") name
  close ← part (codes ")") inside
  part (codes "{") close

-- } and nothing else
abbrev pub is_end : List ℕ → Bool
is_end bytes = option_map_or (λ rest. length (after_blanks rest) == 0) (part (codes "}") bytes) false

-- the numbers of a file in the thin form
abbrev pub thin : List ℕ → Option (List ℤ)
thin bytes = do
  head ← head_at bytes
  let prints = prints_at 1000 head in if is_end prints.1 then Some prints.0 else None
