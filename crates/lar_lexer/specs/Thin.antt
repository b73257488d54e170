-- The thin form: fn main() { print(1); print(2); } and nothing else.
use Rattle.std.specs.Prelude.{ℕ, ◌≡◌, ◌+◌, ◌-◌, ◌*◌, ◌^◌, ◌<◌, ◌≤◌, ◌==◌, ◌||◌, ◌&&◌, nat_le, Bool, List, [], ◌∷◌, ◌++◌, length, fold, ℤ, pos, codes, IsTrue}
use Rattle.std.specs.List.{list_all, flat_map}

-- a space, a tab, an LF or a CR
abbrev pub is_blank : ℕ → Bool
is_blank b = b == 32 || b == 9 || b == 10 || b == 13

abbrev pub is_digit : ℕ → Bool
is_digit b = nat_le 48 b && nat_le b 57

abbrev pub AreBlanks : List ℕ → Type 0
AreBlanks bytes = IsTrue (list_all is_blank bytes)

-- what decimal digits write
abbrev pub value_of : List ℕ → ℕ
value_of numeral = fold (λ n d. n * 10 + (d - 48)) 0 numeral

-- A number is written by one digit or more, and is at most 9223372036854775807.
pub record Writes (numeral : List ℕ) (number : ℤ) : Type 0 where
  pub some : 0 < length numeral
  pub digits : IsTrue (list_all is_digit numeral)
  pub fits : value_of numeral < 2 ^ 63
  pub value : number ≡ pos (value_of numeral)

-- numbers, each written by the numeral in its place
abbrev pub AllWritten : List (List ℕ) → List ℤ → Type 0
AllWritten [] [] = Unit {0}
AllWritten (d ∷ ds) (n ∷ ns) = Writes d n × AllWritten ds ns
AllWritten [] (n ∷ ns) = ⊥
AllWritten (d ∷ ds) [] = ⊥

-- The text begins with these parts, one after the other and with blanks before each, or none, and goes on with the rest.
abbrev pub Spaced : List (List ℕ) → List ℕ → List ℕ → Type 0
Spaced [] text rest = text ≡ rest
Spaced (part ∷ parts) text rest = (blanks : List ℕ) × ((more : List ℕ) × AreBlanks blanks × (text ≡ blanks ++ (part ++ more)) × Spaced parts more rest)

-- print(N);
abbrev pub print_parts : List ℕ → List (List ℕ)
print_parts numeral = codes "print" ∷ codes "(" ∷ numeral ∷ codes ")" ∷ codes ";" ∷ []

-- main() {
abbrev pub main_parts : List (List ℕ)
main_parts = codes "main" ∷ codes "(" ∷ codes ")" ∷ codes "{" ∷ []

-- The text has the thin form and prints these numbers: fn, a blank or more, main() {, at most 1,000 prints, } and blanks.
pub record IsThin (text : List ℕ) (numbers : List ℤ) : Type 0 where
  pub numerals : List (List ℕ)
  pub between : List ℕ
  pub main : List ℕ
  pub prints : List ℕ
  pub behind : List ℕ
  pub written : AllWritten numerals numbers
  pub few : length numbers ≤ 1000
  pub begins : Spaced (codes "fn" ∷ []) text (between ++ main)
  pub apart : (0 < length between) × AreBlanks between
  pub opens : Spaced main_parts main prints
  pub spaced : Spaced (flat_map print_parts numerals ++ codes "}" ∷ []) prints behind
  pub ends : AreBlanks behind
