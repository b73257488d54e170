-- The table of diagnostics: a number and a text for each. Each part in capitals of a text is the place of an argument.
use Rattle.std.specs.Prelude.{ℕ, ◌+◌, ◌/◌, ◌%◌, Bool, true, false, if◌then◌else◌, List, [], ◌∷◌, ◌++◌, codes}
use Rattle.std.specs.Char.{is_ascii_uppercase}
use Rattle.lar_source.specs.declared.code.Code.{Code}
use Rattle.lar_source.specs.declared.code.Code.TheVariants.{UnexpectedByte, SyntaxError, DefinedTwice, UnknownName, WrongType, WrongCount, NoSuchPlace, NestedTooDeep, NoLawfulMain, PastLimit, MayEndWithoutValue, ArgumentTooLarge, TooManyInstances, AssertionFalse, AssertionTraps, TooManySlots, TooMuchCode, ImageTooLarge}

-- a line of the table
pub record Row : Type 0 where
  pub number : ℕ
  pub text : List ℕ

abbrev pub row : Code → Row
row UnexpectedByte = record { number = 1; text = codes "unexpected byte HH" }
row SyntaxError = record { number = 2; text = codes "syntax error" }
row DefinedTwice = record { number = 3; text = codes "name N defined twice" }
row UnknownName = record { number = 4; text = codes "unknown name PATH" }
row WrongType = record { number = 5; text = codes "wanted T, found U" }
row WrongCount = record { number = 6; text = codes "wanted N arguments, found M" }
row NoSuchPlace = record { number = 7; text = codes "no such field or place" }
row NestedTooDeep = record { number = 8; text = codes "struct N is nested too deep" }
row NoLawfulMain = record { number = 9; text = codes "no lawful main" }
row PastLimit = record { number = 10; text = codes "past the limit N" }
row MayEndWithoutValue = record { number = 11; text = codes "function N may end without a value" }
row ArgumentTooLarge = record { number = 20; text = codes "type argument too large" }
row TooManyInstances = record { number = 21; text = codes "more than 65536 instances" }
row AssertionFalse = record { number = 30; text = codes "static assertion is false in SYMBOL" }
row AssertionTraps = record { number = 31; text = codes "static assertion traps in SYMBOL" }
row TooManySlots = record { number = 32; text = codes "more than 255 slots in SYMBOL" }
row TooMuchCode = record { number = 33; text = codes "more than 16777216 code bytes in SYMBOL" }
row ImageTooLarge = record { number = 40; text = codes "image over 67108864 bytes" }

-- E and the number in two digits
abbrev pub code_name : Code → List ℕ
code_name c = 69 ∷ (48 + (row c).number / 10) ∷ (48 + (row c).number % 10) ∷ []

-- how many parts in capitals a text has; `inside` says that a part has begun before it
abbrev pub parts : Bool → List ℕ → ℕ
parts inside [] = 0
parts inside (b ∷ bs) = if is_ascii_uppercase b then (if inside then parts true bs else 1 + parts true bs) else parts false bs

abbrev pub arity : Code → ℕ
arity c = parts false (row c).text

-- the first of some texts, and the others
abbrev pub first : List (List ℕ) → List ℕ
first [] = []
first (a ∷ rest) = a

abbrev pub others : List (List ℕ) → List (List ℕ)
others [] = []
others (a ∷ rest) = rest

-- the text with an argument in the place of each part in capitals, in order
abbrev pub filled : Bool → List ℕ → List (List ℕ) → List ℕ
filled inside [] args = []
filled inside (b ∷ bs) args =
    if is_ascii_uppercase b then (if inside then filled true bs args else first args ++ filled true bs (others args))
    else b ∷ filled false bs args
