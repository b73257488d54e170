-- Names of files and numbers, as words spell them.
use Rattle.std.specs.Prelude.{ℕ, ◌+◌, ◌-◌, ◌*◌, ◌&&◌, ◌||◌, ◌==◌, nat_le, not, if◌then◌else◌, Bool, false, List, [], ◌∷◌, length, fold, Option, Some, None}
use Rattle.std.specs.List.{list_all}

abbrev pub is_digit : ℕ → Bool
is_digit b = nat_le 48 b && nat_le b 57

-- what decimal digits write
abbrev pub value_of : List ℕ → ℕ
value_of digits = fold (λ n d. n * 10 + (d - 48)) 0 digits

-- a letter, a digit, `_` or `.`
abbrev pub is_name_byte : ℕ → Bool
is_name_byte b = is_digit b || (nat_le 65 b && nat_le b 90) || (nat_le 97 b && nat_le b 122) || b == 95 || b == 46

abbrev pub begins_with_dot : List ℕ → Bool
begins_with_dot [] = false
begins_with_dot (b ∷ bs) = b == 46

-- the name of a file: 1 to 80 such bytes, the first no `.`
abbrev pub is_name : List ℕ → Bool
is_name word = nat_le 1 (length word) && nat_le (length word) 80 && list_all is_name_byte word && not (begins_with_dot word)

-- a number of 1 to 20 decimal digits, within a range
abbrev pub number_in : ℕ → ℕ → List ℕ → Option ℕ
number_in least most word =
    if nat_le 1 (length word) && nat_le (length word) 20 && list_all is_digit word && nat_le least (value_of word) && nat_le (value_of word) most
    then Some (value_of word)
    else None
