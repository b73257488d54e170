-- The numbers of a pair of descriptors.
use Rattle.std.specs.Prelude.{ℕ, nat_eq, ◌==◌, ◌&&◌, nat_le, not, if◌then◌else◌, Bool, true, false, List, drop, length, Option, Some, None, option_map, codes}
use Rattle.std.specs.Char.{is_ascii_digit}
use Rattle.std.specs.List.{list_all, starts_with}
use Rattle.std.specs.Str.Parse.{digits_value}
use Rattle.make_flags.specs.declared.number.Number.{Number}

-- what 1 to 9 decimal digits write
abbrev pub value_of : List ℕ → Option ℕ
value_of digits =
    if nat_le 1 (length digits) && nat_le (length digits) 9 && list_all is_ascii_digit digits
    then Some (digits_value 10 digits)
    else None

-- 1 to 9 decimal digits, and before them `-` or nothing
abbrev pub number_of : List ℕ → Option Number
number_of text =
    if starts_with nat_eq text (codes "-")
    then option_map (λ n. record { minus = true; digits = n }) (value_of (drop 1 text))
    else option_map (λ n. record { minus = false; digits = n }) (value_of text)

-- Minus nought is nought.
abbrev pub is_negative : Number → Bool
is_negative number = number.minus && not (number.digits == 0)
