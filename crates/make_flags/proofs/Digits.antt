-- What few digits write.
use Rattle.std.proofs.Common.{◌≡◌, ℕ, ◌<◌, ◌≤◌, ◌^◌, true, List, length, Some, Result, Ok, rules, arith}
use Rattle.std.specs.Char.{is_ascii_digit}
use Rattle.std.specs.List.{list_all}
use Rattle.std.specs.Str.Parse.{ParsesUnsigned, digits_value}
use Rattle.std.proofs.lemmas.Bool.Decides.{nat_tests}
use Rattle.std.proofs.lemmas.Str.Parse.{IsNumeralModel, numerals_by_value, digits_value_short, parse_gives}
use Rattle.make_flags.specs.Number.{value_of}

own : IsNumeralModel (λ ds. list_all is_ascii_digit ds ≡ true) (digits_value 10)
own = numerals_by_value _ (search rules)

pub parse_few : {E : Type 0} (bs : List ℕ) (r : Result ℕ E) → ParsesUnsigned 32 10 bs r → 1 ≤ length bs → length bs ≤ 9 → list_all is_ascii_digit bs ≡ true → r ≡ Ok (digits_value 10 bs)
parse_few bs r parsed some few digits =
    let small : digits_value 10 bs < 10 ^ 9 = digits_value_short own bs 9 digits few in
    parse_gives own 32 bs r parsed digits (omega arith) (omega arith)

pub value_of-few : (bs : List ℕ) → 1 ≤ length bs → length bs ≤ 9 → list_all is_ascii_digit bs ≡ true → value_of bs ≡ Some (digits_value 10 bs)
value_of-few bs some few digits = grind (arith, nat_tests)
