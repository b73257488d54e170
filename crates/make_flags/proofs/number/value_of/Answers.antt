use Rattle.std.proofs.Common.{◌≡◌, ◌∙◌, ◌≤◌, true, length, sym, ap, arith}
use Rattle.std.specs.List.{list_all}
use Rattle.std.specs.Result.{result_ok}
use Rattle.std.specs.Char.{is_ascii_digit}
use Rattle.std.proofs.lemmas.Bool.Decides.{nat_tests}
use Rattle.make_flags.proofs.Digits.{parse_few, value_of-few}
use Rattle.make_flags.proofs.number.value_of.Goals as goal

pub returns : goal.returns
returns c =
    let digits : list_all is_ascii_digit c.args.digits.now ≡ true = cc in
    let some : 1 ≤ length c.args.digits.now = grind (arith, nat_tests) in
    let few : length c.args.digits.now ≤ 9 = omega arith in
    c.ok.ensures.value ∙ ap result_ok (parse_few c.args.digits.now _ c.parse.ensures.value.0 some few digits) ∙ sym (value_of-few c.args.digits.now some few digits)
