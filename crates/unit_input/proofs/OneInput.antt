-- Equal texts are of equal inputs, and no text goes on as another.
use Rattle.std.proofs.Common.{◌≡◌, ℕ, ◌+◌, List, [], ◌++◌, drop, Option, Some, None, sym, ap, ◌∙◌, arith}
use Rattle.std.proofs.lemmas.List.{append-nil}
use Rattle.unit_input.specs.Inputs.{PlainInput}
use Rattle.unit_input.specs.Rules.{IsInput}
use Rattle.unit_input.specs.Spelling.{spell}
use Rattle.unit_input.proofs.Decoder.{read_input}
use Rattle.unit_input.proofs.ReadBackStmts.{fns_size, after_magic, input_back}

abbrev input_or : PlainInput → Option (PlainInput × List ℕ) → PlainInput
input_or d None = d
input_or d (Some x) = x.0

abbrev left_of : Option (PlainInput × List ℕ) → List ℕ
left_of None = []
left_of (Some x) = x.1

-- where one text begins with another, the inputs are one and nothing is left
pub one_input : (x y : PlainInput) (r : List ℕ) → IsInput x → IsInput y → spell y ≡ spell x ++ r → (x ≡ y) × (r ≡ [])
one_input x y r ok_x ok_y e =
    let n = fns_size x.functions + fns_size y.functions in
    let after : after_magic y ≡ after_magic x ++ r = ap (drop 6) e in
    let of_y = input_back n y [] (omega arith) ok_y in
    let of_x = input_back n x r (omega arith) ok_x in
    let same : Some (x, r) ≡ Some (y, []) = sym of_x ∙ ap (read_input n) (sym after ∙ sym (append-nil (after_magic y))) ∙ of_y in
    (ap (input_or x) same, ap left_of same)

pub equal_texts : (x y : PlainInput) → IsInput x → IsInput y → spell x ≡ spell y → x ≡ y
equal_texts x y ok_x ok_y e = (one_input x y [] ok_x ok_y (sym e ∙ sym (append-nil (spell x)))).0

pub no_longer_text : (x y : PlainInput) (r : List ℕ) → IsInput x → IsInput y → spell y ≡ spell x ++ r → r ≡ []
no_longer_text x y r ok_x ok_y e = (one_input x y r ok_x ok_y e).1
