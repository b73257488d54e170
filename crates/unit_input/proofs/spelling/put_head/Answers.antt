use Rattle.unit_input.proofs.Written.{text_of_head}
use Rattle.unit_input.proofs.spelling.put_head.Goals as goal

pub returns : goal.returns
returns c =
    let f = c.args.function.now in
    text_of_head _ _ _ _ _ f.symbol f.external f.«result» f.params c.in_ok-put_symbol.ensures c.in_ok-put_truth.ensures c.in_ok-put_two.ensures c.in_ok-put_byte.ensures
