use Rattle.unit_input.proofs.Written.{text_of_external}
use Rattle.unit_input.proofs.spelling.put_external.Goals as goal

pub returns : goal.returns
returns c =
    let x = c.args.external.now in
    text_of_external _ _ _ _ x.symbol x.params x.«result» c.in_ok-put_symbol.ensures c.in_ok-put_two.ensures c.in_ok-put_two-2.ensures
