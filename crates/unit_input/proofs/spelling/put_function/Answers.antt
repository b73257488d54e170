use Rattle.std.proofs.Common.{◌++◌, ◌∷◌, [], sym, ap, ◌∙◌, append_assoc}
use Rattle.std.specs.List.{flat_map}
use Rattle.unit_input.specs.InputView.{stmts_view}
use Rattle.unit_input.specs.Spelling.{spell_symbol, truth_byte, two, four, spell_block}
use Rattle.unit_input.proofs.Written.{twice, text_of_fn}
use Rattle.unit_input.proofs.spelling.put_function.Goals as goal

pub returns : goal.returns
returns c =
    let f = c.args.function.now in
    text_of_fn _ _ _ _ _ f.symbol f.external f.«result» f.params f.locals _ c.as_slice.result.now _ c.len.result
    c.len.ensures c.as_slice.ensures (ap (λ b. spell_block (stmts_view b)) c.as_slice-2.ensures) c.in_ok-put_head.ensures c.in_ok-put_long_count.ensures c.in_ok-put_widths.ensures c.in_ok-put_block.ensures
