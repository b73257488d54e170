use Rattle.std.proofs.Common.{◌≡◌, ◌++◌, drop}
use Rattle.unit_input.specs.InputView.{stmts_view}
use Rattle.unit_input.specs.Spelling.{spell_stmts}
use Rattle.unit_input.proofs.spelling.stmts.+stmt.Given as goal

abbrev pub invariant-put_block-loop-stmt : goal.invariant-put_block-loop-stmt
invariant-put_block-loop-stmt l = l.out.items ++ spell_stmts (stmts_view (drop l.stmt-index l.stmts)) ≡ l.initial.out.items ++ spell_stmts (stmts_view l.stmts)
