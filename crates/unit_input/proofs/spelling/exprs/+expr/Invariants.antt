use Rattle.std.proofs.Common.{◌≡◌, ◌++◌, drop}
use Rattle.unit_input.specs.InputView.{exprs_view}
use Rattle.unit_input.specs.Spelling.{spell_exprs}
use Rattle.unit_input.proofs.spelling.exprs.+expr.Given as goal

abbrev pub invariant-put_exprs-loop-expr : goal.invariant-put_exprs-loop-expr
invariant-put_exprs-loop-expr l = l.out.items ++ spell_exprs (exprs_view (drop l.expr-index l.exprs)) ≡ l.initial.out.items ++ spell_exprs (exprs_view l.exprs)
