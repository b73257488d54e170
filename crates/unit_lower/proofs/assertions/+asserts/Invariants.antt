use Rattle.std.proofs.Common.{drop}
use Rattle.unit_input.specs.InputView.{stmts_view}
use Rattle.unit_lower.proofs.Failures.{Asserted}
use Rattle.unit_lower.proofs.assertions.+asserts.Given as goal

abbrev pub invariant-first_failure-loop-stmt : goal.invariant-first_failure-loop-stmt
invariant-first_failure-loop-stmt l = Asserted l.initial.next (stmts_view l.stmts) l.next (stmts_view (drop l.stmt-index l.stmts))
