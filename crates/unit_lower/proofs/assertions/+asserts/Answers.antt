use Rattle.std.proofs.Common.{rules, arith, refl}
use Rattle.unit_input.specs.declared.stmt.UnitStmt.{the_lemmas}
use Rattle.unit_lower.proofs.Failures.{more_item, fork_room, fork_count}
use Rattle.unit_lower.proofs.assertions.+asserts.Goals as goal

pub first_failure-loop-stmt-preserved : goal.first_failure-loop-stmt-preserved
first_failure-loop-stmt-preserved t c =
    more_item _ _ _ _ _ _ _ c.loop-stmt-test.true c.stmt-item.is c.loop-stmt.invariant c.in-None.ensures.failure (c.in-None.ensures.next refl)

pub stmt_failure-first_failure-requires-in-None : goal.stmt_failure-first_failure-requires-in-None
stmt_failure-first_failure-requires-in-None t c =
    (first_of (search (rules, the_lemmas), grind (arith, the_lemmas)), fork_room _ _ _ _ _ _ _ _ c.in-If.is c.as_slice.ensures c.as_slice-in-None.ensures c.requires (c.in-None.ensures.next refl))

pub stmt_failure-returns-in-None-clause-next : goal.stmt_failure-returns-in-None-clause-next
stmt_failure-returns-in-None-clause-next t c = λ h.
    fork_count _ _ _ _ _ _ _ _ _ c.in-If.is c.as_slice.ensures c.as_slice-in-None.ensures (c.in-None.ensures.next refl) (c.first_failure-in-None.ensures.next h)
