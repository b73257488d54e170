use Rattle.std.proofs.Common.{◌≡◌, true, rules, arith}
use Rattle.unit_input.specs.declared.stmt.UnitStmt.{the_lemmas}
use Rattle.unit_input.specs.InputView.{expr_view, stmts_view}
use Rattle.unit_lower.specs.ValueView.{is_over_expr}
use Rattle.unit_lower.specs.StmtResult.{are_over_stmts}
use Rattle.unit_lower.proofs.Over.{above_after}
use Rattle.unit_lower.proofs.StmtLists.{more_item, above_block}
use Rattle.unit_lower.proofs.StmtArms.{fork_test_arm, fork_then_arm, then_rules, other_rules, loop_test_arm, body_rules, assert_arm}
use Rattle.unit_lower.proofs.stmts.+stmts.Goals as goal

pub lowered_stmt-returns-in_err-test-in-If-clause-wide : goal.lowered_stmt-returns-in_err-test-in-If-clause-wide
lowered_stmt-returns-in_err-test-in-If-clause-wide t c = λ h.
    let over : is_over_expr c.args.scope.now (expr_view c.in-If.test) c.args.next.now ≡ true = search rules in
    fork_test_arm _ _ _ _ _ _ c.in-If.is over

pub lowered_stmt-lowered_stmts-requires : goal.lowered_stmt-lowered_stmts-requires
lowered_stmt-lowered_stmts-requires t c =
    (first_of (search (rules, the_lemmas), grind (arith, the_lemmas)), (then_rules _ _ _ _ _ _ c.in-If.is c.as_slice.ensures c.requires.rules, above_after c.args.scope.now (expr_view c.in-If.test) c.args.next.now _ c.requires.above c.in_ok-test-in-If.ensures.next))

pub lowered_stmt-returns-in_err-then-in-If-clause-wide : goal.lowered_stmt-returns-in_err-then-in-If-clause-wide
lowered_stmt-returns-in_err-then-in-If-clause-wide t c = λ h.
    let over : are_over_stmts c.args.scope.now (stmts_view c.as_slice.result.now) c.lowered-in-If.new.next ≡ true = search rules in
    fork_then_arm _ _ _ _ _ _ _ _ c.in-If.is c.as_slice.ensures c.in_ok-test-in-If.ensures.next over

pub lowered_stmt-lowered_stmts-requires-in-If : goal.lowered_stmt-lowered_stmts-requires-in-If
lowered_stmt-lowered_stmts-requires-in-If t c =
    let above = above_after c.args.scope.now (expr_view c.in-If.test) c.args.next.now _ c.requires.above c.in_ok-test-in-If.ensures.next in
    (first_of (search (rules, the_lemmas), grind (arith, the_lemmas)), (other_rules _ _ _ _ _ _ c.in-If.is c.as_slice-in-If.ensures c.requires.rules, above_block c.args.scope.now (stmts_view c.as_slice.result.now) c.lowered-in-If.new.next _ above c.in_ok-then-in-If.ensures.next))

pub lowered_stmt-returns-in_err-test-in-While-clause-wide : goal.lowered_stmt-returns-in_err-test-in-While-clause-wide
lowered_stmt-returns-in_err-test-in-While-clause-wide t c = λ h.
    let over : is_over_expr c.args.scope.now (expr_view c.in-While.test) c.args.next.now ≡ true = search rules in
    loop_test_arm _ _ _ _ _ c.in-While.is over

pub lowered_stmt-lowered_stmts-requires-in-While : goal.lowered_stmt-lowered_stmts-requires-in-While
lowered_stmt-lowered_stmts-requires-in-While t c =
    (first_of (search (rules, the_lemmas), grind (arith, the_lemmas)), (body_rules _ _ _ _ _ c.in-While.is c.as_slice-in-While.ensures c.requires.rules, above_after c.args.scope.now (expr_view c.in-While.test) c.args.next.now _ c.requires.above c.in_ok-test-in-While.ensures.next))

pub lowered_stmt-returns-in-Assert-clause-narrow : goal.lowered_stmt-returns-in-Assert-clause-narrow
lowered_stmt-returns-in-Assert-clause-narrow t c = assert_arm _ _ _ c.in-Assert.is c.requires.rules

pub lowered_stmts-loop-stmt-preserved : goal.lowered_stmts-loop-stmt-preserved
lowered_stmts-loop-stmt-preserved t c =
    more_item _ _ _ _ _ _ _ _ _ _ _ c.loop-stmt-test.true c.loop-stmt.invariant c.stmt-item.is c.in_ok-stmt.ensures.made c.in_ok-stmt.ensures.narrow c.in_ok-stmt.ensures.next c.in_ok-put.ensures
