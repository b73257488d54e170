use Rattle.std.proofs.Common.{◌++◌, refl, sym, ap, ◌∙◌, arith}
use Rattle.unit_input.specs.declared.stmt.UnitStmt.{UnitStmt}
use Rattle.unit_input.specs.Stmts.{declare, assign, fork, loop, give, print, assert, eval}
use Rattle.unit_input.specs.InputView.{expr_view, stmt_view, stmts_view}
use Rattle.unit_input.specs.Spelling.{four, spell_expr, spell_stmt, spell_stmts, spell_block}
use Rattle.unit_input.proofs.Counted.{stmt_members}
use Rattle.unit_input.proofs.Seen.{seen_fork, seen_loop}
use Rattle.unit_input.proofs.Views.{stmt_view-Let, stmt_view-Assign, stmt_view-Return, stmt_view-Print, stmt_view-Assert, stmt_view-Eval}
use Rattle.unit_input.proofs.Written.{twice, text_of_stmt, text_of_fork, onwards, all_written}
use Rattle.unit_input.proofs.spelling.stmts.+stmt.Goals as goal

pub put_stmt-returns-in_ok-put_expr-in-Let : goal.put_stmt-returns-in_ok-put_expr-in-Let
put_stmt-returns-in_ok-put_expr-in-Let t c =
    text_of_stmt _ _ (stmt_view c.args.stmt.now) (declare c.in-Let.local (expr_view c.in-Let.value)) (ap stmt_view c.in-Let.is ∙ stmt_view-Let c.in-Let.local c.in-Let.value) (twice _ _ _ _ _ c.in_ok-put_let-in-Let.ensures c.in_ok-put_expr-in-Let.ensures)

pub put_stmt-returns-in_ok-put_expr-in-Assign : goal.put_stmt-returns-in_ok-put_expr-in-Assign
put_stmt-returns-in_ok-put_expr-in-Assign t c =
    text_of_stmt _ _ (stmt_view c.args.stmt.now) (assign c.in-Assign.local c.in-Assign.offset c.in-Assign.width (expr_view c.in-Assign.value)) (ap stmt_view c.in-Assign.is ∙ stmt_view-Assign c.in-Assign.local c.in-Assign.offset c.in-Assign.width c.in-Assign.value) (twice _ _ _ _ _ c.in_ok-put_place-in-Assign.ensures c.in_ok-put_expr-in-Assign.ensures)

pub put_stmt-returns-in_ok-put_block-in-If-2 : goal.put_stmt-returns-in_ok-put_block-in-If-2
put_stmt-returns-in_ok-put_block-in-If-2 t c =
    text_of_fork _ _ _ _ (stmt_view c.args.stmt.now) (expr_view c.in-If.test) (stmts_view c.as_slice.result.now) (stmts_view c.as_slice-in-If.result.now) (seen_fork c.args.stmt.now c.in-If.test c.in-If.then c.in-If.other c.as_slice.result.now c.as_slice-in-If.result.now c.in-If.is c.as_slice.ensures c.as_slice-in-If.ensures) c.in_ok-put_tagged-in-If.ensures c.in_ok-put_block-in-If.ensures c.in_ok-put_block-in-If-2.ensures

pub put_stmt-returns-in_ok-put_block-in-While : goal.put_stmt-returns-in_ok-put_block-in-While
put_stmt-returns-in_ok-put_block-in-While t c =
    text_of_stmt _ _ (stmt_view c.args.stmt.now) _ (seen_loop c.args.stmt.now c.in-While.test c.in-While.body c.as_slice-in-While.result.now c.in-While.is c.as_slice-in-While.ensures)
    (twice _ _ _ _ _ c.in_ok-put_tagged-in-While.ensures c.in_ok-put_block-in-While.ensures)

pub put_stmt-returns-in_ok-put_tagged-in-Return : goal.put_stmt-returns-in_ok-put_tagged-in-Return
put_stmt-returns-in_ok-put_tagged-in-Return t c =
    text_of_stmt _ _ (stmt_view c.args.stmt.now) (give (expr_view c.in-Return.value)) (ap stmt_view c.in-Return.is ∙ stmt_view-Return c.in-Return.value) c.in_ok-put_tagged-in-Return.ensures

pub put_stmt-returns-in_ok-put_tagged-in-Print : goal.put_stmt-returns-in_ok-put_tagged-in-Print
put_stmt-returns-in_ok-put_tagged-in-Print t c =
    text_of_stmt _ _ (stmt_view c.args.stmt.now) (print (expr_view c.in-Print.value)) (ap stmt_view c.in-Print.is ∙ stmt_view-Print c.in-Print.value) c.in_ok-put_tagged-in-Print.ensures

pub put_stmt-returns-in_ok-put_tagged-in-Assert : goal.put_stmt-returns-in_ok-put_tagged-in-Assert
put_stmt-returns-in_ok-put_tagged-in-Assert t c =
    text_of_stmt _ _ (stmt_view c.args.stmt.now) (assert (expr_view c.in-Assert.value)) (ap stmt_view c.in-Assert.is ∙ stmt_view-Assert c.in-Assert.value) c.in_ok-put_tagged-in-Assert.ensures

pub put_stmt-returns-in_ok-put_tagged-in-Eval : goal.put_stmt-returns-in_ok-put_tagged-in-Eval
put_stmt-returns-in_ok-put_tagged-in-Eval t c =
    text_of_stmt _ _ (stmt_view c.args.stmt.now) (eval (expr_view c.in-Eval.value)) (ap stmt_view c.in-Eval.is ∙ stmt_view-Eval c.in-Eval.value) c.in_ok-put_tagged-in-Eval.ensures

pub put_block-loop-stmt-preserved : goal.put_block-loop-stmt-preserved
put_block-loop-stmt-preserved t c =
    onwards {A = UnitStmt} (λ xs. spell_stmts (stmts_view xs)) (λ x. spell_stmt (stmt_view x)) c.args.stmts.now c.loop-stmt.stmt-index c.stmt-item.result _ _ _ (λ ys. refl) (omega arith) c.stmt-item.is c.loop-stmt.invariant c.in_ok-put_stmt.ensures

pub put_block-returns : goal.put_block-returns
put_block-returns t c =
    let list = all_written {A = UnitStmt} (λ xs. spell_stmts (stmts_view xs)) c.args.stmts.now c.loop-stmt.stmt-index _ _ refl c.loop-stmt-test.false c.loop-stmt.invariant in
    twice _ _ _ _ _ (c.in_ok-put_long_count.ensures ∙ ap (λ n. c.args.out.now.items ++ four n) (sym (stmt_members c.args.stmts.now))) list
