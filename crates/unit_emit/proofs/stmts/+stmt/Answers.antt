use Rattle.std.proofs.Common.{◌≡◌, ◌+◌, List, [], ◌∷◌, sym, ap, ◌∙◌, arith, subst, drop, Bool, true, false}
use Rattle.std.specs.Prelude.{◌↔◌, IsTrue}
use Rattle.std.proofs.lemmas.List.{drop_more}
use Rattle.std.proofs.Math.ListN.{drop_of_length-le}
use Rattle.unit_ir.specs.StmtView.{stmts_view}
use Rattle.unit_emit.specs.Code.{Emits, stmts_code}
use Rattle.unit_emit.proofs.Codes.{emits_nothing, emits_behind}
use Rattle.unit_emit.proofs.Mends.{emits_if, emits_else, emits_while}
use Rattle.unit_emit.proofs.StmtArms.{store_arm, give_arm, print_arm, eval_arm, if_arm, else_arm, while_arm}
use Rattle.unit_emit.proofs.stmts.+stmt.Goals as goal

empty_if : {A : Type 0} (b : List A) (f : Bool) → (IsTrue f ↔ (b ≡ [])) → f ≡ true → b ≡ []
empty_if b f says is = says.0 is

full_if : {A : Type 0} (b : List A) (f : Bool) → (IsTrue f ↔ (b ≡ [])) → f ≡ false → b ≡ [] → ⊥
full_if b f says is none = let yes = says.1 none in absurd cc

pub emit_stmt-returns-in_ok-put_stores-in-Store : goal.emit_stmt-returns-in_ok-put_stores-in-Store
emit_stmt-returns-in_ok-put_stores-in-Store t c =
    store_arm _ _ _ c.args.stmt.now c.in-Store.first c.in-Store.count c.in-Store.e c.in-Store.is c.in_ok-emit_expr-in-Store.ensures c.in_ok-put_stores-in-Store.ensures

pub emit_stmt-returns-in_ok-put-in-Return : goal.emit_stmt-returns-in_ok-put-in-Return
emit_stmt-returns-in_ok-put-in-Return t c = give_arm _ _ _ c.args.stmt.now c.in-Return.e c.in-Return.is c.in_ok-emit_expr-in-Return.ensures c.in_ok-put-in-Return.ensures

pub emit_stmt-returns-in_ok-put-in-Print : goal.emit_stmt-returns-in_ok-put-in-Print
emit_stmt-returns-in_ok-put-in-Print t c = print_arm _ _ _ c.args.stmt.now c.in-Print.e c.in-Print.is c.in_ok-emit_expr-in-Print.ensures c.in_ok-put-in-Print.ensures

pub emit_stmt-returns-in_ok-put_pops-in-Eval : goal.emit_stmt-returns-in_ok-put_pops-in-Eval
emit_stmt-returns-in_ok-put_pops-in-Eval t c = eval_arm _ _ _ c.args.stmt.now c.in-Eval.e c.in-Eval.count c.in-Eval.is c.in_ok-emit_expr-in-Eval.ensures c.in_ok-put_pops-in-Eval.ensures

pub emit_stmt-returns-in_ok-emit_stmts-in-If : goal.emit_stmt-returns-in_ok-emit_stmts-in-If
emit_stmt-returns-in_ok-emit_stmts-in-If t c =
    let made = emits_if _ _ _ _ _ _ _ _ _ c.in_ok-emit_expr-in-If.ensures (c.len-test.ensures ∙ c.emit_expr-then-is_empty.new.code.ok.0) c.in_ok-put_number-in-If.ensures c.in_ok-emit_stmts-in-If.ensures (c.len-end.ensures ∙ c.emit_stmts.new.code.ok.0) c.mend.ensures in
    if_arm _ _ c.args.stmt.now c.in-If.e c.in-If.a c.in-If.b c.as_slice.result.now c.in-If.is c.as_slice.ensures (empty_if _ _ c.is_empty.ensures c.if-is_empty.true) made

pub emit_stmt-returns-in_ok-emit_stmts-in-If-3 : goal.emit_stmt-returns-in_ok-emit_stmts-in-If-3
emit_stmt-returns-in_ok-emit_stmts-in-If-3 t c =
    let made = emits_else _ _ _ _ _ _ _ _ _ _ _ _ _ _ c.in_ok-emit_expr-in-If-2.ensures (c.len-test-else-is_empty.ensures ∙ c.emit_expr-else-is_empty.new.code.ok.0) c.in_ok-put_number-in-If-2.ensures c.in_ok-emit_stmts-in-If-2.ensures (c.len-other.ensures ∙ c.emit_stmts-else-is_empty.new.code.ok.0) c.in_ok-put_number-in-If-3.ensures c.in_ok-emit_stmts-in-If-3.ensures (c.len-end-else-is_empty.ensures ∙ c.emit_stmts-else-is_empty-2.new.code.ok.0) c.mend-else-is_empty.ensures c.mend-else-is_empty-2.ensures in
    else_arm _ _ c.args.stmt.now c.in-If.e c.in-If.a c.in-If.b c.as_slice-else-is_empty.result.now c.as_slice-else-is_empty-2.result.now c.in-If.is c.as_slice-else-is_empty.ensures c.as_slice-else-is_empty-2.ensures (full_if _ _ c.is_empty.ensures c.if-is_empty.false) made

pub emit_stmt-returns-in_ok-put_number-in-While-2 : goal.emit_stmt-returns-in_ok-put_number-in-While-2
emit_stmt-returns-in_ok-put_number-in-While-2 t c =
    let made = emits_while _ _ _ _ _ _ _ _ _ _ _ _ (c.len-start.ensures ∙ c.args.code.now.ok.0) c.in_ok-emit_expr-in-While.ensures (c.len-test-in-While.ensures ∙ c.emit_expr-in-While.new.code.ok.0) c.in_ok-put_number-in-While.ensures c.in_ok-emit_stmts-in-While.ensures (c.len-other-in-While.ensures ∙ c.emit_stmts-in-While.new.code.ok.0) c.in_ok-put_number-in-While-2.ensures c.mend-in-While.ensures c.mend-in-While-2.ensures in
    while_arm _ _ c.args.stmt.now c.in-While.e c.in-While.a c.as_slice-in-While.result.now c.in-While.is c.as_slice-in-While.ensures made

pub emit_stmts-loop-stmt-preserved : goal.emit_stmts-loop-stmt-preserved
emit_stmts-loop-stmt-preserved t c = λ now rest.
    let here : drop c.loop-stmt.stmt-index c.args.stmts.now ≡ c.stmt-item.result ∷ drop (c.loop-stmt.stmt-index + 1) c.args.stmts.now = drop_more c.args.stmts.now c.loop-stmt.stmt-index c.stmt-item.result (omega arith) ∙ ap (λ y. y ∷ drop (c.loop-stmt.stmt-index + 1) c.args.stmts.now) (sym c.stmt-item.is) in
    c.loop-stmt.invariant now (subst (λ xs. Emits c.loop-stmt.code.items (stmts_code (stmts_view xs)) now) (sym here) (emits_behind _ _ _ _ _ c.in_ok-emit_stmt.ensures rest))

pub emit_stmts-returns : goal.emit_stmts-returns
emit_stmts-returns t c =
    let none : drop c.loop-stmt.stmt-index c.args.stmts.now ≡ [] = drop_of_length-le c.args.stmts.now c.loop-stmt-test.false in
    c.loop-stmt.invariant c.loop-stmt.code.items (subst (λ xs. Emits c.loop-stmt.code.items (stmts_code (stmts_view xs)) c.loop-stmt.code.items) (sym none) (emits_nothing c.loop-stmt.code.items))
