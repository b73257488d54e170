use Rattle.std.proofs.Common.{◌≡◌, ◌+◌, [], ◌∷◌, sym, ap, ◌∙◌, arith, subst, drop}
use Rattle.std.proofs.lemmas.List.{drop_more}
use Rattle.std.proofs.Math.ListN.{drop_of_length-le}
use Rattle.unit_ir.specs.ExprView.{exprs_view}
use Rattle.unit_emit.specs.Code.{Emits, exprs_code}
use Rattle.unit_emit.proofs.Arms.{and_arm, or_arm, op1_arm, op2_arm, call_arm, bind_arm}
use Rattle.unit_emit.proofs.Codes.{emits_nothing, emits_behind}
use Rattle.unit_emit.proofs.Mends.{emits_and, emits_or}
use Rattle.unit_emit.proofs.exprs.+expr.Goals as goal

pub emit_expr-returns-in_ok-put_push-in-And : goal.emit_expr-returns-in_ok-put_push-in-And
emit_expr-returns-in_ok-put_push-in-And t c =
    let made = emits_and _ _ _ _ _ _ _ _ _ _ _ _ c.in_ok-emit_expr-in-And.ensures (c.len-test.ensures ∙ c.emit_expr-in-And.new.code.ok.0) c.in_ok-put_number-in-And.ensures c.in_ok-emit_expr-in-And-2.ensures (c.len-other.ensures ∙ c.emit_expr-in-And-2.new.code.ok.0) c.in_ok-put_number-in-And-2.ensures c.in_ok-put_push-in-And.ensures c.mend.ensures c.mend-in-And.ensures in
    and_arm _ _ c.args.expr.now c.in-And.a c.in-And.b c.get-in-And.result.now c.get-in-And-2.result.now c.in-And.is c.get-in-And.ensures c.get-in-And-2.ensures made

pub emit_expr-returns-in_ok-emit_expr-in-Or-2 : goal.emit_expr-returns-in_ok-emit_expr-in-Or-2
emit_expr-returns-in_ok-emit_expr-in-Or-2 t c =
    let made = emits_or _ _ _ _ _ _ _ _ _ _ _ _ c.in_ok-emit_expr-in-Or.ensures (c.len-test-in-Or.ensures ∙ c.emit_expr-in-Or.new.code.ok.0) c.in_ok-put_number-in-Or.ensures c.in_ok-put_push-in-Or.ensures c.in_ok-put_number-in-Or-2.ensures c.in_ok-emit_expr-in-Or-2.ensures c.mend-in-Or.ensures (c.len.ensures ∙ c.mend-in-Or.new.code.ok.0) c.mend-in-Or-2.ensures in
    or_arm _ _ c.args.expr.now c.in-Or.a c.in-Or.b c.get-in-Or.result.now c.get-in-Or-2.result.now c.in-Or.is c.get-in-Or.ensures c.get-in-Or-2.ensures made

pub emit_exprs-loop-expr-preserved : goal.emit_exprs-loop-expr-preserved
emit_exprs-loop-expr-preserved t c = λ now rest.
    let here : drop c.loop-expr.expr-index c.args.exprs.now ≡ c.expr-item.result ∷ drop (c.loop-expr.expr-index + 1) c.args.exprs.now = drop_more c.args.exprs.now c.loop-expr.expr-index c.expr-item.result (omega arith) ∙ ap (λ y. y ∷ drop (c.loop-expr.expr-index + 1) c.args.exprs.now) (sym c.expr-item.is) in
    c.loop-expr.invariant now (subst (λ xs. Emits c.loop-expr.code.items (exprs_code (exprs_view xs)) now) (sym here) (emits_behind _ _ _ _ _ c.in_ok-emit_expr.ensures rest))

pub emit_expr-returns-in_ok-put-in-Op1 : goal.emit_expr-returns-in_ok-put-in-Op1
emit_expr-returns-in_ok-put-in-Op1 t c =
    op1_arm _ _ _ c.args.expr.now c.in-Op1.a c.get.result.now c.in-Op1.op c.unary_opcode.result c.in-Op1.is c.get.ensures c.unary_opcode.ensures c.in_ok-emit_expr-in-Op1.ensures c.in_ok-put-in-Op1.ensures

pub emit_expr-returns-in_ok-put-in-Op2 : goal.emit_expr-returns-in_ok-put-in-Op2
emit_expr-returns-in_ok-put-in-Op2 t c =
    op2_arm _ _ _ _ c.args.expr.now c.in-Op2.a c.in-Op2.b c.get-in-Op2.result.now c.get-in-Op2-2.result.now c.in-Op2.op c.binary_opcode.result c.in-Op2.is c.get-in-Op2.ensures c.get-in-Op2-2.ensures c.binary_opcode.ensures c.in_ok-emit_expr-in-Op2.ensures c.in_ok-emit_expr-in-Op2-2.ensures c.in_ok-put-in-Op2.ensures

pub emit_expr-returns-in_ok-put_number-in-Call : goal.emit_expr-returns-in_ok-put_number-in-Call
emit_expr-returns-in_ok-put_number-in-Call t c =
    call_arm _ _ _ c.args.expr.now c.in-Call.args c.as_slice.result.now c.in-Call.function c.in-Call.is c.as_slice.ensures c.in_ok-emit_exprs-in-Call.ensures c.in_ok-put_number-in-Call.ensures

pub emit_expr-returns-in_ok-emit_expr-in-Bind-2 : goal.emit_expr-returns-in_ok-emit_expr-in-Bind-2
emit_expr-returns-in_ok-emit_expr-in-Bind-2 t c =
    bind_arm _ _ _ _ c.args.expr.now c.in-Bind.a c.in-Bind.b c.get-in-Bind.result.now c.get-in-Bind-2.result.now c.in-Bind.first c.in-Bind.count c.in-Bind.is c.get-in-Bind.ensures c.get-in-Bind-2.ensures c.in_ok-emit_expr-in-Bind.ensures c.in_ok-put_stores-in-Bind.ensures c.in_ok-emit_expr-in-Bind-2.ensures

pub emit_exprs-returns : goal.emit_exprs-returns
emit_exprs-returns t c =
    let none : drop c.loop-expr.expr-index c.args.exprs.now ≡ [] = drop_of_length-le c.args.exprs.now c.loop-expr-test.false in
    c.loop-expr.invariant c.loop-expr.code.items (subst (λ xs. Emits c.loop-expr.code.items (exprs_code (exprs_view xs)) c.loop-expr.code.items) (sym none) (emits_nothing c.loop-expr.code.items))
