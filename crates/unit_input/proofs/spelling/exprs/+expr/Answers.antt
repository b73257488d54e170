use Rattle.std.proofs.Common.{length, refl, sym, ap, ◌∙◌, arith}
use Rattle.unit_input.specs.declared.expr.UnitExpr.{UnitExpr}
use Rattle.unit_input.specs.Exprs.{truth, local}
use Rattle.unit_input.specs.InputView.{expr_view, exprs_view}
use Rattle.unit_input.specs.Spelling.{spell_expr, spell_exprs}
use Rattle.unit_input.proofs.Seen.{seen_field, seen_tuple, seen_unary, seen_binary, seen_call}
use Rattle.unit_input.proofs.Views.{expr_view-Bool, expr_view-Local}
use Rattle.unit_input.proofs.Written.{twice, text_of, text_of_field, text_of_unary, text_of_binary, text_of_tuple, text_of_call, onwards, all_written}
use Rattle.unit_input.proofs.spelling.exprs.+expr.Goals as goal

pub put_expr-returns-in_ok-put_truth-in-Bool : goal.put_expr-returns-in_ok-put_truth-in-Bool
put_expr-returns-in_ok-put_truth-in-Bool t c =
    text_of _ _ (expr_view c.args.expr.now) (truth c.in-Bool.value) (ap expr_view c.in-Bool.is ∙ expr_view-Bool c.in-Bool.value) (twice _ _ _ _ _ c.in_ok-put_byte-in-Bool.ensures c.in_ok-put_truth-in-Bool.ensures)

pub put_expr-returns-in_ok-put_four-in-Local : goal.put_expr-returns-in_ok-put_four-in-Local
put_expr-returns-in_ok-put_four-in-Local t c =
    text_of _ _ (expr_view c.args.expr.now) (local c.in-Local.number) (ap expr_view c.in-Local.is ∙ expr_view-Local c.in-Local.number) (twice _ _ _ _ _ c.in_ok-put_byte-in-Local.ensures c.in_ok-put_four-in-Local.ensures)

pub put_expr-returns-in_ok-put_expr-in-Field : goal.put_expr-returns-in_ok-put_expr-in-Field
put_expr-returns-in_ok-put_expr-in-Field t c =
    text_of_field _ _ _ _ _ (expr_view c.args.expr.now) c.in-Field.offset c.in-Field.width _ (seen_field c.args.expr.now c.in-Field.value c.get.result.now c.in-Field.offset c.in-Field.width c.in-Field.is c.get.ensures) c.in_ok-put_byte-in-Field.ensures c.in_ok-put_two-in-Field.ensures c.in_ok-put_two-in-Field-2.ensures c.in_ok-put_expr-in-Field.ensures

pub put_expr-returns-in_ok-put_exprs-in-Tuple : goal.put_expr-returns-in_ok-put_exprs-in-Tuple
put_expr-returns-in_ok-put_exprs-in-Tuple t c =
    text_of_tuple _ _ _ _ (expr_view c.args.expr.now) c.as_slice.result.now c.len.result (seen_tuple c.args.expr.now c.in-Tuple.parts c.as_slice.result.now c.in-Tuple.is c.as_slice.ensures) (c.len.ensures ∙ ap length (sym c.as_slice.ensures)) c.in_ok-put_byte-in-Tuple.ensures c.in_ok-put_count-in-Tuple.ensures c.in_ok-put_exprs-in-Tuple.ensures

pub put_expr-returns-in_ok-put_expr-in-Unary : goal.put_expr-returns-in_ok-put_expr-in-Unary
put_expr-returns-in_ok-put_expr-in-Unary t c =
    text_of_unary _ _ _ _ (expr_view c.args.expr.now) c.in-Unary.op c.byte.result _ (seen_unary c.args.expr.now c.in-Unary.value c.get-in-Unary.result.now c.in-Unary.op c.in-Unary.is c.get-in-Unary.ensures) c.byte.ensures c.in_ok-put_byte-in-Unary.ensures c.in_ok-put_byte-in-Unary-2.ensures c.in_ok-put_expr-in-Unary.ensures

pub put_expr-returns-in_ok-put_expr-in-Binary-2 : goal.put_expr-returns-in_ok-put_expr-in-Binary-2
put_expr-returns-in_ok-put_expr-in-Binary-2 t c =
    text_of_binary _ _ _ _ _ (expr_view c.args.expr.now) c.in-Binary.op c.byte-in-Binary.result _ _ (seen_binary c.args.expr.now c.in-Binary.left c.in-Binary.right c.get-in-Binary.result.now c.get-in-Binary-2.result.now c.in-Binary.op c.in-Binary.is c.get-in-Binary.ensures c.get-in-Binary-2.ensures) c.byte-in-Binary.ensures c.in_ok-put_byte-in-Binary.ensures c.in_ok-put_byte-in-Binary-2.ensures c.in_ok-put_expr-in-Binary.ensures c.in_ok-put_expr-in-Binary-2.ensures

pub put_expr-returns-in_ok-put_exprs-in-Call : goal.put_expr-returns-in_ok-put_exprs-in-Call
put_expr-returns-in_ok-put_exprs-in-Call t c =
    text_of_call _ _ _ _ _ (expr_view c.args.expr.now) c.in-Call.callee c.as_slice-in-Call.result.now c.len-in-Call.result (seen_call c.args.expr.now c.in-Call.args c.as_slice-in-Call.result.now c.in-Call.callee c.in-Call.is c.as_slice-in-Call.ensures) (c.len-in-Call.ensures ∙ ap length (sym c.as_slice-in-Call.ensures)) c.in_ok-put_byte-in-Call.ensures c.in_ok-put_four-in-Call.ensures c.in_ok-put_count-in-Call.ensures c.in_ok-put_exprs-in-Call.ensures

pub put_exprs-loop-expr-preserved : goal.put_exprs-loop-expr-preserved
put_exprs-loop-expr-preserved t c =
    onwards {A = UnitExpr} (λ xs. spell_exprs (exprs_view xs)) (λ x. spell_expr (expr_view x)) c.args.exprs.now c.loop-expr.expr-index c.expr-item.result _ _ _ (λ ys. refl) (omega arith) c.expr-item.is c.loop-expr.invariant c.in_ok-put_expr.ensures

pub put_exprs-returns : goal.put_exprs-returns
put_exprs-returns t c =
    all_written {A = UnitExpr} (λ xs. spell_exprs (exprs_view xs)) c.args.exprs.now c.loop-expr.expr-index _ _ refl c.loop-expr-test.false c.loop-expr.invariant
