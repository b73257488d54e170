use Rattle.std.proofs.Common.{◌≡◌, [], sym, ap, ◌∙◌, drop}
use Rattle.std.proofs.Math.ListN.{drop_of_length-le}
use Rattle.unit_ir.specs.ExprView.{expr_view, exprs_view}
use Rattle.opt_slots.specs.Writes.{expr_writes, exprs_writes}
use Rattle.opt_slots.specs.Slots.{slots_of, span, also}
use Rattle.opt_slots.proofs.Slots.{also_nothing, also_grouped, member_more}
use Rattle.opt_slots.proofs.Written.{expr_writes-Const, expr_writes-Load, expr_writes-Op2, expr_writes-And, expr_writes-Or, expr_writes-Bind, exprs_writes-drop}
use Rattle.opt_slots.proofs.writes.+exprs.Goals as goal

pub note_expr_writes-returns-in-Const : goal.note_expr_writes-returns-in-Const
note_expr_writes-returns-in-Const t c = cc (expr_writes-Const c.in-Const.field-0, also_nothing (slots_of c.args.written.now))

pub note_expr_writes-returns-in-Load : goal.note_expr_writes-returns-in-Load
note_expr_writes-returns-in-Load t c = cc (expr_writes-Load c.in-Load.field-0, also_nothing (slots_of c.args.written.now))

pub note_expr_writes-returns-in-Op2 : goal.note_expr_writes-returns-in-Op2
note_expr_writes-returns-in-Op2 t c = cc (expr_writes-Op2 c.in-Op2.field-0 c.in-Op2.a c.in-Op2.b, also_grouped (slots_of c.args.written.now) (expr_writes (expr_view c.in-Op2.a)) (expr_writes (expr_view c.in-Op2.b)))

pub note_expr_writes-returns-in-And : goal.note_expr_writes-returns-in-And
note_expr_writes-returns-in-And t c = cc (expr_writes-And c.in-And.a c.in-And.b, also_grouped (slots_of c.args.written.now) (expr_writes (expr_view c.in-And.a)) (expr_writes (expr_view c.in-And.b)))

pub note_expr_writes-returns-in-Or : goal.note_expr_writes-returns-in-Or
note_expr_writes-returns-in-Or t c = cc (expr_writes-Or c.in-Or.a c.in-Or.b, also_grouped (slots_of c.args.written.now) (expr_writes (expr_view c.in-Or.a)) (expr_writes (expr_view c.in-Or.b)))

pub note_expr_writes-returns-in-Bind : goal.note_expr_writes-returns-in-Bind
note_expr_writes-returns-in-Bind t c =
    cc (
      expr_writes-Bind c.in-Bind.first c.in-Bind.count c.in-Bind.a c.in-Bind.b,
      also_grouped (also (slots_of c.args.written.now) (expr_writes (expr_view c.in-Bind.a))) (span c.in-Bind.first c.in-Bind.count) (expr_writes (expr_view c.in-Bind.b)),
      also_grouped (slots_of c.args.written.now) (expr_writes (expr_view c.in-Bind.a)) (also (span c.in-Bind.first c.in-Bind.count) (expr_writes (expr_view c.in-Bind.b))),
    )

pub note_exprs_writes-loop-expr-preserved : goal.note_exprs_writes-loop-expr-preserved
note_exprs_writes-loop-expr-preserved t c =
    member_more _ _ _ _ _ _ c.note_expr_writes.ensures (exprs_writes-drop c.args.exprs.now c.loop-expr.expr-index c.expr-item.result c.loop-expr-test.true c.expr-item.is) c.loop-expr.invariant

pub note_exprs_writes-returns : goal.note_exprs_writes-returns
note_exprs_writes-returns t c =
    let none : drop c.loop-expr.expr-index c.args.exprs.now ≡ [] = drop_of_length-le c.args.exprs.now c.loop-expr-test.false in
    sym (also_nothing (slots_of c.loop-expr.written)) ∙ ap (λ l. also (slots_of c.loop-expr.written) (exprs_writes (exprs_view l))) (sym none) ∙ c.loop-expr.invariant
