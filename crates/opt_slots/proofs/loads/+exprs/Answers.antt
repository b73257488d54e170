use Rattle.std.proofs.Common.{◌≡◌, [], sym, ap, ◌∙◌, drop}
use Rattle.std.proofs.Math.ListN.{drop_of_length-le}
use Rattle.unit_ir.specs.ExprView.{expr_view, exprs_view}
use Rattle.opt_slots.specs.Loads.{expr_loads, exprs_loads}
use Rattle.opt_slots.specs.Slots.{slots_of, also}
use Rattle.opt_slots.proofs.Slots.{also_nothing, also_grouped, member_more}
use Rattle.opt_slots.proofs.Loaded.{expr_loads-Const, expr_loads-Op2, expr_loads-And, expr_loads-Or, expr_loads-Bind, exprs_loads-drop}
use Rattle.opt_slots.proofs.loads.+exprs.Goals as goal

pub note_expr-returns-in-Const : goal.note_expr-returns-in-Const
note_expr-returns-in-Const t c = cc (expr_loads-Const c.in-Const.field-0, also_nothing (slots_of c.args.loaded.now))

pub note_expr-returns-in-Op2 : goal.note_expr-returns-in-Op2
note_expr-returns-in-Op2 t c = cc (expr_loads-Op2 c.in-Op2.field-0 c.in-Op2.a c.in-Op2.b, also_grouped (slots_of c.args.loaded.now) (expr_loads (expr_view c.in-Op2.a)) (expr_loads (expr_view c.in-Op2.b)))

pub note_expr-returns-in-And : goal.note_expr-returns-in-And
note_expr-returns-in-And t c = cc (expr_loads-And c.in-And.a c.in-And.b, also_grouped (slots_of c.args.loaded.now) (expr_loads (expr_view c.in-And.a)) (expr_loads (expr_view c.in-And.b)))

pub note_expr-returns-in-Or : goal.note_expr-returns-in-Or
note_expr-returns-in-Or t c = cc (expr_loads-Or c.in-Or.a c.in-Or.b, also_grouped (slots_of c.args.loaded.now) (expr_loads (expr_view c.in-Or.a)) (expr_loads (expr_view c.in-Or.b)))

pub note_expr-returns-in-Bind : goal.note_expr-returns-in-Bind
note_expr-returns-in-Bind t c = cc (expr_loads-Bind c.in-Bind.field-0 c.in-Bind.field-1 c.in-Bind.a c.in-Bind.b, also_grouped (slots_of c.args.loaded.now) (expr_loads (expr_view c.in-Bind.a)) (expr_loads (expr_view c.in-Bind.b)))

pub note_exprs-loop-expr-preserved : goal.note_exprs-loop-expr-preserved
note_exprs-loop-expr-preserved t c =
    member_more _ _ _ _ _ _ c.note_expr.ensures (exprs_loads-drop c.args.exprs.now c.loop-expr.expr-index c.expr-item.result c.loop-expr-test.true c.expr-item.is) c.loop-expr.invariant

pub note_exprs-returns : goal.note_exprs-returns
note_exprs-returns t c =
    let none : drop c.loop-expr.expr-index c.args.exprs.now ≡ [] = drop_of_length-le c.args.exprs.now c.loop-expr-test.false in
    sym (also_nothing (slots_of c.loop-expr.loaded)) ∙ ap (λ l. also (slots_of c.loop-expr.loaded) (exprs_loads (exprs_view l))) (sym none) ∙ c.loop-expr.invariant
