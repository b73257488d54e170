use Rattle.std.proofs.Common.{◌≡◌, [], sym, ap, ◌∙◌, drop}
use Rattle.std.proofs.Math.ListN.{drop_of_length-le}
use Rattle.unit_ir.specs.ExprView.{expr_view}
use Rattle.unit_ir.specs.StmtView.{stmts_view}
use Rattle.opt_slots.specs.Loads.{expr_loads, stmts_loads}
use Rattle.opt_slots.specs.Slots.{slots_of, also}
use Rattle.opt_slots.proofs.Slots.{also_nothing, also_grouped, member_more}
use Rattle.opt_slots.proofs.Loaded.{stmt_loads-If, stmt_loads-While, stmts_loads-drop}
use Rattle.opt_slots.proofs.loads.+stmts.Goals as goal

pub note_stmt-returns-in-If : goal.note_stmt-returns-in-If
note_stmt-returns-in-If t c =
    cc (
      stmt_loads-If c.in-If.e c.in-If.a c.in-If.b,
      also_grouped (also (slots_of c.args.loaded.now) (expr_loads (expr_view c.in-If.e))) (stmts_loads (stmts_view c.in-If.a)) (stmts_loads (stmts_view c.in-If.b)),
      also_grouped (slots_of c.args.loaded.now) (expr_loads (expr_view c.in-If.e)) (also (stmts_loads (stmts_view c.in-If.a)) (stmts_loads (stmts_view c.in-If.b))),
    )

pub note_stmt-returns-in-While : goal.note_stmt-returns-in-While
note_stmt-returns-in-While t c = cc (stmt_loads-While c.in-While.e c.in-While.a, also_grouped (slots_of c.args.loaded.now) (expr_loads (expr_view c.in-While.e)) (stmts_loads (stmts_view c.in-While.a)))

pub note_loads-loop-stmt-preserved : goal.note_loads-loop-stmt-preserved
note_loads-loop-stmt-preserved t c =
    member_more _ _ _ _ _ _ c.note_stmt.ensures (stmts_loads-drop c.args.stmts.now c.loop-stmt.stmt-index c.stmt-item.result c.loop-stmt-test.true c.stmt-item.is) c.loop-stmt.invariant

pub note_loads-returns : goal.note_loads-returns
note_loads-returns t c =
    let none : drop c.loop-stmt.stmt-index c.args.stmts.now ≡ [] = drop_of_length-le c.args.stmts.now c.loop-stmt-test.false in
    sym (also_nothing (slots_of c.loop-stmt.loaded)) ∙ ap (λ l. also (slots_of c.loop-stmt.loaded) (stmts_loads (stmts_view l))) (sym none) ∙ c.loop-stmt.invariant
