use Rattle.std.proofs.Common.{◌≡◌, [], sym, ap, ◌∙◌, drop}
use Rattle.std.proofs.Math.ListN.{drop_of_length-le}
use Rattle.unit_ir.specs.ExprView.{expr_view}
use Rattle.unit_ir.specs.StmtView.{stmts_view}
use Rattle.opt_slots.specs.Writes.{expr_writes, stmts_writes}
use Rattle.opt_slots.specs.Slots.{slots_of, span, also}
use Rattle.opt_slots.proofs.Slots.{also_nothing, also_grouped, member_more}
use Rattle.opt_slots.proofs.Written.{stmt_writes-Store, stmt_writes-If, stmt_writes-While, stmts_writes-drop}
use Rattle.opt_slots.proofs.writes.+stmts.Goals as goal

pub note_stmt-returns-in-Store : goal.note_stmt-returns-in-Store
note_stmt-returns-in-Store t c =
    cc (stmt_writes-Store c.in-Store.first c.in-Store.count c.in-Store.e, also_grouped (slots_of c.args.written.now) (expr_writes (expr_view c.in-Store.e)) (span c.in-Store.first c.in-Store.count))

pub note_stmt-returns-in-If : goal.note_stmt-returns-in-If
note_stmt-returns-in-If t c =
    cc (
      stmt_writes-If c.in-If.e c.in-If.a c.in-If.b,
      also_grouped (also (slots_of c.args.written.now) (expr_writes (expr_view c.in-If.e))) (stmts_writes (stmts_view c.in-If.a)) (stmts_writes (stmts_view c.in-If.b)),
      also_grouped (slots_of c.args.written.now) (expr_writes (expr_view c.in-If.e)) (also (stmts_writes (stmts_view c.in-If.a)) (stmts_writes (stmts_view c.in-If.b))),
    )

pub note_stmt-returns-in-While : goal.note_stmt-returns-in-While
note_stmt-returns-in-While t c = cc (stmt_writes-While c.in-While.e c.in-While.a, also_grouped (slots_of c.args.written.now) (expr_writes (expr_view c.in-While.e)) (stmts_writes (stmts_view c.in-While.a)))

pub note_writes-loop-stmt-preserved : goal.note_writes-loop-stmt-preserved
note_writes-loop-stmt-preserved t c =
    member_more _ _ _ _ _ _ c.note_stmt.ensures (stmts_writes-drop c.args.stmts.now c.loop-stmt.stmt-index c.stmt-item.result c.loop-stmt-test.true c.stmt-item.is) c.loop-stmt.invariant

pub note_writes-returns : goal.note_writes-returns
note_writes-returns t c =
    let none : drop c.loop-stmt.stmt-index c.args.stmts.now ≡ [] = drop_of_length-le c.args.stmts.now c.loop-stmt-test.false in
    sym (also_nothing (slots_of c.loop-stmt.written)) ∙ ap (λ l. also (slots_of c.loop-stmt.written) (stmts_writes (stmts_view l))) (sym none) ∙ c.loop-stmt.invariant
