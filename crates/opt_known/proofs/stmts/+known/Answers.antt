use Rattle.std.proofs.Common.{rules, ◌≡◌, [], sym, ap, ◌∙◌, arith}
use Rattle.std.specs.Prelude.{reverse}
use Rattle.unit_ir.specs.ExprView.{expr_view}
use Rattle.unit_ir.specs.StmtView.{stmts_view}
use Rattle.opt_slots.specs.Writes.{expr_writes, stmts_writes}
use Rattle.opt_slots.proofs.Slots.{no_slot-also}
use Rattle.opt_known.specs.Known.{known_stmts}
use Rattle.opt_known.specs.Walked.{facts_of}
use Rattle.opt_slots.proofs.Ahead.{stmts_before, stmts_before-none, next_stmt_cost}
use Rattle.opt_known.proofs.Turns.{stmt_done}
use Rattle.opt_known.proofs.stmts.+known.Goals as goal

pub known_if-returns-clause-facts : goal.known_if-returns-clause-facts
known_if-returns-clause-facts t c = cc (c.in_ok-put_all.ensures, no_slot-also (stmts_writes (stmts_view c.args.a)))

pub known_while-returns-clause-facts : goal.known_while-returns-clause-facts
known_while-returns-clause-facts t c = cc (c.in_ok-put_all.ensures, no_slot-also (expr_writes (expr_view c.args.e)))

pub known_while-returns-clause-stmt : goal.known_while-returns-clause-stmt
known_while-returns-clause-stmt t c =
    cc (c.in_ok-put_all.ensures, c.in_ok-here.ensures, c.in_ok-e.ensures.expr, c.in_ok-e.ensures.facts, c.in_ok-a.ensures, no_slot-also (expr_writes (expr_view c.args.e)))

pub known_stmts-loop-stmt-preserved : goal.known_stmts-loop-stmt-preserved
known_stmts-loop-stmt-preserved t c =
    let taken = c.in-Some.ensures.items in
    let cost = next_stmt_cost c.loop-stmt.rest.items c.pop.new.self.items c.in-Some.stmt taken in (
      omega (arith, cost, c.loop-stmt.invariant.0),
      stmt_done (facts_of c.loop-stmt.facts) (facts_of c.known_stmt.new.facts) c.loop-stmt.rest.items c.pop.new.self.items c.in-Some.stmt c.loop-stmt.known.items c.push.new.self.items c.in_ok-known_stmt.field-0 _
          taken c.in_ok-push.ensures.items c.in_ok-known_stmt.ensures.stmt c.in_ok-known_stmt.ensures.facts c.loop-stmt.invariant.1,
    )

pub known_stmts-returns : goal.known_stmts-returns
known_stmts-returns t c =
    let none : c.loop-stmt.rest.items ≡ [] = search rules in
    ap stmts_view c.from_vec.ensures
    ∙ sym (stmts_before-none c.loop-stmt.known.items)
    ∙ ap (λ l. stmts_before c.loop-stmt.known.items (known_stmts (facts_of c.loop-stmt.facts) (stmts_view (reverse l)))) (sym none)
    ∙ c.loop-stmt.invariant.1
