use Rattle.std.proofs.Common.{rules, ◌≡◌, [], sym, ap, ◌∙◌, arith}
use Rattle.std.specs.Prelude.{reverse}
use Rattle.unit_ir.specs.StmtView.{stmts_view}
use Rattle.opt_slots.proofs.Ahead.{stmts_before, stmts_before-none, next_stmt_cost}
use Rattle.opt_inline.specs.Inline.{inlined_stmts}
use Rattle.opt_inline.specs.SmallView.{smalls_view}
use Rattle.opt_inline.proofs.Turns.{stmt_done, stmt_counted}
use Rattle.opt_inline.proofs.stmts.+inlined.Goals as goal

pub inlined_stmts-loop-stmt-preserved : goal.inlined_stmts-loop-stmt-preserved
inlined_stmts-loop-stmt-preserved t c =
    let taken = c.in-Some.ensures.items in
    let cost = next_stmt_cost c.loop-stmt.rest.items c.pop.new.self.items c.in-Some.stmt taken in (
      omega (arith, cost, c.loop-stmt.invariant.0),
      stmt_done (smalls_view c.args.small.now) c.loop-stmt.slots c.inlined_stmt.new.slots c.loop-stmt.rest.items c.pop.new.self.items c.in-Some.stmt c.loop-stmt.done.items c.push.new.self.items c.in_ok-inlined_stmt.field-0 _
          taken c.in_ok-push.ensures.items c.in_ok-inlined_stmt.ensures.stmt c.in_ok-inlined_stmt.ensures.slots c.loop-stmt.invariant.1,
      stmt_counted (smalls_view c.args.small.now) c.loop-stmt.slots c.inlined_stmt.new.slots c.loop-stmt.rest.items c.pop.new.self.items c.in-Some.stmt _ taken c.in_ok-inlined_stmt.ensures.slots c.loop-stmt.invariant.2,
    )

pub inlined_stmts-returns-clause-list : goal.inlined_stmts-returns-clause-list
inlined_stmts-returns-clause-list t c =
    let none : c.loop-stmt.rest.items ≡ [] = search rules in
    ap stmts_view c.from_vec.ensures
    ∙ sym (stmts_before-none c.loop-stmt.done.items)
    ∙ ap (λ l. stmts_before c.loop-stmt.done.items (inlined_stmts (smalls_view c.args.small.now) c.loop-stmt.slots (stmts_view (reverse l)))) (sym none)
    ∙ c.loop-stmt.invariant.1
