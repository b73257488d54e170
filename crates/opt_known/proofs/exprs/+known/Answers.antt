use Rattle.std.proofs.Common.{rules, ◌≡◌, [], sym, ap, ◌∙◌, arith}
use Rattle.std.specs.Prelude.{reverse}
use Rattle.unit_ir.specs.ExprView.{expr_view, exprs_view}
use Rattle.opt_slots.specs.Slots.{span, also}
use Rattle.opt_slots.specs.Writes.{expr_writes, exprs_writes}
use Rattle.opt_slots.proofs.Written.{expr_writes-Const, expr_writes-Load, expr_writes-Op2, expr_writes-And, expr_writes-Or, expr_writes-Bind}
use Rattle.opt_known.specs.Facts.{forget}
use Rattle.opt_known.specs.Known.{known_exprs}
use Rattle.opt_known.specs.Walked.{facts_of}
use Rattle.opt_slots.proofs.Ahead.{exprs_before, exprs_before-none, next_cost}
use Rattle.opt_known.proofs.Turns.{expr_done, expr_forgotten}
use Rattle.opt_known.proofs.Forgotten.{forget_nothing, forget_twice}
use Rattle.opt_known.proofs.exprs.+known.Goals as goal

pub known_expr-returns-in-Const-clause-facts : goal.known_expr-returns-in-Const-clause-facts
known_expr-returns-in-Const-clause-facts t c = cc (expr_writes-Const c.in-Const.v, forget_nothing (facts_of c.args.facts.now))

pub known_expr-returns-in-Load-clause-facts : goal.known_expr-returns-in-Load-clause-facts
known_expr-returns-in-Load-clause-facts t c = cc (expr_writes-Load c.in-Load.slot, forget_nothing (facts_of c.args.facts.now))

pub known_expr-returns-in_ok-binary-in-Op2-clause-facts :
    goal.known_expr-returns-in_ok-binary-in-Op2-clause-facts
known_expr-returns-in_ok-binary-in-Op2-clause-facts t c =
    cc (c.in_ok-a-in-Op2.ensures.facts, c.in_ok-b-in-Op2.ensures.facts, expr_writes-Op2 c.in-Op2.op c.in-Op2.a c.in-Op2.b, forget_twice (expr_writes (expr_view c.in-Op2.a)) (expr_writes (expr_view c.in-Op2.b)) (facts_of c.args.facts.now))

pub known_expr-returns-in_ok-and-in-And-clause-facts :
    goal.known_expr-returns-in_ok-and-in-And-clause-facts
known_expr-returns-in_ok-and-in-And-clause-facts t c =
    cc (c.in_ok-a-in-And.ensures.facts, c.in_ok-b-in-And.ensures.facts, expr_writes-And c.in-And.a c.in-And.b, forget_twice (expr_writes (expr_view c.in-And.a)) (expr_writes (expr_view c.in-And.b)) (facts_of c.args.facts.now))

pub known_expr-returns-in_ok-or-in-Or-clause-facts :
    goal.known_expr-returns-in_ok-or-in-Or-clause-facts
known_expr-returns-in_ok-or-in-Or-clause-facts t c =
    cc (c.in_ok-a-in-Or.ensures.facts, c.in_ok-b-in-Or.ensures.facts, expr_writes-Or c.in-Or.a c.in-Or.b, forget_twice (expr_writes (expr_view c.in-Or.a)) (expr_writes (expr_view c.in-Or.b)) (facts_of c.args.facts.now))

pub known_expr-returns-in_ok-bind-in-Bind-clause-facts :
    goal.known_expr-returns-in_ok-bind-in-Bind-clause-facts
known_expr-returns-in_ok-bind-in-Bind-clause-facts t c =
    cc (
      c.in_ok-a-in-Bind.ensures.facts,
      c.in_ok-put_row-in-Bind.ensures,
      c.in_ok-b-in-Bind.ensures.facts,
      expr_writes-Bind c.in-Bind.first c.in-Bind.count c.in-Bind.a c.in-Bind.b,
      forget_twice (span c.in-Bind.first c.in-Bind.count) (expr_writes (expr_view c.in-Bind.b)) (forget (expr_writes (expr_view c.in-Bind.a)) (facts_of c.args.facts.now)),
      forget_twice (expr_writes (expr_view c.in-Bind.a)) (also (span c.in-Bind.first c.in-Bind.count) (expr_writes (expr_view c.in-Bind.b))) (facts_of c.args.facts.now),
    )

pub known_exprs-loop-part-preserved : goal.known_exprs-loop-part-preserved
known_exprs-loop-part-preserved t c =
    let taken = c.in-Some.ensures.items in
    let cost = next_cost c.loop-part.rest.items c.pop.new.self.items c.in-Some.part taken in (
      omega (arith, cost, c.loop-part.invariant.0),
      expr_done (facts_of c.loop-part.facts) (facts_of c.known_expr.new.facts) c.loop-part.rest.items c.pop.new.self.items c.in-Some.part c.loop-part.known.items c.push.new.self.items c.in_ok-known_expr.field-0 _
          taken c.in_ok-push.ensures.items c.in_ok-known_expr.ensures.expr c.in_ok-known_expr.ensures.facts c.loop-part.invariant.1,
      expr_forgotten (facts_of c.loop-part.facts) (facts_of c.known_expr.new.facts) c.loop-part.rest.items c.pop.new.self.items c.in-Some.part _ taken c.in_ok-known_expr.ensures.facts c.loop-part.invariant.2,
    )

pub known_exprs-returns-clause-parts : goal.known_exprs-returns-clause-parts
known_exprs-returns-clause-parts t c =
    let none : c.loop-part.rest.items ≡ [] = search rules in
    ap exprs_view c.from_vec.ensures
    ∙ sym (exprs_before-none c.loop-part.known.items)
    ∙ ap (λ l. exprs_before c.loop-part.known.items (known_exprs (facts_of c.loop-part.facts) (exprs_view (reverse l)))) (sym none)
    ∙ c.loop-part.invariant.1

pub known_exprs-returns-clause-facts : goal.known_exprs-returns-clause-facts
known_exprs-returns-clause-facts t c =
    let none : c.loop-part.rest.items ≡ [] = search rules in
    sym (forget_nothing (facts_of c.loop-part.facts))
    ∙ ap (λ l. forget (exprs_writes (exprs_view (reverse l))) (facts_of c.loop-part.facts)) (sym none)
    ∙ c.loop-part.invariant.2
