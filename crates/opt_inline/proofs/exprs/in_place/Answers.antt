use Rattle.std.proofs.Common.{◌+◌, ◌≤◌, sym, ◌∙◌, arith}
use Rattle.unit_ir.specs.ExprView.{expr_view, exprs_view}
use Rattle.opt_inline.specs.SmallView.{small_view}
use Rattle.opt_inline.proofs.Raised.{turned_up-raised, inlined_call-fits}
use Rattle.opt_inline.proofs.exprs.in_place.Goals as goal

pub returns-clause-expr : goal.returns-clause-expr
returns-clause-expr c =
    let low : c.args.slots.now + c.args.callee.now.slots ≤ 255 = omega arith in
    let raised_exactly = turned_up-raised c.args.callee.now.slots c.args.slots.now (expr_view c.args.callee.now.gives) c.requires (omega (arith, low)) in
    sym (
    inlined_call-fits c.args.function (exprs_view c.args.args) c.args.slots.now (small_view c.args.callee.now) low
    ∙ cc (c.in_ok-e.ensures, c.in_ok-rest.ensures, c.seq.ensures, raised_exactly)
    )
