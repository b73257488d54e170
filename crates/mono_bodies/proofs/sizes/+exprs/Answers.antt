use Rattle.std.proofs.Common.{◌≡◌, [], ap, drop, arith}
use Rattle.std.proofs.Math.ListN.{drop_of_length-le}
use Rattle.lar_typed.specs.Size.{exprs_size}
use Rattle.lar_typed.specs.ExprView.{exprs_view}
use Rattle.mono_bodies.proofs.sizes.+exprs.Goals as goal

pub with_exprs-returns : goal.with_exprs-returns
with_exprs-returns t c =
    let none : drop c.loop-expr.expr-index c.args.exprs.now ≡ [] = drop_of_length-le c.args.exprs.now c.loop-expr-test.false in
    omega (arith, ap (λ xs. exprs_size (exprs_view xs)) none, c.loop-expr.invariant.0, c.loop-expr.invariant.1)
