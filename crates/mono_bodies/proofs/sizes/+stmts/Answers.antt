use Rattle.std.proofs.Common.{◌≡◌, [], ap, drop, arith}
use Rattle.std.proofs.Math.ListN.{drop_of_length-le}
use Rattle.lar_typed.specs.Size.{stmts_size}
use Rattle.lar_typed.specs.StmtView.{stmts_view}
use Rattle.mono_bodies.proofs.sizes.+stmts.Goals as goal

pub with_stmts-returns : goal.with_stmts-returns
with_stmts-returns t c =
    let none : drop c.loop-stmt.stmt-index c.args.stmts.now ≡ [] = drop_of_length-le c.args.stmts.now c.loop-stmt-test.false in
    omega (arith, ap (λ xs. stmts_size (stmts_view xs)) none, c.loop-stmt.invariant.0, c.loop-stmt.invariant.1)
