use Rattle.std.proofs.Common.{◌≡◌, [], ap, drop, map, arith}
use Rattle.std.proofs.Math.ListN.{drop_of_length-le}
use Rattle.unit_ir.specs.Cost.{functions_cost}
use Rattle.unit_ir.specs.Units.{fn_view}
use Rattle.unit_ir.proofs.work.cost.Goals as goal

pub returns : goal.returns
returns c =
    let none : drop c.loop-function.function-index c.functions-function-items.result.now ≡ [] = drop_of_length-le c.functions-function-items.result.now c.loop-function-test.false in
    omega (arith, ap (λ xs. functions_cost (map fn_view xs)) none, c.loop-function.invariant.0, c.loop-function.invariant.1, ap (λ xs. functions_cost (map fn_view xs)) c.functions-function-items.ensures.list)
