use Rattle.std.proofs.Common.{◌≡◌, ◌+◌, map, sym, ap, subst, arith}
use Rattle.std.specs.List.{AllByRecursion}
use Rattle.unit_input.specs.InputView as input
use Rattle.unit_input.specs.Widths.{scope_of}
use Rattle.unit_input.specs.Rules.{IsFn}
use Rattle.unit_lower.proofs.Functions.{turn, item_is, all_lowered}
use Rattle.unit_lower.proofs.unit.lowered_fns.Goals as goal

pub lowered_fn-requires : goal.lowered_fn-requires
lowered_fn-requires c =
    let x = input.input_view c.args.unit.now in
    let all = subst (λ fs. AllByRecursion (λ f. IsFn (scope_of x f) f) (map input.fn_view fs)) (sym c.functions-functions.ensures.list) c.functions-functions.ensures.rules.functions in
    item_is x _ _ _ _ c.requires all c.loop-f-test.true c.f-item.is

pub loop-f-preserved : goal.loop-f-preserved
loop-f-preserved c =
    let next = turn (input.input_view c.args.unit.now) _ _ _ _ _ _ _ c.requires c.loop-f-test.true c.f-item.is c.in-Ok.ensures c.in_ok-push-in-Ok.ensures.ok c.loop-f.invariant.1 c.loop-f.invariant.2 in
    (omega (arith, c.loop-f.invariant.0), next.0, next.1)

pub returns : goal.returns
returns c =
    all_lowered (input.input_view c.args.unit.now) _ _ _ (ap (map input.fn_view) (sym c.functions-functions.ensures.list)) c.loop-f-test.false c.loop-f.invariant.1 c.loop-f.invariant.2
