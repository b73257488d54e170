use Rattle.std.proofs.Common.{refl, arith, map}
use Rattle.std.specs.List.{flat_map}
use Rattle.unit_input.specs.declared.function.UnitFn.{UnitFn}
use Rattle.unit_input.specs.InputView.{fn_view}
use Rattle.unit_input.specs.Spelling.{spell_fn}
use Rattle.unit_input.proofs.Written.{twice, onwards, all_written}
use Rattle.unit_input.proofs.spelling.put_functions.Goals as goal

pub loop-function-preserved : goal.loop-function-preserved
loop-function-preserved c =
    onwards {A = UnitFn} (λ xs. flat_map spell_fn (map fn_view xs)) (λ x. spell_fn (fn_view x)) c.args.functions.now c.loop-function.function-index c.function-item.result _ _ _ (λ ys. refl) (omega arith) c.function-item.is c.loop-function.invariant c.in_ok-put_function.ensures

pub returns : goal.returns
returns c =
    let list = all_written {A = UnitFn} (λ xs. flat_map spell_fn (map fn_view xs)) c.args.functions.now c.loop-function.function-index _ _ refl c.loop-function-test.false c.loop-function.invariant in
    twice _ _ _ _ _ c.in_ok-put_long_count.ensures list
