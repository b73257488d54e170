use Rattle.std.proofs.Common.{refl, arith, map}
use Rattle.std.specs.List.{flat_map}
use Rattle.unit_input.specs.declared.function.ExternalFn.{ExternalFn}
use Rattle.unit_input.specs.InputView.{external_view}
use Rattle.unit_input.specs.Spelling.{spell_external}
use Rattle.unit_input.proofs.Written.{twice, onwards, all_written}
use Rattle.unit_input.proofs.spelling.put_externals.Goals as goal

pub loop-external-preserved : goal.loop-external-preserved
loop-external-preserved c =
    onwards {A = ExternalFn} (λ xs. flat_map spell_external (map external_view xs)) (λ x. spell_external (external_view x)) c.args.externals.now c.loop-external.external-index c.external-item.result _ _ _ (λ ys. refl) (omega arith) c.external-item.is c.loop-external.invariant c.in_ok-put_external.ensures

pub returns : goal.returns
returns c =
    let list = all_written {A = ExternalFn} (λ xs. flat_map spell_external (map external_view xs)) c.args.externals.now c.loop-external.external-index _ _ refl c.loop-external-test.false c.loop-external.invariant in
    twice _ _ _ _ _ c.in_ok-put_long_count.ensures list
