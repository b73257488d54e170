use Rattle.std.proofs.Common.{◌≡◌, Ok, map, sym, ap, ◌∙◌}
use Rattle.unit_input.specs.InputView as input
use Rattle.unit_input.specs.Inputs.{PlainInput}
use Rattle.unit_input.specs.declared.function.ExternalFn.{ExternalFn}
use Rattle.unit_ir.specs.Units.{fn_view, unit_view}
use Rattle.unit_lower.specs.LoweredUnit.{lowered}
use Rattle.unit_lower.proofs.Functions.{lowered_whole, symbols_are}
use Rattle.unit_lower.proofs.Units.{lowered_unit}
use Rattle.unit_lower.proofs.unit.generate.Goals as goal

pub new-requires : goal.new-requires
new-requires c =
    let x = input.input_view c.args.unit.now in
    let symbols = c.in_ok-externals.ensures ∙ ap (map (λ (e : ExternalFn). e.symbol)) c.externals.ensures.list ∙ symbols_are c.args.unit.now.externals in
    lowered_unit x _ c.externals.ensures.rules (lowered_whole x _ _ c.in_ok-functions.ensures symbols)

pub returns-clause-unit : goal.returns-clause-unit
returns-clause-unit c =
    let x = input.input_view c.args.unit.now in
    let symbols = c.in_ok-externals.ensures ∙ ap (map (λ (e : ExternalFn). e.symbol)) c.externals.ensures.list ∙ symbols_are c.args.unit.now.externals in
    lowered_whole x _ _ c.in_ok-functions.ensures symbols ∙ ap (λ u. Ok (unit_view u)) (sym c.new.ensures)
