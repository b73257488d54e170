use Rattle.std.proofs.Common.{◌≡◌, ◌<◌, false, refl, rules, arith}
use Rattle.std.specs.Prelude.{sum}
use Rattle.unit_input.specs.InputView as input
use Rattle.unit_lower.specs.ScopeView.{scope_in}
use Rattle.unit_lower.specs.Wide.{are_wide_stmts}
use Rattle.unit_lower.specs.LoweredUnit.{lowered_body}
use Rattle.unit_lower.proofs.Functions.{locals_over, body_narrow}
use Rattle.unit_lower.proofs.unit.lowered_body.Goals as goal

pub returns-in_err-scope-clause-wide : goal.returns-in_err-scope-clause-wide
returns-in_err-scope-clause-wide c = λ h.
    let over : 255 < sum c.args.f.now.locals = search rules in
    locals_over (scope_in c.args.callees.now (input.fn_view c.args.f.now)) (input.fn_view c.args.f.now) refl over

pub returns-clause-narrow : goal.returns-clause-narrow
returns-clause-narrow c =
    let s = scope_in c.args.callees.now (input.fn_view c.args.f.now) in
    let next : c.in_ok-slots.slots ≡ (lowered_body s (input.fn_view c.args.f.now)).next = search rules in
    let narrow : are_wide_stmts s (input.fn_view c.args.f.now).body ≡ false = search rules in
    body_narrow s (input.fn_view c.args.f.now) _ _ c.in_ok-raised.ensures.sum c.in_ok-raised.ensures.small next c.in_ok-slots.ensures.small narrow
