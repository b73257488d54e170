use Rattle.std.proofs.Common.{◌≡◌, Some, None, refl, sym, ap, ◌∙◌, rules, arith}
use Rattle.unit_input.specs.InputView as input
use Rattle.unit_input.specs.Widths.{params_width}
use Rattle.unit_lower.specs.ScopeView.{scope_in}
use Rattle.unit_lower.specs.Assertions.{assertions, first_failure}
use Rattle.unit_lower.proofs.Functions.{narrow_params, made_fn, whole_fn}
use Rattle.unit_lower.proofs.unit.lowered_fn.Goals as goal

pub overflow_cast-result : goal.overflow_cast-result
overflow_cast-result c =
    let le = narrow_params (scope_in c.args.callees.now (input.fn_view c.args.f.now)) (input.fn_view c.args.f.now) refl c.in-Ok.ensures.narrow in
    omega (arith, le, c.params_width.ensures)

pub returns : goal.returns
returns c =
    let s = scope_in c.args.callees.now (input.fn_view c.args.f.now) in
    let f = input.fn_view c.args.f.now in
    let le = narrow_params s f refl c.in-Ok.ensures.narrow in
    let params : c.params_width.result ≡ params_width f = omega (arith, le, c.params_width.ensures) in
    let made = made_fn s f _ (c.in_ok-copied.ensures ∙ c.as_str.ensures.text) refl params refl c.in-Ok.ensures.slots c.in-Ok.ensures.body in
    let none = ap (λ xs. first_failure 0 (assertions (input.stmts_view xs))) (sym c.as_slice.ensures) ∙ sym c.in-None.ensures.failure in
    whole_fn s f _ made none c.in-Ok.ensures.narrow
