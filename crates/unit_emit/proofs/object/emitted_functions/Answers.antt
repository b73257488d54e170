use Rattle.std.proofs.Common.{◌≡◌, ◌+◌, ◌∷◌, drop, map, sym, ap, ◌∙◌, subst, arith}
use Rattle.std.specs.List.{AllByRecursion}
use Rattle.std.proofs.lemmas.List.{drop_more}
use Rattle.object_format.specs.Code.{IsWhole, spelled}
use Rattle.unit_ir.specs.StmtView.{stmts_view}
use Rattle.unit_ir.specs.Units.{fn_view, unit_view, IsFn, callee_count}
use Rattle.unit_emit.specs.Code.{function_code}
use Rattle.unit_emit.specs.Object.{code_of}
use Rattle.unit_emit.proofs.Objects.{code_whole}
use Rattle.unit_emit.proofs.object.emitted_functions.Goals as goal

pub new-requires-clause-whole : goal.new-requires-clause-whole
new-requires-clause-whole c =
    let fs = c.functions-functions.result.now in
    let n = c.loop-number.number in
    let x = c.index-functions-number.result in
    let k = callee_count (unit_view c.args.unit.now) in
    let here : drop n fs ≡ x ∷ drop (n + 1) fs = drop_more fs n x (omega arith) ∙ ap (λ y. y ∷ drop (n + 1) fs) (sym c.index-functions-number.is) in
    let each : AllByRecursion (IsFn k) (map fn_view (x ∷ drop (n + 1) fs)) = subst (λ l. AllByRecursion (IsFn k) (map fn_view l)) here c.loop-number.invariant.each in
    let code : c.from_vec-code.result ≡ spelled (code_of (fn_view x)) = c.from_vec-code.ensures ∙ c.in-Ok.ensures.0 ∙ ap (λ b. spelled (function_code (stmts_view b) x.result)) c.as_slice.ensures in
    subst IsWhole (sym code) (code_whole k (fn_view x) each.0)
