use Rattle.std.proofs.Common.{◌∙◌, ap, subst, List, ℕ, Option, Some, None}
use Rattle.std.specs.Prelude.{if◌then◌else◌}
use Rattle.lar_rules.specs.Fault.{least}
use Rattle.lar_rules.specs.Judged.{all_typed}
use Rattle.lar_judge.specs.declared.callee.Callee.{Callee}
use Rattle.lar_judge.specs.Calls.{CalleeWithin}
use Rattle.lar_judge.specs.Lists.{knowns}
use Rattle.lar_judge.specs.Wanted.{types_if, misfits, fits_all}
use Rattle.lar_judge.proofs.Called.{call_none, call_none_told, call_some, call_some_told}
use Rattle.lar_judge.proofs.callee.call.Goals as goal

pub returns-in-None-clause-known : goal.returns-in-None-clause-known
returns-in-None-clause-known c env gs f e h = call_none c.args.types.now env c.args.path.now gs c.args.callee f c.args.parts.items c.unless_asserting.result c.in-None.is h (λ fs. c.unless_asserting.ensures.known c.args.types.now env fs e tt)

pub returns-in-None-clause-told : goal.returns-in-None-clause-told
returns-in-None-clause-told c env gs f e h = call_none_told c.args.types.now env c.args.path.now gs c.args.callee f c.args.parts.items c.args.first.now _ c.in-None.is h (c.unless_asserting.ensures.told env None e)

pub returns-in_ok-typed-in-Some-clause-known : goal.returns-in_ok-typed-in-Some-clause-known
returns-in_ok-typed-in-Some-clause-known c env gs f e h =
    let rows = c.args.types.now in
    let js = c.args.parts.items in
    let w : CalleeWithin rows (Some c.in-Some.callee) = subst (λ (x : Option Callee). CalleeWithin rows x) c.in-Some.is c.requires.callee in
    call_some rows env c.args.path.now gs c.args.callee c.in-Some.callee f js _ _ c.unless_asserting-in-Some.result c.in-Some.is h
    (c.in_ok-args-in-Some.ensures.is ∙ ap (λ (ts : List (Option ℕ)). if fits_all (types_if rows ts) (knowns rows js) then all_typed (knowns rows js) else None) c.deref-in-Some-2.ensures.value)
    (c.in_ok-typed-in-Some.ensures.is rows)
    (λ fs. c.unless_asserting-in-Some.ensures.known rows env fs e (c.in_ok-typed-in-Some.ensures.within rows w.0 w.2 c.in_ok-args-in-Some.ensures.within))

pub returns-in_ok-typed-in-Some-clause-told : goal.returns-in_ok-typed-in-Some-clause-told
returns-in_ok-typed-in-Some-clause-told c env gs f e h =
    let rows = c.args.types.now in
    let js = c.args.parts.items in
    call_some_told rows env c.args.path.now gs c.args.callee c.in-Some.callee f js None c.args.first.now c.all_misfits.new.first _ c.in-Some.is h
    (c.in_ok-all_misfits-in-Some.ensures env.site e.site ∙ ap (λ (ts : List (Option ℕ)). least c.args.first.now (misfits env.site (types_if rows ts) (knowns rows c.deref-in-Some.result.now))) c.deref.ensures.value ∙ ap (λ xs. least c.args.first.now (misfits env.site (types_if rows c.in-Some.callee.wanted.items) (knowns rows xs))) c.deref-in-Some.ensures.value)
    (c.unless_asserting-in-Some.ensures.told env None e)
