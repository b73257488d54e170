-- Calls: what their parts give is what the rules say.
use Rattle.std.proofs.Common.{◌≡◌, ℕ, List, [], ◌++◌, length, sym, ap, ◌∙◌, subst, Option, Some, None}
use Rattle.std.specs.Prelude.{if◌then◌else◌}
use Rattle.type_table.specs.declared.row.Row.{Row}
use Rattle.type_table.specs.TypeOf.{TypeOf}
use Rattle.lar_tree.specs.declared.name.Path.{Path}
use Rattle.lar_typed.specs.Exprs.{PlainExpr, PlainExprs}
use Rattle.lar_rules.specs.Fault.{Fault, least}
use Rattle.lar_rules.specs.Declared.{Function}
use Rattle.lar_rules.specs.Written.{Given}
use Rattle.lar_rules.specs.Signatures.{params, outcome}
use Rattle.lar_rules.specs.Judged.{Env, all_typed, all_faults, under}
use Rattle.lar_rules.specs.Judged as rules
use Rattle.lar_rules.specs.Exprs.{judged_call, call_typed, passed, mispassed, miscalled}
use Rattle.lar_judge.specs.declared.callee.Callee.{Callee}
use Rattle.lar_judge.specs.declared.judged.Judged.{Judged}
use Rattle.lar_judge.specs.Calls.{callee_generics, call_rest, IsCallee, CalleeIs}
use Rattle.lar_judge.specs.Known.{type_if, Knows}
use Rattle.lar_judge.specs.Lists.{knowns}
use Rattle.lar_judge.specs.Wanted.{types_if, misfits, fits_all}
use Rattle.lar_judge.proofs.Asserted.{refusal_last}
use Rattle.lar_judge.proofs.Operands.{knows_same, told_two}
use Rattle.lar_judge.proofs.Passed.{passed_is, mispassed_is}

-- no function is meant
pub call_none : (rows : List Row) (env : Env) (p : Path) (gs : List Given) (callee : Option Callee) (f : Option Function) (js : List Judged) (r : Judged) → callee ≡ None → CalleeIs rows env.site p gs callee f
    → ((faults : List Fault) → Knows rows r (rules.unless_asserting env p.first.span None faults)) → Knows rows r (judged_call env p gs (knowns rows js) f)
call_none rows env p gs callee None js r is h k = k _
call_none rows env p gs callee (Some f) js r is h k = absurd (subst (λ (x : Option Callee). CalleeIs rows env.site p gs x (Some f)) is h)

pub call_none_told : (rows : List Row) (env : Env) (p : Path) (gs : List Given) (callee : Option Callee) (f : Option Function) (js : List Judged) (best new : Option Fault) → callee ≡ None → CalleeIs rows env.site p gs callee f
    → new ≡ least best (rules.unless_asserting env p.first.span None []).faults → new ≡ least best (call_rest env p gs (knowns rows js) f)
call_none_told rows env p gs callee None js best new is h e = e
call_none_told rows env p gs callee (Some f) js best new is h e = absurd (subst (λ (x : Option Callee). CalleeIs rows env.site p gs x (Some f)) is h)

passed_args : (rows : List Row) (env : Env) (p : Path) (gs : List Given) (c : Callee) (f : Function) (js : List Judged) → IsCallee rows c env.site p gs f
    → (if fits_all (types_if rows c.wanted.items) (knowns rows js) then all_typed (knowns rows js) else None) ≡ passed (callee_generics env.site p gs f).of (params env.site.all f) (knowns rows js)
passed_args rows env p gs c f js h =
    ap (λ (ts : List (Option TypeOf)). if fits_all ts (knowns rows js) then all_typed (knowns rows js) else None) h.asks
    ∙ sym (passed_is (callee_generics env.site p gs f).of (params env.site.all f) (knowns rows js))

call_is : (rows : List Row) (env : Env) (p : Path) (gs : List Given) (c : Callee) (f : Function) (js : List Judged) (args : Option PlainExprs) → IsCallee rows c env.site p gs f
    → args ≡ (if fits_all (types_if rows c.wanted.items) (knowns rows js) then all_typed (knowns rows js) else None)
    → call_typed c.number p.first.span (type_if rows c.generics) (type_if rows c.outcome) args
    ≡ call_typed f.number p.first.span (callee_generics env.site p gs f).of (under (callee_generics env.site p gs f).of (outcome env.site.all f)) (passed (callee_generics env.site p gs f).of (params env.site.all f) (knowns rows js))
call_is rows env p gs c f js args h e =
    let g : Option TypeOf = (callee_generics env.site p gs f).of in
    ap (λ (n : ℕ). call_typed n p.first.span (type_if rows c.generics) (type_if rows c.outcome) args) h.numbered
    ∙ ap (λ (x : Option TypeOf). call_typed f.number p.first.span x (type_if rows c.outcome) args) h.given
    ∙ ap (λ (x : Option TypeOf). call_typed f.number p.first.span g x args) h.gives
    ∙ ap (call_typed f.number p.first.span g (under g (outcome env.site.all f))) (e ∙ passed_args rows env p gs c f js h)

abbrev call_faults : List Row → Env → Path → List Given → Function → List Judged → List Fault
call_faults rows env p gs f js =
    (callee_generics env.site p gs f).faults ++ (miscalled env.site p (callee_generics env.site p gs f).counted (length (params env.site.all f)) (length (knowns rows js))
    ++ (all_faults (knowns rows js) ++ mispassed env.site (callee_generics env.site p gs f).of (params env.site.all f) (knowns rows js)))

pub call_some : (rows : List Row) (env : Env) (p : Path) (gs : List Given) (callee : Option Callee) (c : Callee) (f : Option Function) (js : List Judged) (args : Option PlainExprs) (x : Option PlainExpr) (r : Judged)
    → callee ≡ Some c → CalleeIs rows env.site p gs callee f
    → args ≡ (if fits_all (types_if rows c.wanted.items) (knowns rows js) then all_typed (knowns rows js) else None)
    → x ≡ call_typed c.number p.first.span (type_if rows c.generics) (type_if rows c.outcome) args
    → ((faults : List Fault) → Knows rows r (rules.unless_asserting env p.first.span x faults)) → Knows rows r (judged_call env p gs (knowns rows js) f)
call_some rows env p gs callee c None js args x r is h a e k = absurd (subst (λ (y : Option Callee). CalleeIs rows env.site p gs y None) is h)
call_some rows env p gs callee c (Some f) js args x r is h a e k =
    let it : IsCallee rows c env.site p gs f = subst (λ (y : Option Callee). CalleeIs rows env.site p gs y (Some f)) is h in
    knows_same rows r _ _ (ap (λ (y : Option PlainExpr). rules.unless_asserting env p.first.span y (call_faults rows env p gs f js)) (e ∙ call_is rows env p gs c f js args it a)) (k (call_faults rows env p gs f js))

pub call_some_told : (rows : List Row) (env : Env) (p : Path) (gs : List Given) (callee : Option Callee) (c : Callee) (f : Option Function) (js : List Judged) (x : Option PlainExpr) (best mid new : Option Fault)
    → callee ≡ Some c → CalleeIs rows env.site p gs callee f
    → mid ≡ least best (misfits env.site (types_if rows c.wanted.items) (knowns rows js)) → new ≡ least mid (rules.unless_asserting env p.first.span x []).faults → new ≡ least best (call_rest env p gs (knowns rows js) f)
call_some_told rows env p gs callee c None js x best mid new is h a e = absurd (subst (λ (y : Option Callee). CalleeIs rows env.site p gs y None) is h)
call_some_told rows env p gs callee c (Some f) js x best mid new is h a e =
    let it : IsCallee rows c env.site p gs f = subst (λ (y : Option Callee). CalleeIs rows env.site p gs y (Some f)) is h in
    let g : Option TypeOf = (callee_generics env.site p gs f).of in
    let tail : misfits env.site (types_if rows c.wanted.items) (knowns rows js) ≡ mispassed env.site g (params env.site.all f) (knowns rows js) =
    ap (λ (ts : List (Option TypeOf)). misfits env.site ts (knowns rows js)) it.asks ∙ sym (mispassed_is env.site g (params env.site.all f) (knowns rows js)) in
    told_two best mid new _ _ (a ∙ ap (least best) tail) (e ∙ ap (least mid) (refusal_last env p.first.span x None []))
