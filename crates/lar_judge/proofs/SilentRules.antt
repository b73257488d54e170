-- A rule without the faults of the parts: they stand before its own, and its type does not depend on them.
use Rattle.std.proofs.Common.{◌≡◌, List, [], ◌∷◌, ◌++◌, length, refl, sym, ap, ◌∙◌, append_assoc, Bool, true, false, Option, Some, None}
use Rattle.lar_source.specs.declared.file.Span.{Span}
use Rattle.lar_source.specs.declared.code.Code.TheVariants.{NoSuchPlace}
use Rattle.type_table.specs.TypeOf.{TypeOf}
use Rattle.lar_tree.specs.declared.name.Path.{Path}
use Rattle.lar_tree.specs.declared.expr.Selector.{Selector}
use Rattle.lar_tree.specs.declared.expr.Unary.{Unary}
use Rattle.lar_tree.specs.declared.expr.Binary.{Binary}
use Rattle.lar_typed.specs.declared.op.BinaryOp.{BinaryOp}
use Rattle.std.specs.Prelude.{option_map}
use Rattle.lar_typed.specs.Exprs.{PlainExpr, PlainExprs, label_of}
use Rattle.lar_rules.specs.Fault.{Fault, fault}
use Rattle.lar_rules.specs.Declared.{Function}
use Rattle.lar_rules.specs.Written.{Site, Given, all_given, unknown}
use Rattle.lar_rules.specs.Signatures.{Member, params, outcome}
use Rattle.lar_rules.specs.Judged.{Env, Judged, judged_if, unless_asserting, all_faults, all_typed, misfit_if, fitting_if, then_expr, under}
use Rattle.lar_rules.specs.Exprs.{judged_unary, judged_binary, judged_operands, operand_type, result_type, typed_binary_op, both_typed, scalar_of, not_scalar_of, judged_tuple, judged_paren, tuple_typed, judged_field, judged_field_of, judged_part, part_typed, part_selected, selector_at, Part, judged_call, call_typed, passed, mispassed, miscalled}
use Rattle.lar_judge.specs.Known.{silent}
use Rattle.lar_judge.specs.Lists.{silents}
use Rattle.lar_judge.specs.Calls.{callee_generics, call_head, call_rest}
use Rattle.lar_judge.proofs.Asserted.{refusal_last}

pub unary_faults : (env : Env) (op : Unary) (at : Span) (e : Judged) → (judged_unary env op at e).faults ≡ e.faults ++ (judged_unary env op at (silent e)).faults
unary_faults env op at e = refl

pub unary_same : (env : Env) (op : Unary) (at : Span) (e : Judged) → silent (judged_unary env op at (silent e)) ≡ silent (judged_unary env op at e)
unary_same env op at e = refl

pub misfit_same : (s : Site) (t : Option TypeOf) (j : Judged) → misfit_if s t (silent j) ≡ misfit_if s t j
misfit_same s None j = refl
misfit_same s (Some t) j = refl

pub fitting_same : (t : Option TypeOf) (j : Judged) → fitting_if t (silent j) ≡ fitting_if t j
fitting_same None j = refl
fitting_same (Some t) j = refl

operands_faults : (env : Env) (t : TypeOf) (op : BinaryOp) (a b : Judged) (o : Option TypeOf) → (judged_operands env t op a b o).faults ≡ a.faults ++ (b.faults ++ (judged_operands env t op (silent a) (silent b) o).faults)
operands_faults env t op a b None =
    ap (λ (fs : List Fault). a.faults ++ (b.faults ++ (not_scalar_of env.site a.at a.typed ++ fs))) (sym (misfit_same env.site (scalar_of a.typed) b))
operands_faults env t op a b (Some o) = refl

operands_same : (env : Env) (t : TypeOf) (op : BinaryOp) (a b : Judged) (o : Option TypeOf) → silent (judged_operands env t op (silent a) (silent b) o) ≡ silent (judged_operands env t op a b o)
operands_same env t op a b None =
    let wanted : Option TypeOf = scalar_of a.typed in
    let known : Option PlainExpr → Judged = λ x. record { at = a.at; typed = x; faults = [] } in
    ap (λ x. known (both_typed t op x (fitting_if wanted (silent b)))) (fitting_same wanted a) ∙ ap (λ x. known (both_typed t op (fitting_if wanted a) x)) (fitting_same wanted b)
operands_same env t op a b (Some o) = refl

pub binary_faults : (env : Env) (op : Binary) (a b : Judged) → (judged_binary env op a b).faults ≡ a.faults ++ (b.faults ++ (judged_binary env op (silent a) (silent b)).faults)
binary_faults env op a b = operands_faults env (result_type op) (typed_binary_op op) a b (operand_type op)

pub binary_same : (env : Env) (op : Binary) (a b : Judged) → silent (judged_binary env op (silent a) (silent b)) ≡ silent (judged_binary env op a b)
binary_same env op a b = operands_same env (result_type op) (typed_binary_op op) a b (operand_type op)

refused_same : (b : Bool) (at : Span) (e : Option PlainExpr) (fs gs refusal : List Fault) → silent (judged_if b at e fs refusal) ≡ silent (judged_if b at e gs refusal)
refused_same true at e fs gs refusal = refl
refused_same false at e fs gs refusal = refl

pub unless_same : (env : Env) (at : Span) (e : Option PlainExpr) (fs gs : List Fault) → silent (unless_asserting env at e fs) ≡ silent (unless_asserting env at e gs)
unless_same env at e fs gs = refused_same env.asserting at e fs gs (fault env.site.file at NoSuchPlace [] ∷ [])

part_faults : (env : Env) (at : Span) (fs : List Fault) (s : Selector) (x : PlainExpr) (o : Option Part) → (judged_part env at fs s x o).faults ≡ fs ++ (judged_part env at [] s x o).faults
part_faults env at fs s x None =
    let one : List Fault = fault env.site.file (selector_at s) NoSuchPlace [] ∷ [] in
    refusal_last env at None None (fs ++ one) ∙ append_assoc fs one (unless_asserting env at None []).faults ∙ ap (λ (gs : List Fault). fs ++ gs) (sym (refusal_last env at None None one))
part_faults env at fs s x (Some p) = refusal_last env at (part_typed x p.0 p.1) (part_typed x p.0 p.1) fs

part_same : (env : Env) (at : Span) (fs gs : List Fault) (s : Selector) (x : PlainExpr) (o : Option Part) → silent (judged_part env at fs s x o) ≡ silent (judged_part env at gs s x o)
part_same env at fs gs s x None = unless_same env at None (fs ++ fault env.site.file (selector_at s) NoSuchPlace [] ∷ []) (gs ++ fault env.site.file (selector_at s) NoSuchPlace [] ∷ [])
part_same env at fs gs s x (Some p) = unless_same env at (part_typed x p.0 p.1) fs gs

field_of_faults : (env : Env) (e : Judged) (s : Selector) (o : Option PlainExpr) → (judged_field_of env e s o).faults ≡ e.faults ++ (judged_field_of env (silent e) s o).faults
field_of_faults env e s None = refusal_last env e.at None None e.faults
field_of_faults env e s (Some x) = part_faults env e.at e.faults s x (part_selected env.site.all (label_of x) s)

field_of_same : (env : Env) (e : Judged) (s : Selector) (o : Option PlainExpr) → silent (judged_field_of env (silent e) s o) ≡ silent (judged_field_of env e s o)
field_of_same env e s None = unless_same env e.at None [] e.faults
field_of_same env e s (Some x) = part_same env e.at [] e.faults s x (part_selected env.site.all (label_of x) s)

pub field_faults : (env : Env) (e : Judged) (s : Selector) → (judged_field env e s).faults ≡ e.faults ++ (judged_field env (silent e) s).faults
field_faults env e s = field_of_faults env e s e.typed

pub field_same : (env : Env) (e : Judged) (s : Selector) → silent (judged_field env (silent e) s) ≡ silent (judged_field env e s)
field_same env e s = field_of_same env e s e.typed

pub no_faults : (js : List Judged) → all_faults (silents js) ≡ []
no_faults [] = refl
no_faults (j ∷ js) = no_faults js

typed_same : (js : List Judged) → all_typed (silents js) ≡ all_typed js
typed_same [] = refl
typed_same (j ∷ js) = ap (then_expr j.typed) (typed_same js)

tuple_faults : (env : Env) (at : Span) (js : List Judged) (x y : Option PlainExpr) → (unless_asserting env at x (all_faults js)).faults ≡ all_faults js ++ (unless_asserting env at y (all_faults (silents js))).faults
tuple_faults env at js x y = refusal_last env at x y (all_faults js) ∙ ap (λ (fs : List Fault). all_faults js ++ (unless_asserting env at y fs).faults) (sym (no_faults js))

none_more : (xs : List Fault) → xs ++ [] ≡ xs
none_more [] = refl
none_more (x ∷ xs) = ap (λ (ys : List Fault). x ∷ ys) (none_more xs)

pub bracket_faults : (env : Env) (at : Span) (js : List Judged) → (judged_paren env at js).faults ≡ all_faults js ++ (judged_paren env at (silents js)).faults
bracket_faults env at [] = tuple_faults env at [] _ _
bracket_faults env at (j ∷ []) = sym (none_more (j.faults ++ []) ∙ none_more j.faults)
bracket_faults env at (j ∷ k ∷ js) = tuple_faults env at (j ∷ k ∷ js) _ _

tuple_same : (env : Env) (at : Span) (js : List Judged) → silent (judged_tuple env at (silents js)) ≡ silent (judged_tuple env at js)
tuple_same env at js =
    ap (λ es. silent (unless_asserting env at (option_map tuple_typed es) (all_faults (silents js)))) (typed_same js)
    ∙ unless_same env at (option_map tuple_typed (all_typed js)) (all_faults (silents js)) (all_faults js)

pub bracket_same : (env : Env) (at : Span) (js : List Judged) → silent (judged_paren env at (silents js)) ≡ silent (judged_paren env at js)
bracket_same env at [] = tuple_same env at []
bracket_same env at (j ∷ []) = refl
bracket_same env at (j ∷ k ∷ js) = tuple_same env at (j ∷ k ∷ js)

mispassed_same : (s : Site) (gs : Option TypeOf) (ms : List Member) (js : List Judged) → mispassed s gs ms (silents js) ≡ mispassed s gs ms js
mispassed_same s gs [] js = refl
mispassed_same s gs (m ∷ ms) [] = refl
mispassed_same s gs (m ∷ ms) (j ∷ js) =
    ap (λ (fs : List Fault). fs ++ mispassed s gs ms (silents js)) (misfit_same s (under gs m.1) j) ∙ ap (λ (fs : List Fault). misfit_if s (under gs m.1) j ++ fs) (mispassed_same s gs ms js)

passed_same : (gs : Option TypeOf) (ms : List Member) (js : List Judged) → passed gs ms (silents js) ≡ passed gs ms js
passed_same gs [] [] = refl
passed_same gs [] (j ∷ js) = refl
passed_same gs (m ∷ ms) [] = refl
passed_same gs (m ∷ ms) (j ∷ js) = ap (λ e. then_expr e (passed gs ms (silents js))) (fitting_same (under gs m.1) j) ∙ ap (then_expr (fitting_if (under gs m.1) j)) (passed_same gs ms js)

regrouped : (g m a p r : List Fault) → (g ++ (m ++ (a ++ p))) ++ r ≡ (g ++ m) ++ (a ++ (p ++ r))
regrouped g m a p r = simp append_assoc

pub call_faults : (env : Env) (p : Path) (gs : List Given) (js : List Judged) (f : Option Function) → (judged_call env p gs js f).faults ≡ call_head env.site p gs (length js) f ++ (all_faults js ++ call_rest env p gs (silents js) f)
call_faults env p gs js None =
    let refusal : List Fault = (unless_asserting env p.first.span None []).faults in
    refusal_last env p.first.span None None (unknown env.site p ∷ (all_given gs ++ all_faults js)) ∙ ap (λ (fs : List Fault). unknown env.site p ∷ fs) (append_assoc (all_given gs) (all_faults js) refusal)
call_faults env p gs js (Some f) =
    let g : Option TypeOf = (callee_generics env.site p gs f).of in
    let refusal : List Fault = (unless_asserting env p.first.span None []).faults in
    let head : List Fault = (callee_generics env.site p gs f).faults in
    let counts : List Fault = miscalled env.site p (callee_generics env.site p gs f).counted (length (params env.site.all f)) (length js) in
    let tail : List Fault = mispassed env.site g (params env.site.all f) js in
    refusal_last env p.first.span (call_typed f.number p.first.span g (under g (outcome env.site.all f)) (passed g (params env.site.all f) js)) None (head ++ (counts ++ (all_faults js ++ tail)))
    ∙ regrouped head counts (all_faults js) tail refusal
    ∙ ap (λ (fs : List Fault). (head ++ counts) ++ (all_faults js ++ (fs ++ refusal))) (sym (mispassed_same env.site g (params env.site.all f) js))

pub call_same : (env : Env) (p : Path) (gs : List Given) (js : List Judged) (f : Option Function) → silent (judged_call env p gs (silents js) f) ≡ silent (judged_call env p gs js f)
call_same env p gs js None = unless_same env p.first.span None (unknown env.site p ∷ (all_given gs ++ all_faults (silents js))) (unknown env.site p ∷ (all_given gs ++ all_faults js))
call_same env p gs js (Some f) =
    let g : Option TypeOf = (callee_generics env.site p gs f).of in
    let made : Option PlainExprs → Option PlainExpr = call_typed f.number p.first.span g (under g (outcome env.site.all f)) in
    unless_same env p.first.span (made (passed g (params env.site.all f) (silents js))) _ []
    ∙ ap (λ es. silent (unless_asserting env p.first.span (made es) [])) (passed_same g (params env.site.all f) js)
    ∙ unless_same env p.first.span (made (passed g (params env.site.all f) js)) [] _
