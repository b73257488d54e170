-- What is told of an expression that has no place in a `static_assert`.
use Rattle.std.proofs.Common.{◌≡◌, List, [], ◌∷◌, ◌++◌, refl, sym, ap, ◌∙◌, Bool, true, false, Option, None}
use Rattle.lar_source.specs.declared.file.Span.{Span}
use Rattle.lar_source.specs.declared.code.Code.TheVariants.{NoSuchPlace}
use Rattle.type_table.specs.declared.row.Row.{Row}
use Rattle.lar_typed.specs.declared.expr.TypedExpr.{TypedExpr}
use Rattle.lar_typed.specs.Exprs.{PlainExpr}
use Rattle.lar_rules.specs.Fault.{Fault, fault, kept, least}
use Rattle.lar_rules.specs.Judged.{Env, judged_if}
use Rattle.lar_rules.specs.Judged as rules
use Rattle.lar_judge.specs.declared.here.Here.{Here}
use Rattle.lar_judge.specs.Here.{IsEnv}
use Rattle.lar_judge.specs.Known.{typed_in, TypedWithin, silent, Knows}
use Rattle.lar_judge.proofs.Least.{least_none, least_one}

pub refused_known : (h : Here) (b : Bool) (rows : List Row) (env : Env) (at : Span) (x : Option PlainExpr) (faults : List Fault) → b ≡ true → IsEnv h b env → Knows rows (record { at = at; typed = None }) (rules.unless_asserting env at x faults)
refused_known h b rows env at x faults is e =
    let refusal : List Fault = fault env.site.file at NoSuchPlace [] ∷ [] in
    record { within = tt; is = ap (λ (y : Bool). silent (judged_if y at x faults refusal)) (sym is ∙ e.same) }

pub refused_told : (h : Here) (b : Bool) (env : Env) (at : Span) (x : Option PlainExpr) (best : Option Fault) → b ≡ true → IsEnv h b env → kept best (fault h.file at NoSuchPlace []) ≡ least best (rules.unless_asserting env at x []).faults
refused_told h b env at x best is e =
    let refusal : List Fault = fault env.site.file at NoSuchPlace [] ∷ [] in
    ap (λ f. kept best (fault f at NoSuchPlace [])) e.site.file
    ∙ sym (least_one best (fault env.site.file at NoSuchPlace []))
    ∙ ap (λ (y : Bool). least best (judged_if y at x [] refusal).faults) (sym is ∙ e.same)

pub passed_known : (h : Here) (b : Bool) (rows : List Row) (env : Env) (at : Span) (o : Option TypedExpr) (faults : List Fault) → b ≡ false → IsEnv h b env → TypedWithin rows o → Knows rows (record { at = at; typed = o }) (rules.unless_asserting env at (typed_in rows o) faults)
passed_known h b rows env at o faults is e w =
    let refusal : List Fault = fault env.site.file at NoSuchPlace [] ∷ [] in
    record { within = w; is = ap (λ (y : Bool). silent (judged_if y at (typed_in rows o) faults refusal)) (sym is ∙ e.same) }

pub passed_told : (h : Here) (b : Bool) (env : Env) (at : Span) (x : Option PlainExpr) (best : Option Fault) → b ≡ false → IsEnv h b env → best ≡ least best (rules.unless_asserting env at x []).faults
passed_told h b env at x best is e =
    let refusal : List Fault = fault env.site.file at NoSuchPlace [] ∷ [] in
    sym (least_none best) ∙ ap (λ (y : Bool). least best (judged_if y at x [] refusal).faults) (sym is ∙ e.same)

-- the refusal stands behind the other faults
pub refusal_last : (env : Env) (at : Span) (x y : Option PlainExpr) (faults : List Fault) → (rules.unless_asserting env at x faults).faults ≡ faults ++ (rules.unless_asserting env at y []).faults
refusal_last env at x y faults = by env.asserting (fault env.site.file at NoSuchPlace [] ∷ [])
  where
    none : (xs : List Fault) → xs ≡ xs ++ []
    none [] = refl
    none (f ∷ fs) = ap (λ (zs : List Fault). f ∷ zs) (none fs)

    by : (b : Bool) (refusal : List Fault) → (judged_if b at x faults refusal).faults ≡ faults ++ (judged_if b at y [] refusal).faults
    by true refusal = refl
    by false refusal = none faults
