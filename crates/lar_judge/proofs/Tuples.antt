-- Tuples: what their parts give is what the rules say.
use Rattle.std.proofs.Common.{◌≡◌, ℕ, List, [], ◌∷◌, length, refl, sym, ap, subst, ◌∙◌, Option, Some, None}
use Rattle.std.specs.Prelude.{option_map}
use Rattle.lar_source.specs.declared.file.Span.{Span}
use Rattle.type_table.specs.declared.row.Row.{Row}
use Rattle.type_table.specs.declared.row.Row.TheVariants.{Tuple}
use Rattle.type_table.specs.TypeOf.{TypeOf, tuple}
use Rattle.type_table.specs.Rows.{type_at, type_of, types, Keeps, Stands}
use Rattle.lar_typed.specs.declared.expr.TypedExpr.{TypedExpr}
use Rattle.lar_typed.specs.Exprs.{ExprOf, PlainExpr, tuple_of, expr_map}
use Rattle.lar_typed.specs.Within.{ExprWithin}
use Rattle.lar_typed.specs.ExprView.{expr_view, exprs_view}
use Rattle.lar_typed.specs.Standing.{ExprsStand}
use Rattle.lar_typed.proofs.ExprsKept.{exprs_kept}
use Rattle.lar_rules.specs.Fault.{Fault, least}
use Rattle.lar_rules.specs.Judged.{Env}
use Rattle.lar_rules.specs.Judged as rules
use Rattle.lar_rules.specs.Exprs.{types_of, tuple_typed, judged_tuple}
use Rattle.lar_judge.specs.declared.judged.Judged.{Judged}
use Rattle.lar_judge.specs.Known.{expr_in, typed_in, TypedWithin, Knows}
use Rattle.lar_judge.specs.Lists.{exprs_in, all_in, ExprsAreWithin, AllWithin, knowns}
use Rattle.lar_judge.proofs.Operands.{knows_same}
use Rattle.lar_judge.proofs.Rows.{keeps_twice}

pub exprs_stand : (old new : List Row) (es : List TypedExpr) → Keeps old new → ExprsAreWithin old es → ExprsStand new (exprs_view es) (exprs_in old es)
exprs_stand old new es k w = exprs_kept old new (exprs_view es) (exprs_in old es) k (record { within = w; is = refl })

pub all_kept : (old new : List Row) (o : Option (List TypedExpr)) → Keeps old new → AllWithin old o → all_in new o ≡ all_in old o
all_kept old new None k w = refl
all_kept old new (Some es) k w = ap Some (exprs_stand old new es k w).is

pub all_within_kept : (old new : List Row) (o : Option (List TypedExpr)) → Keeps old new → AllWithin old o → AllWithin new o
all_within_kept old new None k w = tt
all_within_kept old new (Some es) k w = (exprs_stand old new es k w).within

pub tuple_is : (old mid new : List Row) (es : List TypedExpr) (list of : ℕ) (r : TypedExpr) → Keeps old mid → Keeps mid new → ExprsAreWithin old es → Stands mid list (types_of (exprs_in old es)) → Stands new of (type_of (types mid) (Tuple list))
    → expr_view r ≡ tuple_of of (exprs_view es) → (typed_in new (Some r) ≡ Some (tuple_typed (exprs_in old es))) × TypedWithin new (Some r)
unfolding type_at
tuple_is old mid new es list of r k l w s t v =
    let kept : ExprsStand new (exprs_view es) (exprs_in old es) = exprs_stand old new es (keeps_twice old mid new k l) w in
    let label : type_at new of ≡ tuple (types_of (exprs_in old es)) = t.is ∙ ap tuple s.is in
    let made : expr_in new r ≡ tuple_of (type_at new of) (exprs_in new es) = ap (expr_map (type_at new)) v in
    let whole : expr_in new r ≡ tuple_typed (exprs_in old es) = made ∙ ap (λ (u : TypeOf). tuple_of u (exprs_in new es)) label ∙ ap (tuple_of (tuple (types_of (exprs_in old es)))) kept.is in
    let W : ExprOf ℕ → Type 0 = λ e. ExprWithin (length new) e in
    (ap Some whole, subst W (sym v) (t.within, kept.within))

-- the tuple that is judged, with the refusal behind the faults of its parts
pub tuple_knows : (old new : List Row) (env : Env) (at : Span) (js : List Judged) (done : Option (List TypedExpr)) (o : Option TypedExpr) (r : Judged)
    → all_in old done ≡ rules.all_typed (knowns old js) → typed_in new o ≡ option_map tuple_typed (all_in old done)
    → Knows new r (rules.unless_asserting env at (typed_in new o) (rules.all_faults (knowns old js))) → Knows new r (judged_tuple env at (knowns old js))
tuple_knows old new env at js done o r d e h =
    knows_same new r _ _ (ap (λ (x : Option PlainExpr). rules.unless_asserting env at x (rules.all_faults (knowns old js))) (e ∙ ap (option_map tuple_typed) d)) h

no_faults : (rows : List Row) (js : List Judged) → rules.all_faults (knowns rows js) ≡ []
no_faults rows [] = refl
no_faults rows (j ∷ js) = no_faults rows js

pub tuple_told : (rows : List Row) (env : Env) (at : Span) (js : List Judged) (best new : Option Fault) → new ≡ least best (rules.unless_asserting env at (option_map tuple_typed (rules.all_typed (knowns rows js))) []).faults → new ≡ least best (judged_tuple env at (knowns rows js)).faults
tuple_told rows env at js best new e =
    e ∙ ap (λ (fs : List Fault). least best (rules.unless_asserting env at (option_map tuple_typed (rules.all_typed (knowns rows js))) fs).faults) (sym (no_faults rows js))

pub tuple_made : (old mid new : List Row) (o : Option (List TypedExpr)) (es seen : List TypedExpr) (list of : ℕ) (r : TypedExpr) → o ≡ Some es → seen ≡ es → AllWithin old o → Keeps old mid → Keeps mid new → Stands mid list (types_of (exprs_in old seen)) → Stands new of (type_of (types mid) (Tuple list))
    → expr_view r ≡ tuple_of of (exprs_view es) → (typed_in new (Some r) ≡ option_map tuple_typed (all_in old o)) × TypedWithin new (Some r)
tuple_made old mid new o es seen list of r is e w k l s t v =
    let within : AllWithin old (Some es) = subst (λ (x : Option (List TypedExpr)). AllWithin old x) is w in
    let listed : Stands mid list (types_of (exprs_in old es)) = subst (λ (x : List TypedExpr). Stands mid list (types_of (exprs_in old x))) e s in
    let made : (typed_in new (Some r) ≡ Some (tuple_typed (exprs_in old es))) × TypedWithin new (Some r) = tuple_is old mid new es list of r k l within listed t v in
    (made.0 ∙ sym (ap (λ (x : Option (List TypedExpr)). option_map tuple_typed (all_in old x)) is), made.1)
