-- Assignments: what their parts give is what the rules say.
use Rattle.std.proofs.Common.{◌≡◌, List, ◌++◌, ap, ◌∙◌, Option}
use Rattle.lar_source.specs.declared.file.Span.{Span}
use Rattle.type_table.specs.declared.row.Row.{Row}
use Rattle.type_table.specs.TypeOf.{TypeOf}
use Rattle.type_table.specs.Rows.{Keeps}
use Rattle.lar_tree.specs.Exprs.{PlainExpr}
use Rattle.lar_typed.specs.Exprs as typed
use Rattle.lar_rules.specs.Fault.{Fault, least}
use Rattle.lar_rules.specs.Judged as rules
use Rattle.lar_rules.specs.Judged.{Env, misfit_if, fitting_if}
use Rattle.lar_rules.specs.Bodies as bodies
use Rattle.lar_rules.specs.Bodies.{Body, State, env_of, assign_done, misplaced, assigned, label_if}
use Rattle.lar_judge.specs.declared.judged.Judged.{Judged}
use Rattle.lar_judge.specs.Known.{known, Knows, typed_in}
use Rattle.lar_judge.proofs.Kept.{typed_kept}
use Rattle.lar_judge.proofs.Operands.{told_two}
use Rattle.lar_judge.proofs.SilentRules.{misfit_same}

-- the place and the value, with what the walk knows of them
pub assign_is : (place : Option bodies.Target) (value : Option typed.PlainExpr) (b : Body) (s : State) (e : PlainExpr) (l r : rules.Judged) → place ≡ bodies.target_if l.typed → value ≡ fitting_if (label_if l.typed) r → assigned place value ≡ (assign_done b s e l r).typed
assign_is place value b s e l r p q = ap (λ x. assigned x value) p ∙ ap (assigned (bodies.target_if l.typed)) q

pub label_known : (r1 r2 : List Row) (j : Judged) (l : rules.Judged) (t : Option TypeOf) → Keeps r1 r2 → Knows r1 j l → t ≡ label_if (typed_in r2 j.typed) → t ≡ label_if l.typed
label_known r1 r2 j l t k h e = e ∙ ap label_if (typed_kept r1 r2 j.typed k h.within ∙ ap (λ x. x.typed) h.is)

pub target_known : (r1 r2 : List Row) (j : Judged) (l : rules.Judged) (t : Option bodies.Target) → Keeps r1 r2 → Knows r1 j l → t ≡ bodies.target_if (typed_in r2 j.typed) → t ≡ bodies.target_if l.typed
target_known r1 r2 j l t k h e = e ∙ ap bodies.target_if (typed_kept r1 r2 j.typed k h.within ∙ ap (λ x. x.typed) h.is)

pub assign_told : (rows : List Row) (b : Body) (s : State) (e : PlainExpr) (at : Span) (l r : rules.Judged) (j : Judged) (t : Option TypeOf) (best f1 f2 f3 now : Option Fault) → Knows rows j r → at ≡ l.at → t ≡ label_if l.typed
    → f1 ≡ least best l.faults → f2 ≡ least f1 (misplaced (env_of b s) e at) → f3 ≡ least f2 r.faults → now ≡ least f3 (misfit_if b.site t (known rows j)) → now ≡ least best (assign_done b s e l r).faults
assign_told rows b s e at l r j t best f1 f2 f3 now h place label m n o p =
    let own : List Fault = misfit_if b.site (label_if l.typed) r in
    let last : now ≡ least f3 own = p ∙ ap (λ x. least f3 (misfit_if b.site t x)) h.is ∙ ap (least f3) (misfit_same b.site t r) ∙ ap (λ x. least f3 (misfit_if b.site x r)) label in
    told_two best f1 now l.faults (misplaced (env_of b s) e l.at ++ (r.faults ++ own)) m
    (told_two f1 f2 now (misplaced (env_of b s) e l.at) (r.faults ++ own) (n ∙ ap (λ x. least f1 (misplaced (env_of b s) e x)) place) (told_two f2 f3 now r.faults own o last))
