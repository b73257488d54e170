-- Faults of an expression, and then that it has another type than is wanted.
use Rattle.std.proofs.Common.{◌≡◌, List, ◌++◌, sym, ap, ◌∙◌, Option}
use Rattle.type_table.specs.declared.row.Row.{Row}
use Rattle.type_table.specs.TypeOf.{TypeOf}
use Rattle.lar_tree.specs.Exprs.{PlainExpr}
use Rattle.lar_typed.specs.Exprs as typed
use Rattle.lar_rules.specs.Fault.{Fault, least}
use Rattle.lar_rules.specs.Written.{Site}
use Rattle.lar_rules.specs.Judged as rules
use Rattle.lar_rules.specs.Judged.{Env, misfit, fitting, misfit_if, fitting_if}
use Rattle.lar_rules.specs.Exprs.{judge}
use Rattle.lar_judge.specs.declared.judged.Judged.{Judged}
use Rattle.lar_judge.specs.Known.{known, Knows, typed_in}
use Rattle.lar_judge.proofs.Operands.{told_two}
use Rattle.lar_judge.proofs.SilentRules.{misfit_same}

pub fit_if_told : (rows : List Row) (s : Site) (t u : Option TypeOf) (d : rules.Judged) (j : Judged) (best mid now : Option Fault) → t ≡ u → Knows rows j d → mid ≡ least best d.faults → now ≡ least mid (misfit_if s t (known rows j))
    → now ≡ least best (d.faults ++ misfit_if s u d)
fit_if_told rows s t u d j best mid now e h m n =
    told_two best mid now d.faults (misfit_if s u d) m (n ∙ ap (λ x. least mid (misfit_if s t x)) h.is ∙ ap (least mid) (misfit_same s t d) ∙ ap (λ x. least mid (misfit_if s x d)) e)

pub fit_told : (rows : List Row) (s : Site) (t u : TypeOf) (d : rules.Judged) (j : Judged) (best mid now : Option Fault) → t ≡ u → Knows rows j d → mid ≡ least best d.faults → now ≡ least mid (misfit s t (known rows j))
    → now ≡ least best (d.faults ++ misfit s u d)
fit_told rows s t u d j best mid now e h m n =
    told_two best mid now d.faults (misfit s u d) m (n ∙ ap (λ x. least mid (misfit s t x)) h.is ∙ ap (λ x. least mid (misfit s x d)) e)

-- the same expression in a table that grew
pub same_fitting : (env there : Env) (e : PlainExpr) (t u : TypeOf) (x : Option typed.PlainExpr) → there ≡ env → t ≡ u → x ≡ fitting t (judge there e) → x ≡ fitting u (judge env e)
same_fitting env there e t u x same eq h = h ∙ ap (λ y. fitting t (judge y e)) same ∙ ap (λ y. fitting y (judge env e)) eq

pub same_told : (env there : Env) (s : Site) (e : PlainExpr) (t u : TypeOf) (best now : Option Fault) → there ≡ env → t ≡ u → now ≡ least best ((judge there e).faults ++ misfit s t (judge there e)) → now ≡ least best ((judge env e).faults ++ misfit s u (judge env e))
same_told env there s e t u best now same eq h = h ∙ ap (λ y. least best ((judge y e).faults ++ misfit s t (judge y e))) same ∙ ap (λ y. least best ((judge env e).faults ++ misfit s y (judge env e))) eq

pub typed_is : (rows : List Row) (j : Judged) (d : rules.Judged) → Knows rows j d → d.typed ≡ typed_in rows j.typed
typed_is rows j d h = sym (ap (λ x. x.typed) h.is)
