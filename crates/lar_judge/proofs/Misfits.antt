-- What is noted of an expression that has another type than is wanted.
use Rattle.std.proofs.Common.{◌≡◌, ℕ, List, [], ◌∷◌, sym, ap, ◌∙◌, Bool, true, false, Option, Some, None}
use Rattle.std.specs.Prelude.{if◌then◌else◌}
use Rattle.type_table.specs.declared.row.Row.{Row}
use Rattle.type_table.specs.TypeOf.{TypeOf}
use Rattle.type_table.specs.Rows.{type_at}
use Rattle.lar_typed.specs.declared.expr.TypedExpr.{TypedExpr}
use Rattle.lar_typed.specs.Exprs.{label_of}
use Rattle.lar_typed.specs.ExprView.{expr_view}
use Rattle.lar_typed.specs.SameType.{same_type}
use Rattle.lar_rules.specs.Fault.{Fault, kept, least}
use Rattle.lar_rules.specs.Written.{Site}
use Rattle.lar_rules.specs.Judged.{misfit, misfit_of, other_type}
use Rattle.lar_judge.specs.declared.judged.Judged.{Judged}
use Rattle.lar_judge.specs.Known.{expr_in, typed_in, known}
use Rattle.lar_judge.proofs.Labels.{same_label}
use Rattle.lar_judge.proofs.Least.{least_none, least_one}

pub least_if : (best : Option Fault) (f : Fault) (b : Bool) → b ≡ false → least best (if b then [] else f ∷ []) ≡ kept best f
least_if best f true h = cc
least_if best f false h = least_one best f

pub least_unless : (best : Option Fault) (f : Fault) (b : Bool) → b ≡ true → least best (if b then [] else f ∷ []) ≡ best
least_unless best f true h = least_none best
least_unless best f false h = cc

-- it has another type
pub misfit_noted : (s : Site) (t : TypeOf) (best : Option Fault) (rows : List Row) (j : Judged) (x : TypedExpr) (l : ℕ) → j.typed ≡ Some x → l ≡ label_of (expr_view x) → same_type (label_of (expr_in rows x)) t ≡ false
    → kept best (other_type s j.at t (type_at rows l)) ≡ least best (misfit s t (known rows j))
misfit_noted s t best rows j x l is label other =
    let it : type_at rows l ≡ label_of (expr_in rows x) = ap (type_at rows) label ∙ sym (same_label rows (expr_view x)) in
    ap (λ (u : TypeOf). kept best (other_type s j.at t u)) it
    ∙ sym (least_if best (other_type s j.at t (label_of (expr_in rows x))) (same_type (label_of (expr_in rows x)) t) other)
    ∙ ap (λ (o : Option TypedExpr). least best (misfit_of s t j.at (typed_in rows o))) (sym is)

-- it has the type
pub misfit_none : (s : Site) (t : TypeOf) (best : Option Fault) (rows : List Row) (j : Judged) (x : TypedExpr) → j.typed ≡ Some x → same_type (label_of (expr_in rows x)) t ≡ true → best ≡ least best (misfit s t (known rows j))
misfit_none s t best rows j x is same =
    sym (least_unless best (other_type s j.at t (label_of (expr_in rows x))) (same_type (label_of (expr_in rows x)) t) same)
    ∙ ap (λ (o : Option TypedExpr). least best (misfit_of s t j.at (typed_in rows o))) (sym is)

-- it has a fault in it
pub misfit_faulty : (s : Site) (t : TypeOf) (best : Option Fault) (rows : List Row) (j : Judged) → j.typed ≡ None → best ≡ least best (misfit s t (known rows j))
misfit_faulty s t best rows j is = sym (least_none best) ∙ ap (λ (o : Option TypedExpr). least best (misfit_of s t j.at (typed_in rows o))) (sym is)
