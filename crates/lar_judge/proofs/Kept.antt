-- What is known of an expression stays known while the table grows.
use Rattle.std.proofs.Common.{◌≡◌, ℕ, ◌≤◌, List, [], length, refl, ap, ◌∙◌, Option, Some, None, arith}
use Rattle.type_table.specs.declared.row.Row.{Row}
use Rattle.type_table.specs.Rows.{Keeps}
use Rattle.lar_typed.specs.declared.expr.TypedExpr.{TypedExpr}
use Rattle.lar_typed.specs.ExprView.{expr_view}
use Rattle.lar_typed.specs.Standing.{ExprStands}
use Rattle.lar_typed.proofs.ExprsKept.{expr_kept}
use Rattle.lar_rules.specs.Judged as rules
use Rattle.lar_judge.specs.declared.judged.Judged.{Judged}
use Rattle.lar_judge.specs.Known.{expr_in, typed_in, TypedWithin, type_if, IfWithin, known, Knows}

stands_in : (old new : List Row) (e : TypedExpr) → Keeps old new → TypedWithin old (Some e) → ExprStands new (expr_view e) (expr_in old e)
stands_in old new e k w = expr_kept old new (expr_view e) (expr_in old e) k (record { within = w; is = refl })

pub typed_kept : (old new : List Row) (o : Option TypedExpr) → Keeps old new → TypedWithin old o → typed_in new o ≡ typed_in old o
typed_kept old new None k w = refl
typed_kept old new (Some e) k w = ap Some (stands_in old new e k w).is

pub within_kept : (old new : List Row) (o : Option TypedExpr) → Keeps old new → TypedWithin old o → TypedWithin new o
within_kept old new None k w = tt
within_kept old new (Some e) k w = (stands_in old new e k w).within

pub known_kept : (old new : List Row) (j : Judged) → Keeps old new → TypedWithin old j.typed → known new j ≡ known old j
known_kept old new j k w = ap (λ t. record { at = j.at; typed = t; faults = [] }) (typed_kept old new j.typed k w)

pub knows_kept : (old new : List Row) (j : Judged) (d : rules.Judged) → Keeps old new → Knows old j d → Knows new j d
knows_kept old new j d k h = record { within = within_kept old new j.typed k h.within; is = known_kept old new j k h.within ∙ h.is }

pub type_kept : (old new : List Row) (o : Option ℕ) → Keeps old new → IfWithin old o → type_if new o ≡ type_if old o
type_kept old new None k w = refl
type_kept old new (Some n) k w = ap Some (k.same n w)

pub type_within_kept : (old new : List Row) (o : Option ℕ) → Keeps old new → IfWithin old o → IfWithin new o
type_within_kept old new None k w = tt
type_within_kept old new (Some n) k w = let l : length old ≤ length new = k.longer in omega arith
