-- Lists of expressions that grow at their end.
use Rattle.std.proofs.Common.{◌≡◌, List, [], ◌∷◌, ◌++◌, length, refl, ap, ◌∙◌, Option, Some, None}
use Rattle.type_table.specs.declared.row.Row.{Row}
use Rattle.lar_typed.specs.declared.expr.TypedExpr.{TypedExpr}
use Rattle.lar_typed.specs.Exprs.{PlainExpr, PlainExprs, no_exprs, exprs}
use Rattle.lar_typed.specs.ExprView.{expr_view}
use Rattle.lar_typed.specs.Within.{ExprWithin}
use Rattle.lar_rules.specs.Judged as rules
use Rattle.lar_judge.specs.declared.judged.Judged.{Judged}
use Rattle.lar_judge.specs.Known.{expr_in, typed_in, TypedWithin, known}
use Rattle.lar_judge.specs.Lists.{exprs_in, ExprsAreWithin, JudgedWithin, knowns}
use Rattle.lar_judge.specs.Gathered.{one_last, then_last}

push_in : (rows : List Row) (es : List TypedExpr) (e : TypedExpr) → exprs_in rows (es ++ e ∷ []) ≡ one_last (exprs_in rows es) (expr_in rows e)
push_in rows [] e = refl
push_in rows (x ∷ es) e = ap (exprs (expr_in rows x)) (push_in rows es e)

push_within : (rows : List Row) (es : List TypedExpr) (e : TypedExpr) → ExprsAreWithin rows es → ExprWithin (length rows) (expr_view e) → ExprsAreWithin rows (es ++ e ∷ [])
push_within rows [] e w v = (v, tt)
push_within rows (x ∷ es) e w v = (w.0, push_within rows es e w.1 v)

pub then_in : (rows : List Row) (es fs : List TypedExpr) (e : TypedExpr) → fs ≡ es ++ e ∷ [] → exprs_in rows fs ≡ one_last (exprs_in rows es) (expr_in rows e)
then_in rows es fs e is = ap (exprs_in rows) is ∙ push_in rows es e

pub then_within : (rows : List Row) (es fs : List TypedExpr) (e : TypedExpr) → fs ≡ es ++ e ∷ [] → ExprsAreWithin rows es → ExprWithin (length rows) (expr_view e) → ExprsAreWithin rows fs
then_within rows es fs e is w v = rw is (push_within rows es e w v)

pub typed_last : (e : Option PlainExpr) (es : Option PlainExprs) (x : Option PlainExpr) → rules.then_expr e (then_last es x) ≡ then_last (rules.then_expr e es) x
typed_last (Some e) (Some es) (Some x) = refl
typed_last (Some e) (Some es) None = refl
typed_last (Some e) None x = refl
typed_last None (Some es) (Some x) = refl
typed_last None (Some es) None = refl
typed_last None None x = refl

pub last_none : (x : Option PlainExpr) → rules.then_expr x (Some no_exprs) ≡ then_last (Some no_exprs) x
last_none None = refl
last_none (Some x) = refl

pub all_typed_last : (js : List rules.Judged) (j : rules.Judged) → rules.all_typed (js ++ j ∷ []) ≡ then_last (rules.all_typed js) j.typed
all_typed_last [] j = last_none j.typed
all_typed_last (k ∷ js) j = ap (rules.then_expr k.typed) (all_typed_last js j) ∙ typed_last k.typed (rules.all_typed js) j.typed

pub knowns_last : (rows : List Row) (js : List Judged) (j : Judged) → knowns rows (js ++ j ∷ []) ≡ knowns rows js ++ known rows j ∷ []
knowns_last rows [] j = refl
knowns_last rows (k ∷ js) j = ap (λ (xs : List rules.Judged). known rows k ∷ xs) (knowns_last rows js j)

pub gathered_more : (rows : List Row) (js : List Judged) (j : Judged) → rules.all_typed (knowns rows (js ++ j ∷ [])) ≡ then_last (rules.all_typed (knowns rows js)) (typed_in rows j.typed)
gathered_more rows js j = ap rules.all_typed (knowns_last rows js j) ∙ all_typed_last (knowns rows js) (known rows j)

pub within_front : (rows : List Row) (js : List Judged) (j : Judged) → JudgedWithin rows (js ++ j ∷ []) → JudgedWithin rows js
within_front rows [] j w = tt
within_front rows (k ∷ js) j w = (w.0, within_front rows js j w.1)

pub within_last : (rows : List Row) (js : List Judged) (j : Judged) → JudgedWithin rows (js ++ j ∷ []) → TypedWithin rows j.typed
within_last rows [] j w = w.0
within_last rows (k ∷ js) j w = within_last rows js j w.1
