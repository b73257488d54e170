-- The list of the types of expressions, from its end.
use Rattle.std.proofs.Common.{◌≡◌, ℕ, zero, suc, ◌<◌, List, [], ◌∷◌, length, drop, get_or, refl, sym, ap, ◌∙◌, subst, arith}
use Rattle.type_table.specs.declared.row.Row.{Row}
use Rattle.type_table.specs.declared.row.Row.TheVariants.{More}
use Rattle.type_table.specs.TypeOf.{TypeOf, end, more}
use Rattle.type_table.specs.Rows.{type_at, type_of, types, Keeps, Stands}
use Rattle.lar_typed.specs.declared.expr.TypedExpr.{TypedExpr}
use Rattle.lar_typed.specs.Exprs.{label_of}
use Rattle.lar_typed.specs.ExprView.{expr_view}
use Rattle.lar_typed.specs.Within.{ExprWithin}
use Rattle.lar_rules.specs.Exprs.{types_of}
use Rattle.lar_judge.specs.Known.{expr_in}
use Rattle.lar_judge.specs.Lists.{exprs_in, ExprsAreWithin}
use Rattle.lar_judge.proofs.Labels.{label_within, same_label}

pub drop_whole : {A : Type 0} (xs : List A) → drop (length xs) xs ≡ []
drop_whole [] = refl
drop_whole (x ∷ xs) = drop_whole xs

pub drop_at : {A : Type 0} (xs : List A) (i : ℕ) (x : A) → i < length xs → x ≡ get_or xs i x → drop i xs ≡ x ∷ drop (suc i) xs
drop_at [] i x h is = absurd (omega arith)
drop_at (y ∷ xs) zero x h is = ap (λ z. z ∷ xs) (sym is)
drop_at (y ∷ xs) (suc i) x h is = drop_at xs i x (omega arith) is

pub within_at : (rows : List Row) (es : List TypedExpr) (i : ℕ) (x : TypedExpr) → ExprsAreWithin rows es → i < length es → x ≡ get_or es i x → ExprWithin (length rows) (expr_view x)
within_at rows [] i x w h is = absurd (omega arith)
within_at rows (e ∷ es) zero x w h is = subst (λ (y : TypedExpr). ExprWithin (length rows) (expr_view y)) (sym is) w.0
within_at rows (e ∷ es) (suc i) x w h is = within_at rows es i x w.1 (omega arith) is

-- the list with one more type before it
pub list_more : (start old new : List Row) (es : List TypedExpr) (i k n label list : ℕ) (x : TypedExpr) → ExprsAreWithin start es → i < length es → k ≡ suc i → x ≡ get_or es i x → label ≡ label_of (expr_view x)
    → Keeps start old → Stands old list (types_of (exprs_in start (drop k es))) → Stands new n (type_of (types old) (More label list)) → Stands new n (types_of (exprs_in start (drop i es)))
unfolding type_at
list_more start old new es i k n label list x w h e is l kept s t =
    let v : ExprWithin (length start) (expr_view x) = within_at start es i x w h is in
    let b : label_of (expr_view x) < length start = label_within (length start) (expr_view x) v in
    let first : type_at old label ≡ label_of (expr_in start x) = ap (type_at old) l ∙ kept.same (label_of (expr_view x)) b ∙ sym (same_label start (expr_view x)) in
    let others : type_at old list ≡ types_of (exprs_in start (drop (suc i) es)) = s.is ∙ ap (λ (m : ℕ). types_of (exprs_in start (drop m es))) e in
    let whole : types_of (exprs_in start (drop i es)) ≡ more (label_of (expr_in start x)) (types_of (exprs_in start (drop (suc i) es))) = ap (λ (ys : List TypedExpr). types_of (exprs_in start ys)) (drop_at es i x h is) in
    record { within = t.within; is = t.is ∙ ap (λ (u : TypeOf). more u (type_at old list)) first ∙ ap (more (label_of (expr_in start x))) others ∙ sym whole }

pub list_none : (start new : List Row) (es : List TypedExpr) (n : ℕ) → Stands new n end → Stands new n (types_of (exprs_in start (drop (length es) es)))
list_none start new es n s = record { within = s.within; is = s.is ∙ sym (ap (λ (ys : List TypedExpr). types_of (exprs_in start ys)) (drop_whole es)) }
