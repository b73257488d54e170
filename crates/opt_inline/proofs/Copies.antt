-- Copies of lists, one part more.
use Rattle.std.proofs.Common.{◌≡◌, ℕ, suc, ◌+◌, ◌<◌, List, [], ◌∷◌, ◌++◌, length, get_or, drop, sym, ap, ◌∙◌, add-one}
use Rattle.std.proofs.Math.Seq.{drop-cons}
use Rattle.unit_ir.specs.declared.expr.IrExpr.{IrExpr}
use Rattle.unit_ir.specs.Exprs.{PlainExprs, exprs}
use Rattle.unit_ir.specs.ExprView.{expr_view, exprs_view}
use Rattle.opt_slots.proofs.Ahead.{exprs_before, exprs_before-push}
use Rattle.opt_inline.specs.Places.{turned_up, all_turned_up}

exprs_view-drop : (xs : List IrExpr) (i : ℕ) (x : IrExpr) → i < length xs → x ≡ get_or xs i x → exprs_view (drop i xs) ≡ exprs (expr_view x) (exprs_view (drop (i + 1) xs))
exprs_view-drop xs i x h is_x =
    ap exprs_view (drop-cons xs i x h)
    ∙ ap (λ y. exprs (expr_view y) (exprs_view (drop (suc i) xs))) (sym is_x)
    ∙ ap (λ n. exprs (expr_view x) (exprs_view (drop n xs))) (sym (add-one i))

pub raised_more : (n : ℕ) (xs : List IrExpr) (i : ℕ) (x : IrExpr) (done now : List IrExpr) (r : IrExpr) (all : PlainExprs)
    → i < length xs → x ≡ get_or xs i x → now ≡ done ++ r ∷ [] → expr_view r ≡ turned_up n (expr_view x)
    → exprs_before done (all_turned_up n (exprs_view (drop i xs))) ≡ all → exprs_before now (all_turned_up n (exprs_view (drop (i + 1) xs))) ≡ all
raised_more n xs i x done now r all h is_x is_now is_r so_far =
    ap (λ l. exprs_before l (all_turned_up n (exprs_view (drop (i + 1) xs)))) is_now
    ∙ exprs_before-push done r (all_turned_up n (exprs_view (drop (i + 1) xs)))
    ∙ ap (λ e. exprs_before done (exprs e (all_turned_up n (exprs_view (drop (i + 1) xs))))) is_r
    ∙ ap (λ v. exprs_before done (all_turned_up n v)) (sym (exprs_view-drop xs i x h is_x))
    ∙ so_far

pub copied_more : (xs : List IrExpr) (i : ℕ) (x : IrExpr) (done now : List IrExpr) (r : IrExpr) (all : PlainExprs)
    → i < length xs → x ≡ get_or xs i x → now ≡ done ++ r ∷ [] → expr_view r ≡ expr_view x
    → exprs_before done (exprs_view (drop i xs)) ≡ all → exprs_before now (exprs_view (drop (i + 1) xs)) ≡ all
copied_more xs i x done now r all h is_x is_now is_r so_far =
    ap (λ l. exprs_before l (exprs_view (drop (i + 1) xs))) is_now
    ∙ exprs_before-push done r (exprs_view (drop (i + 1) xs))
    ∙ ap (λ e. exprs_before done (exprs e (exprs_view (drop (i + 1) xs)))) is_r
    ∙ ap (exprs_before done) (sym (exprs_view-drop xs i x h is_x))
    ∙ so_far
