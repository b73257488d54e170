-- Lists, folded.
use Rattle.std.proofs.Common.{◌≡◌, List, [], ◌∷◌, map, refl, ap}
use Rattle.unit_ir.specs.declared.expr.IrExpr.{IrExpr}
use Rattle.unit_ir.specs.Exprs.{PlainExpr, exprs}
use Rattle.unit_ir.specs.declared.function.IrFn.{IrFn}
use Rattle.unit_ir.specs.Units.{PlainFn, fn_view}
use Rattle.unit_ir.specs.ExprView.{expr_view, exprs_of, exprs_view}
use Rattle.unit_opt.specs.Fold.{fold_expr, fold_exprs, fold_fn}

abbrev pub folded_view : IrExpr → PlainExpr
folded_view e = fold_expr (expr_view e)

pub fold_exprs-exprs_view : (es : List IrExpr) → fold_exprs (exprs_view es) ≡ exprs_of (map folded_view es)
fold_exprs-exprs_view [] = refl
fold_exprs-exprs_view (e ∷ es) = ap (λ l. exprs (folded_view e) l) (fold_exprs-exprs_view es)

abbrev pub folded_fn : IrFn → PlainFn
folded_fn f = fold_fn (fn_view f)

pub map-folded_fn : (fs : List IrFn) → map fold_fn (map fn_view fs) ≡ map folded_fn fs
map-folded_fn [] = refl
map-folded_fn (f ∷ fs) = ap (λ l. folded_fn f ∷ l) (map-folded_fn fs)
