-- One turn of a walk over a list with what is known.
use Rattle.std.proofs.Common.{◌≡◌, ℕ, List, [], ◌∷◌, ◌++◌, sym, ap, ◌∙◌}
use Rattle.std.specs.Prelude.{reverse}
use Rattle.unit_ir.specs.declared.expr.IrExpr.{IrExpr}
use Rattle.unit_ir.specs.declared.stmt.IrStmt.{IrStmt}
use Rattle.unit_ir.specs.Exprs.{PlainExprs, exprs}
use Rattle.unit_ir.specs.Stmts.{PlainStmts, stmts}
use Rattle.unit_ir.specs.ExprView.{expr_view, exprs_view}
use Rattle.unit_ir.specs.StmtView.{stmt_view, stmts_view}
use Rattle.opt_slots.specs.Writes.{expr_writes, exprs_writes}
use Rattle.opt_known.specs.Facts.{PlainFact, forget}
use Rattle.opt_known.specs.Known.{known_expr, known_exprs, known_stmt, known_stmts, after_stmt}
use Rattle.opt_known.proofs.Forgotten.{forget_twice}
use Rattle.opt_slots.proofs.Ahead.{exprs_before, exprs_before-push, stmts_before, stmts_before-push, next_expr, next_stmt}

pub expr_done : (f g : ℕ → PlainFact) (old new : List IrExpr) (p : IrExpr) (done now : List IrExpr) (r : IrExpr) (all : PlainExprs)
    → old ≡ new ++ p ∷ [] → now ≡ done ++ r ∷ [] → expr_view r ≡ known_expr f (expr_view p) → g ≡ forget (expr_writes (expr_view p)) f
    → exprs_before done (known_exprs f (exprs_view (reverse old))) ≡ all → exprs_before now (known_exprs g (exprs_view (reverse new))) ≡ all
expr_done f g old new p done now r all is_old is_now is_r is_g so_far =
    ap (λ l. exprs_before l (known_exprs g (exprs_view (reverse new)))) is_now
    ∙ exprs_before-push done r (known_exprs g (exprs_view (reverse new)))
    ∙ ap (λ e. exprs_before done (exprs e (known_exprs g (exprs_view (reverse new))))) is_r
    ∙ ap (λ h. exprs_before done (exprs (known_expr f (expr_view p)) (known_exprs h (exprs_view (reverse new))))) is_g
    ∙ ap (λ v. exprs_before done (known_exprs f v)) (sym (next_expr old new p is_old))
    ∙ so_far

pub expr_forgotten : (f g : ℕ → PlainFact) (old new : List IrExpr) (p : IrExpr) (all : ℕ → PlainFact)
    → old ≡ new ++ p ∷ [] → g ≡ forget (expr_writes (expr_view p)) f → forget (exprs_writes (exprs_view (reverse old))) f ≡ all → forget (exprs_writes (exprs_view (reverse new))) g ≡ all
expr_forgotten f g old new p all is_old is_g so_far =
    ap (forget (exprs_writes (exprs_view (reverse new)))) is_g
    ∙ forget_twice (expr_writes (expr_view p)) (exprs_writes (exprs_view (reverse new))) f
    ∙ ap (λ v. forget (exprs_writes v) f) (sym (next_expr old new p is_old))
    ∙ so_far

pub stmt_done : (f g : ℕ → PlainFact) (old new : List IrStmt) (p : IrStmt) (done now : List IrStmt) (r : IrStmt) (all : PlainStmts)
    → old ≡ new ++ p ∷ [] → now ≡ done ++ r ∷ [] → stmt_view r ≡ known_stmt f (stmt_view p) → g ≡ after_stmt f (stmt_view p)
    → stmts_before done (known_stmts f (stmts_view (reverse old))) ≡ all → stmts_before now (known_stmts g (stmts_view (reverse new))) ≡ all
stmt_done f g old new p done now r all is_old is_now is_r is_g so_far =
    ap (λ l. stmts_before l (known_stmts g (stmts_view (reverse new)))) is_now
    ∙ stmts_before-push done r (known_stmts g (stmts_view (reverse new)))
    ∙ ap (λ e. stmts_before done (stmts e (known_stmts g (stmts_view (reverse new))))) is_r
    ∙ ap (λ h. stmts_before done (stmts (known_stmt f (stmt_view p)) (known_stmts h (stmts_view (reverse new))))) is_g
    ∙ ap (λ v. stmts_before done (known_stmts f v)) (sym (next_stmt old new p is_old))
    ∙ so_far
