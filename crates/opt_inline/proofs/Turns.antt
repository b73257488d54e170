-- One turn of a walk over a list with the slots so far.
use Rattle.std.proofs.Common.{◌≡◌, ℕ, List, [], ◌∷◌, ◌++◌, Option, sym, ap, ◌∙◌}
use Rattle.std.specs.Prelude.{reverse}
use Rattle.unit_ir.specs.declared.expr.IrExpr.{IrExpr}
use Rattle.unit_ir.specs.declared.stmt.IrStmt.{IrStmt}
use Rattle.unit_ir.specs.Exprs.{PlainExprs, exprs}
use Rattle.unit_ir.specs.Stmts.{PlainStmts, stmts}
use Rattle.unit_ir.specs.ExprView.{expr_view, exprs_view}
use Rattle.unit_ir.specs.StmtView.{stmt_view, stmts_view}
use Rattle.opt_slots.proofs.Ahead.{exprs_before, exprs_before-push, stmts_before, stmts_before-push, next_expr, next_stmt}
use Rattle.opt_inline.specs.Inline.{PlainSmall, expr_slots, exprs_slots, inlined_expr, inlined_exprs, stmt_slots, stmts_slots, inlined_stmt, inlined_stmts}

pub expr_done : (t : List (Option PlainSmall)) (n m : ℕ) (old new : List IrExpr) (p : IrExpr) (done now : List IrExpr) (r : IrExpr) (all : PlainExprs)
    → old ≡ new ++ p ∷ [] → now ≡ done ++ r ∷ [] → expr_view r ≡ inlined_expr t n (expr_view p) → m ≡ expr_slots t n (expr_view p)
    → exprs_before done (inlined_exprs t n (exprs_view (reverse old))) ≡ all → exprs_before now (inlined_exprs t m (exprs_view (reverse new))) ≡ all
expr_done t n m old new p done now r all is_old is_now is_r is_m so_far =
    ap (λ l. exprs_before l (inlined_exprs t m (exprs_view (reverse new)))) is_now
    ∙ exprs_before-push done r (inlined_exprs t m (exprs_view (reverse new)))
    ∙ ap (λ e. exprs_before done (exprs e (inlined_exprs t m (exprs_view (reverse new))))) is_r
    ∙ ap (λ k. exprs_before done (exprs (inlined_expr t n (expr_view p)) (inlined_exprs t k (exprs_view (reverse new))))) is_m
    ∙ ap (λ v. exprs_before done (inlined_exprs t n v)) (sym (next_expr old new p is_old))
    ∙ so_far

pub expr_counted : (t : List (Option PlainSmall)) (n m : ℕ) (old new : List IrExpr) (p : IrExpr) (all : ℕ)
    → old ≡ new ++ p ∷ [] → m ≡ expr_slots t n (expr_view p) → exprs_slots t n (exprs_view (reverse old)) ≡ all → exprs_slots t m (exprs_view (reverse new)) ≡ all
expr_counted t n m old new p all is_old is_m so_far =
    ap (λ k. exprs_slots t k (exprs_view (reverse new))) is_m ∙ ap (exprs_slots t n) (sym (next_expr old new p is_old)) ∙ so_far

pub stmt_done : (t : List (Option PlainSmall)) (n m : ℕ) (old new : List IrStmt) (p : IrStmt) (done now : List IrStmt) (r : IrStmt) (all : PlainStmts)
    → old ≡ new ++ p ∷ [] → now ≡ done ++ r ∷ [] → stmt_view r ≡ inlined_stmt t n (stmt_view p) → m ≡ stmt_slots t n (stmt_view p)
    → stmts_before done (inlined_stmts t n (stmts_view (reverse old))) ≡ all → stmts_before now (inlined_stmts t m (stmts_view (reverse new))) ≡ all
stmt_done t n m old new p done now r all is_old is_now is_r is_m so_far =
    ap (λ l. stmts_before l (inlined_stmts t m (stmts_view (reverse new)))) is_now
    ∙ stmts_before-push done r (inlined_stmts t m (stmts_view (reverse new)))
    ∙ ap (λ e. stmts_before done (stmts e (inlined_stmts t m (stmts_view (reverse new))))) is_r
    ∙ ap (λ k. stmts_before done (stmts (inlined_stmt t n (stmt_view p)) (inlined_stmts t k (stmts_view (reverse new))))) is_m
    ∙ ap (λ v. stmts_before done (inlined_stmts t n v)) (sym (next_stmt old new p is_old))
    ∙ so_far

pub stmt_counted : (t : List (Option PlainSmall)) (n m : ℕ) (old new : List IrStmt) (p : IrStmt) (all : ℕ)
    → old ≡ new ++ p ∷ [] → m ≡ stmt_slots t n (stmt_view p) → stmts_slots t n (stmts_view (reverse old)) ≡ all → stmts_slots t m (stmts_view (reverse new)) ≡ all
stmt_counted t n m old new p all is_old is_m so_far =
    ap (λ k. stmts_slots t k (stmts_view (reverse new))) is_m ∙ ap (stmts_slots t n) (sym (next_stmt old new p is_old)) ∙ so_far
