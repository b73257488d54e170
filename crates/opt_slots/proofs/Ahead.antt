-- Lists that are walked from the first member on: the members that are done stand before those that are to come.
use Rattle.std.proofs.Common.{◌≡◌, ◌+◌, List, [], ◌∷◌, ◌++◌, refl, ap, ◌∙◌}
use Rattle.std.specs.Prelude.{reverse}
use Rattle.std.proofs.lemmas.List.{reverse-append, reverse-reverse}
use Rattle.unit_ir.specs.declared.expr.IrExpr.{IrExpr}
use Rattle.unit_ir.specs.declared.stmt.IrStmt.{IrStmt}
use Rattle.unit_ir.specs.Exprs.{PlainExprs, no_exprs, exprs}
use Rattle.unit_ir.specs.Stmts.{PlainStmts, no_stmts, stmts}
use Rattle.unit_ir.specs.ExprView.{expr_view, exprs_view}
use Rattle.unit_ir.specs.StmtView.{stmt_view, stmts_view}
use Rattle.unit_ir.specs.Cost.{expr_cost, exprs_cost, stmt_cost, stmts_cost}

abbrev pub exprs_before : List IrExpr → PlainExprs → PlainExprs
exprs_before [] others = others
exprs_before (d ∷ ds) others = exprs (expr_view d) (exprs_before ds others)

abbrev pub stmts_before : List IrStmt → PlainStmts → PlainStmts
stmts_before [] others = others
stmts_before (d ∷ ds) others = stmts (stmt_view d) (stmts_before ds others)

pub exprs_before-none : (ds : List IrExpr) → exprs_before ds no_exprs ≡ exprs_view ds
exprs_before-none [] = refl
exprs_before-none (d ∷ ds) = ap (exprs (expr_view d)) (exprs_before-none ds)

pub stmts_before-none : (ds : List IrStmt) → stmts_before ds no_stmts ≡ stmts_view ds
stmts_before-none [] = refl
stmts_before-none (d ∷ ds) = ap (stmts (stmt_view d)) (stmts_before-none ds)

pub exprs_before-push : (ds : List IrExpr) (r : IrExpr) (others : PlainExprs) → exprs_before (ds ++ r ∷ []) others ≡ exprs_before ds (exprs (expr_view r) others)
exprs_before-push [] r others = refl
exprs_before-push (d ∷ ds) r others = ap (exprs (expr_view d)) (exprs_before-push ds r others)

pub stmts_before-push : (ds : List IrStmt) (r : IrStmt) (others : PlainStmts) → stmts_before (ds ++ r ∷ []) others ≡ stmts_before ds (stmts (stmt_view r) others)
stmts_before-push [] r others = refl
stmts_before-push (d ∷ ds) r others = ap (stmts (stmt_view d)) (stmts_before-push ds r others)

-- the members of a list that stands turned round, when its last is taken
pub next_expr : (old new : List IrExpr) (p : IrExpr) → old ≡ new ++ p ∷ [] → exprs_view (reverse old) ≡ exprs (expr_view p) (exprs_view (reverse new))
next_expr old new p is_old = ap (λ l. exprs_view (reverse l)) is_old ∙ ap exprs_view (reverse-append new (p ∷ []))

pub next_stmt : (old new : List IrStmt) (p : IrStmt) → old ≡ new ++ p ∷ [] → stmts_view (reverse old) ≡ stmts (stmt_view p) (stmts_view (reverse new))
next_stmt old new p is_old = ap (λ l. stmts_view (reverse l)) is_old ∙ ap stmts_view (reverse-append new (p ∷ []))

pub begun_exprs : (rest parts : List IrExpr) → rest ≡ reverse parts → exprs_view (reverse rest) ≡ exprs_view parts
begun_exprs rest parts is = ap (λ l. exprs_view (reverse l)) is ∙ ap exprs_view (reverse-reverse parts)

pub begun_stmts : (rest parts : List IrStmt) → rest ≡ reverse parts → stmts_view (reverse rest) ≡ stmts_view parts
begun_stmts rest parts is = ap (λ l. stmts_view (reverse l)) is ∙ ap stmts_view (reverse-reverse parts)

pub next_cost : (old new : List IrExpr) (p : IrExpr) → old ≡ new ++ p ∷ [] → exprs_cost (exprs_view (reverse old)) ≡ expr_cost (expr_view p) + exprs_cost (exprs_view (reverse new))
next_cost old new p is_old = ap exprs_cost (next_expr old new p is_old)

pub next_stmt_cost : (old new : List IrStmt) (p : IrStmt) → old ≡ new ++ p ∷ [] → stmts_cost (stmts_view (reverse old)) ≡ stmt_cost (stmt_view p) + stmts_cost (stmts_view (reverse new))
next_stmt_cost old new p is_old = ap stmts_cost (next_stmt old new p is_old)
