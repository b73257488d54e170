-- Lists of statements that stand turned round, and what they cost.
use Rattle.std.proofs.Common.{◌≡◌, ◌+◌, List, [], ◌∷◌, ◌++◌, ap, ◌∙◌, arith}
use Rattle.std.specs.Prelude.{reverse}
use Rattle.std.proofs.lemmas.List.{reverse-append}
use Rattle.unit_ir.specs.declared.stmt.IrStmt.{IrStmt}
use Rattle.unit_ir.specs.Cost.{stmt_cost, stmts_cost}
use Rattle.unit_ir.specs.Stmts.{PlainStmt, stmts}
use Rattle.unit_ir.specs.StmtView.{stmt_view, stmts_view}

-- a list that stands turned round, with one statement more
pub stmts_view-pushed : (old new : List IrStmt) (s : IrStmt) (p : PlainStmt) → new ≡ old ++ s ∷ [] → stmt_view s ≡ p → stmts_view (reverse new) ≡ stmts p (stmts_view (reverse old))
stmts_view-pushed old new s p is_new is_p =
    ap (λ l. stmts_view (reverse l)) is_new
    ∙ ap stmts_view (reverse-append old (s ∷ []))
    ∙ ap (λ q. stmts q (stmts_view (reverse old))) is_p

stmts_cost-push : (xs : List IrStmt) (s : IrStmt) → stmts_cost (stmts_view (xs ++ s ∷ [])) ≡ stmts_cost (stmts_view xs) + stmt_cost (stmt_view s)
stmts_cost-push [] s = omega arith
stmts_cost-push (x ∷ xs) s = omega (arith, stmts_cost-push xs s)

-- what a list costs without its last statement
pub cost_of_last : (old new : List IrStmt) (last : IrStmt) → old ≡ new ++ last ∷ [] → stmts_cost (stmts_view old) ≡ stmts_cost (stmts_view new) + stmt_cost (stmt_view last)
cost_of_last old new last is_old = ap (λ l. stmts_cost (stmts_view l)) is_old ∙ stmts_cost-push new last
