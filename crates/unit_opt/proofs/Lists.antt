-- Lists of statements, one ahead of the other.
use Rattle.std.proofs.Common.{◌≡◌, List, [], ◌∷◌, ◌++◌, refl, sym, ap, ◌∙◌}
use Rattle.std.specs.Prelude.{reverse}
use Rattle.unit_ir.specs.declared.stmt.IrStmt.{IrStmt}
use Rattle.unit_ir.specs.Stmts.{store, fork, loop, give, print, eval, PlainStmts, no_stmts, stmts}
use Rattle.unit_ir.specs.StmtView.{stmt_view, stmts_view}
use Rattle.unit_opt.specs.Fold.{fold_stmt, fold_each}
use Rattle.unit_opt.specs.Lists.{joined, ahead}

pub ahead-joined : (xs ys zs : PlainStmts) → ahead (joined xs ys) zs ≡ ahead xs (ahead ys zs)
ahead-joined no_stmts ys zs = refl
ahead-joined (stmts (store s w e) ss) ys zs = ap (stmts (store s w e)) (ahead-joined ss ys zs)
ahead-joined (stmts (fork e a b) ss) ys zs = ap (stmts (fork e a b)) (ahead-joined ss ys zs)
ahead-joined (stmts (loop e a) ss) ys zs = ap (stmts (loop e a)) (ahead-joined ss ys zs)
ahead-joined (stmts (give e) ss) ys zs = refl
ahead-joined (stmts (print e) ss) ys zs = ap (stmts (print e)) (ahead-joined ss ys zs)
ahead-joined (stmts (eval e w) ss) ys zs = ap (stmts (eval e w)) (ahead-joined ss ys zs)

-- folding the last statement of a list ahead of what stands after the list
pub ahead-fold_each : (xs : List IrStmt) (last : IrStmt) (zs : PlainStmts) → ahead (fold_each (stmts_view (xs ++ last ∷ []))) zs ≡ ahead (fold_each (stmts_view xs)) (ahead (fold_stmt (stmt_view last)) zs)
ahead-fold_each [] last zs = ahead-joined (fold_stmt (stmt_view last)) no_stmts zs
ahead-fold_each (x ∷ xs) last zs =
    ahead-joined (fold_stmt (stmt_view x)) (fold_each (stmts_view (xs ++ last ∷ []))) zs
    ∙ ap (ahead (fold_stmt (stmt_view x))) (ahead-fold_each xs last zs)
    ∙ sym (ahead-joined (fold_stmt (stmt_view x)) (fold_each (stmts_view xs)) (ahead (fold_stmt (stmt_view last)) zs))

-- one turn of a loop that folds the last statement of a list ahead of what stands after the list
pub kept_ahead : (old new : List IrStmt) (last : IrStmt) (before now : List IrStmt) (zs : PlainStmts) → old ≡ new ++ last ∷ [] → stmts_view (reverse now) ≡ ahead (fold_stmt (stmt_view last)) (stmts_view (reverse before))
    → ahead (fold_each (stmts_view old)) (stmts_view (reverse before)) ≡ zs → ahead (fold_each (stmts_view new)) (stmts_view (reverse now)) ≡ zs
kept_ahead old new last before now zs is_old is_now so_far =
    ap (ahead (fold_each (stmts_view new))) is_now
    ∙ sym (ahead-fold_each new last (stmts_view (reverse before)))
    ∙ ap (λ l. ahead (fold_each (stmts_view l)) (stmts_view (reverse before))) (sym is_old)
    ∙ so_far
