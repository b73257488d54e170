use Rattle.std.proofs.Common.{refl, arith}
use Rattle.lar_tree.specs.declared.stmt.Stmt.{Stmt}
use Rattle.lar_tree.specs.StmtView.{stmt_view, stmts_view}
use Rattle.lar_tree.specs.Stmts.{flat_stmt, flat_stmts}
use Rattle.lar_tree.proofs.Onwards.{onwards}
use Rattle.lar_tree.proofs.spell.Speller.+stmt.Goals as goal

pub stmts-loop-stmt-preserved : goal.stmts-loop-stmt-preserved
stmts-loop-stmt-preserved t c =
    let done = c.in_ok-stmt.ensures in
    onwards {A = Stmt} (λ xs. flat_stmts (stmts_view xs)) (λ x. flat_stmt (stmt_view x)) c.args.stmts.now c.loop-stmt.stmt-index c.stmt-item.result _ _ _ (λ ys. refl) (omega arith) c.stmt-item.is c.loop-stmt.invariant done
