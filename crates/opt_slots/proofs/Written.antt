-- What each variant of the trees writes.
use Rattle.std.proofs.Common.{◌≡◌, ℕ, suc, ◌+◌, ◌<◌, List, length, get_or, drop, sym, ap, ◌∙◌, add-one}
use Rattle.std.proofs.Math.Seq.{drop-cons}
use Rattle.unit_ir.specs.declared.operator.Unary.{Unary}
use Rattle.unit_ir.specs.declared.operator.Binary.{Binary}
use Rattle.unit_ir.specs.declared.expr.IrExpr.{IrExpr}
use Rattle.unit_ir.specs.declared.expr.IrExpr.TheVariants.{Const, Load, Op1, Op2, And, Or, Call, Seq, Bind}
use Rattle.unit_ir.specs.declared.stmt.IrStmt.{IrStmt}
use Rattle.unit_ir.specs.declared.stmt.IrStmt.TheVariants.{Store, If, While}
use Rattle.unit_ir.specs.ExprView.{expr_view, exprs_view}
use Rattle.unit_ir.specs.StmtView.{stmt_view, stmts_view}
use Rattle.unit_ir.proofs.Views.{expr_view-Const, expr_view-Load, expr_view-Op1, expr_view-Op2, expr_view-And, expr_view-Or, expr_view-Call, expr_view-Seq, expr_view-Bind, stmt_view-Store, stmt_view-If, stmt_view-While}
use Rattle.opt_slots.specs.Slots.{no_slot, span, also}
use lib.IntN.{ℤ}
use Rattle.opt_slots.specs.Writes.{expr_writes, exprs_writes, stmt_writes, stmts_writes}

pub expr_writes-Const : (v : ℤ) → expr_writes (expr_view (Const v)) ≡ no_slot
expr_writes-Const v = ap expr_writes (expr_view-Const v)

pub expr_writes-Load : (s : ℕ) → expr_writes (expr_view (Load s)) ≡ no_slot
expr_writes-Load s = ap expr_writes (expr_view-Load s)

pub expr_writes-Op1 : (o : Unary) (a : IrExpr) → expr_writes (expr_view (Op1 o a)) ≡ expr_writes (expr_view a)
expr_writes-Op1 o a = ap expr_writes (expr_view-Op1 o a)

pub expr_writes-Op2 : (o : Binary) (a b : IrExpr) → expr_writes (expr_view (Op2 o a b)) ≡ also (expr_writes (expr_view a)) (expr_writes (expr_view b))
expr_writes-Op2 o a b = ap expr_writes (expr_view-Op2 o a b)

pub expr_writes-And : (a b : IrExpr) → expr_writes (expr_view (And a b)) ≡ also (expr_writes (expr_view a)) (expr_writes (expr_view b))
expr_writes-And a b = ap expr_writes (expr_view-And a b)

pub expr_writes-Or : (a b : IrExpr) → expr_writes (expr_view (Or a b)) ≡ also (expr_writes (expr_view a)) (expr_writes (expr_view b))
expr_writes-Or a b = ap expr_writes (expr_view-Or a b)

pub expr_writes-Call : (k : ℕ) (es : List IrExpr) → expr_writes (expr_view (Call k es)) ≡ exprs_writes (exprs_view es)
expr_writes-Call k es = ap expr_writes (expr_view-Call k es)

pub expr_writes-Seq : (es : List IrExpr) → expr_writes (expr_view (Seq es)) ≡ exprs_writes (exprs_view es)
expr_writes-Seq es = ap expr_writes (expr_view-Seq es)

pub expr_writes-Bind : (s w : ℕ) (a b : IrExpr) → expr_writes (expr_view (Bind s w a b)) ≡ also (expr_writes (expr_view a)) (also (span s w) (expr_writes (expr_view b)))
expr_writes-Bind s w a b = ap expr_writes (expr_view-Bind s w a b)

pub stmt_writes-Store : (s w : ℕ) (e : IrExpr) → stmt_writes (stmt_view (Store s w e)) ≡ also (expr_writes (expr_view e)) (span s w)
stmt_writes-Store s w e = ap stmt_writes (stmt_view-Store s w e)

pub stmt_writes-If : (e : IrExpr) (a b : List IrStmt) → stmt_writes (stmt_view (If e a b)) ≡ also (expr_writes (expr_view e)) (also (stmts_writes (stmts_view a)) (stmts_writes (stmts_view b)))
stmt_writes-If e a b = ap stmt_writes (stmt_view-If e a b)

pub stmt_writes-While : (e : IrExpr) (a : List IrStmt) → stmt_writes (stmt_view (While e a)) ≡ also (expr_writes (expr_view e)) (stmts_writes (stmts_view a))
stmt_writes-While e a = ap stmt_writes (stmt_view-While e a)

pub exprs_writes-drop : (xs : List IrExpr) (i : ℕ) (x : IrExpr) → i < length xs → x ≡ get_or xs i x
    → exprs_writes (exprs_view (drop i xs)) ≡ also (expr_writes (expr_view x)) (exprs_writes (exprs_view (drop (i + 1) xs)))
exprs_writes-drop xs i x h is_x =
    ap (λ l. exprs_writes (exprs_view l)) (drop-cons xs i x h)
    ∙ ap (λ y. also (expr_writes (expr_view y)) (exprs_writes (exprs_view (drop (suc i) xs)))) (sym is_x)
    ∙ ap (λ n. also (expr_writes (expr_view x)) (exprs_writes (exprs_view (drop n xs)))) (sym (add-one i))

pub stmts_writes-drop : (xs : List IrStmt) (i : ℕ) (x : IrStmt) → i < length xs → x ≡ get_or xs i x
    → stmts_writes (stmts_view (drop i xs)) ≡ also (stmt_writes (stmt_view x)) (stmts_writes (stmts_view (drop (i + 1) xs)))
stmts_writes-drop xs i x h is_x =
    ap (λ l. stmts_writes (stmts_view l)) (drop-cons xs i x h)
    ∙ ap (λ y. also (stmt_writes (stmt_view y)) (stmts_writes (stmts_view (drop (suc i) xs)))) (sym is_x)
    ∙ ap (λ n. also (stmt_writes (stmt_view x)) (stmts_writes (stmts_view (drop n xs)))) (sym (add-one i))
