-- What each variant of the trees loads.
use Rattle.std.proofs.Common.{◌≡◌, ℕ, suc, ◌+◌, ◌<◌, List, length, get_or, drop, sym, ap, ◌∙◌, add-one}
use Rattle.std.proofs.Math.Seq.{drop-cons}
use Rattle.unit_ir.specs.declared.operator.Unary.{Unary}
use Rattle.unit_ir.specs.declared.operator.Binary.{Binary}
use Rattle.unit_ir.specs.declared.expr.IrExpr.{IrExpr}
use Rattle.unit_ir.specs.declared.expr.IrExpr.TheVariants.{Const, Load, Op1, Op2, And, Or, Call, Seq, Bind}
use Rattle.unit_ir.specs.declared.stmt.IrStmt.{IrStmt}
use Rattle.unit_ir.specs.declared.stmt.IrStmt.TheVariants.{Store, If, While}
use Rattle.unit_ir.specs.ExprView.{expr_view, exprs_view}
use Rattle.unit_ir.specs.StmtView.{stmt_view, stmts_view}
use Rattle.unit_ir.proofs.Views.{expr_view-Const, expr_view-Load, expr_view-Op1, expr_view-Op2, expr_view-And, expr_view-Or, expr_view-Call, expr_view-Seq, expr_view-Bind, stmt_view-Store, stmt_view-If, stmt_view-While}
use Rattle.opt_slots.specs.Slots.{no_slot, only, also}
use lib.IntN.{ℤ}
use Rattle.opt_slots.specs.Loads.{expr_loads, exprs_loads, stmt_loads, stmts_loads}

pub expr_loads-Const : (v : ℤ) → expr_loads (expr_view (Const v)) ≡ no_slot
expr_loads-Const v = ap expr_loads (expr_view-Const v)

pub expr_loads-Load : (s : ℕ) → expr_loads (expr_view (Load s)) ≡ only s
expr_loads-Load s = ap expr_loads (expr_view-Load s)

pub expr_loads-Op1 : (o : Unary) (a : IrExpr) → expr_loads (expr_view (Op1 o a)) ≡ expr_loads (expr_view a)
expr_loads-Op1 o a = ap expr_loads (expr_view-Op1 o a)

pub expr_loads-Op2 : (o : Binary) (a b : IrExpr) → expr_loads (expr_view (Op2 o a b)) ≡ also (expr_loads (expr_view a)) (expr_loads (expr_view b))
expr_loads-Op2 o a b = ap expr_loads (expr_view-Op2 o a b)

pub expr_loads-And : (a b : IrExpr) → expr_loads (expr_view (And a b)) ≡ also (expr_loads (expr_view a)) (expr_loads (expr_view b))
expr_loads-And a b = ap expr_loads (expr_view-And a b)

pub expr_loads-Or : (a b : IrExpr) → expr_loads (expr_view (Or a b)) ≡ also (expr_loads (expr_view a)) (expr_loads (expr_view b))
expr_loads-Or a b = ap expr_loads (expr_view-Or a b)

pub expr_loads-Call : (k : ℕ) (es : List IrExpr) → expr_loads (expr_view (Call k es)) ≡ exprs_loads (exprs_view es)
expr_loads-Call k es = ap expr_loads (expr_view-Call k es)

pub expr_loads-Seq : (es : List IrExpr) → expr_loads (expr_view (Seq es)) ≡ exprs_loads (exprs_view es)
expr_loads-Seq es = ap expr_loads (expr_view-Seq es)

pub expr_loads-Bind : (s w : ℕ) (a b : IrExpr) → expr_loads (expr_view (Bind s w a b)) ≡ also (expr_loads (expr_view a)) (expr_loads (expr_view b))
expr_loads-Bind s w a b = ap expr_loads (expr_view-Bind s w a b)

pub stmt_loads-Store : (s w : ℕ) (e : IrExpr) → stmt_loads (stmt_view (Store s w e)) ≡ expr_loads (expr_view e)
stmt_loads-Store s w e = ap stmt_loads (stmt_view-Store s w e)

pub stmt_loads-If : (e : IrExpr) (a b : List IrStmt) → stmt_loads (stmt_view (If e a b)) ≡ also (expr_loads (expr_view e)) (also (stmts_loads (stmts_view a)) (stmts_loads (stmts_view b)))
stmt_loads-If e a b = ap stmt_loads (stmt_view-If e a b)

pub stmt_loads-While : (e : IrExpr) (a : List IrStmt) → stmt_loads (stmt_view (While e a)) ≡ also (expr_loads (expr_view e)) (stmts_loads (stmts_view a))
stmt_loads-While e a = ap stmt_loads (stmt_view-While e a)

pub exprs_loads-drop : (xs : List IrExpr) (i : ℕ) (x : IrExpr) → i < length xs → x ≡ get_or xs i x
    → exprs_loads (exprs_view (drop i xs)) ≡ also (expr_loads (expr_view x)) (exprs_loads (exprs_view (drop (i + 1) xs)))
exprs_loads-drop xs i x h is_x =
    ap (λ l. exprs_loads (exprs_view l)) (drop-cons xs i x h)
    ∙ ap (λ y. also (expr_loads (expr_view y)) (exprs_loads (exprs_view (drop (suc i) xs)))) (sym is_x)
    ∙ ap (λ n. also (expr_loads (expr_view x)) (exprs_loads (exprs_view (drop n xs)))) (sym (add-one i))

pub stmts_loads-drop : (xs : List IrStmt) (i : ℕ) (x : IrStmt) → i < length xs → x ≡ get_or xs i x
    → stmts_loads (stmts_view (drop i xs)) ≡ also (stmt_loads (stmt_view x)) (stmts_loads (stmts_view (drop (i + 1) xs)))
stmts_loads-drop xs i x h is_x =
    ap (λ l. stmts_loads (stmts_view l)) (drop-cons xs i x h)
    ∙ ap (λ y. also (stmt_loads (stmt_view y)) (stmts_loads (stmts_view (drop (suc i) xs)))) (sym is_x)
    ∙ ap (λ n. also (stmt_loads (stmt_view x)) (stmts_loads (stmts_view (drop n xs)))) (sym (add-one i))
