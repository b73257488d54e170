-- What each variant of the trees stands for.
use Rattle.std.proofs.Common.{◌≡◌, ℕ, ℤ, List, sym, ap, ◌∙◌}
use Rattle.unit_ir.specs.declared.operator.Unary.{Unary}
use Rattle.unit_ir.specs.declared.operator.Binary.{Binary}
use Rattle.unit_ir.specs.declared.expr.IrExpr.{IrExpr}
use Rattle.unit_ir.specs.declared.expr.IrExpr.TheVariants.{Const, Load, Op1, Op2, And, Or, Call, Seq, Bind, rolls-Const, rolls-Load, rolls-Op1, rolls-Op2, rolls-And, rolls-Or, rolls-Call, rolls-Seq, rolls-Bind}
use Rattle.unit_ir.specs.declared.expr.IrExpr.TheOpen.{IrExpr-F}
use Rattle.unit_ir.specs.declared.expr.IrExpr.TheFolds.{fold-roll-IrExpr}
use Rattle.unit_ir.specs.declared.stmt.IrStmt.{IrStmt}
use Rattle.unit_ir.specs.declared.stmt.IrStmt.TheVariants.{Store, If, While, Return, Print, Eval, rolls-Store, rolls-If, rolls-While, rolls-Return, rolls-Print, rolls-Eval}
use Rattle.unit_ir.specs.declared.stmt.IrStmt.TheOpen.{IrStmt-F}
use Rattle.unit_ir.specs.declared.stmt.IrStmt.TheFolds.{fold-roll-IrStmt}
use Rattle.unit_ir.specs.Exprs.{PlainExpr, word, load, op1, op2, both, either, call, seq, bind}
use Rattle.unit_ir.specs.Stmts.{PlainStmt, store, fork, loop, give, print, eval}
use Rattle.unit_ir.specs.ExprView.{expr_step, expr_view, exprs_view}
use Rattle.unit_ir.specs.StmtView.{stmt_step, stmt_view, stmts_view}

pub expr_view-Const : (v : ℤ) → expr_view (Const v) ≡ word v
expr_view-Const v = ap expr_view (sym (rolls-Const v)) ∙ fold-roll-IrExpr PlainExpr expr_step (IrExpr-F.Const v)

pub expr_view-Load : (s : ℕ) → expr_view (Load s) ≡ load s
expr_view-Load s = ap expr_view (sym (rolls-Load s)) ∙ fold-roll-IrExpr PlainExpr expr_step (IrExpr-F.Load s)

pub expr_view-Op1 : (o : Unary) (a : IrExpr) → expr_view (Op1 o a) ≡ op1 o (expr_view a)
expr_view-Op1 o a = ap expr_view (sym (rolls-Op1 o a)) ∙ fold-roll-IrExpr PlainExpr expr_step (IrExpr-F.Op1 o a)

pub expr_view-Op2 : (o : Binary) (a b : IrExpr) → expr_view (Op2 o a b) ≡ op2 o (expr_view a) (expr_view b)
expr_view-Op2 o a b = ap expr_view (sym (rolls-Op2 o a b)) ∙ fold-roll-IrExpr PlainExpr expr_step (IrExpr-F.Op2 o a b)

pub expr_view-And : (a b : IrExpr) → expr_view (And a b) ≡ both (expr_view a) (expr_view b)
expr_view-And a b = ap expr_view (sym (rolls-And a b)) ∙ fold-roll-IrExpr PlainExpr expr_step (IrExpr-F.And a b)

pub expr_view-Or : (a b : IrExpr) → expr_view (Or a b) ≡ either (expr_view a) (expr_view b)
expr_view-Or a b = ap expr_view (sym (rolls-Or a b)) ∙ fold-roll-IrExpr PlainExpr expr_step (IrExpr-F.Or a b)

pub expr_view-Call : (k : ℕ) (es : List IrExpr) → expr_view (Call k es) ≡ call k (exprs_view es)
expr_view-Call k es = ap expr_view (sym (rolls-Call k es)) ∙ fold-roll-IrExpr PlainExpr expr_step (IrExpr-F.Call k es)

pub expr_view-Seq : (es : List IrExpr) → expr_view (Seq es) ≡ seq (exprs_view es)
expr_view-Seq es = ap expr_view (sym (rolls-Seq es)) ∙ fold-roll-IrExpr PlainExpr expr_step (IrExpr-F.Seq es)

pub expr_view-Bind : (s w : ℕ) (a b : IrExpr) → expr_view (Bind s w a b) ≡ bind s w (expr_view a) (expr_view b)
expr_view-Bind s w a b = ap expr_view (sym (rolls-Bind s w a b)) ∙ fold-roll-IrExpr PlainExpr expr_step (IrExpr-F.Bind s w a b)

pub stmt_view-Store : (s w : ℕ) (e : IrExpr) → stmt_view (Store s w e) ≡ store s w (expr_view e)
stmt_view-Store s w e = ap stmt_view (sym (rolls-Store s w e)) ∙ fold-roll-IrStmt PlainStmt stmt_step (IrStmt-F.Store s w e)

pub stmt_view-If : (e : IrExpr) (a b : List IrStmt) → stmt_view (If e a b) ≡ fork (expr_view e) (stmts_view a) (stmts_view b)
stmt_view-If e a b = ap stmt_view (sym (rolls-If e a b)) ∙ fold-roll-IrStmt PlainStmt stmt_step (IrStmt-F.If e a b)

pub stmt_view-While : (e : IrExpr) (a : List IrStmt) → stmt_view (While e a) ≡ loop (expr_view e) (stmts_view a)
stmt_view-While e a = ap stmt_view (sym (rolls-While e a)) ∙ fold-roll-IrStmt PlainStmt stmt_step (IrStmt-F.While e a)

pub stmt_view-Return : (e : IrExpr) → stmt_view (Return e) ≡ give (expr_view e)
stmt_view-Return e = ap stmt_view (sym (rolls-Return e)) ∙ fold-roll-IrStmt PlainStmt stmt_step (IrStmt-F.Return e)

pub stmt_view-Print : (e : IrExpr) → stmt_view (Print e) ≡ print (expr_view e)
stmt_view-Print e = ap stmt_view (sym (rolls-Print e)) ∙ fold-roll-IrStmt PlainStmt stmt_step (IrStmt-F.Print e)

pub stmt_view-Eval : (e : IrExpr) (w : ℕ) → stmt_view (Eval e w) ≡ eval (expr_view e) w
stmt_view-Eval e w = ap stmt_view (sym (rolls-Eval e w)) ∙ fold-roll-IrStmt PlainStmt stmt_step (IrStmt-F.Eval e w)
