-- What each variant of the trees stands for.
use Rattle.std.proofs.Common.{◌≡◌, ℕ, List, Bool, sym, ap, ◌∙◌}
use Rattle.std.specs.Prelude.{ℤ}
use Rattle.unit_input.specs.declared.expr.UnaryOp.{UnaryOp}
use Rattle.unit_input.specs.declared.expr.BinaryOp.{BinaryOp}
use Rattle.unit_input.specs.declared.expr.UnitExpr.{UnitExpr}
use Rattle.unit_input.specs.declared.expr.UnitExpr.TheVariants.{Int, Bool as Truth, Local, Field, Tuple, Unary, Binary, Call, rolls-Int, rolls-Bool, rolls-Local, rolls-Field, rolls-Tuple, rolls-Unary, rolls-Binary, rolls-Call}
use Rattle.unit_input.specs.declared.expr.UnitExpr.TheOpen.{UnitExpr-F}
use Rattle.unit_input.specs.declared.expr.UnitExpr.TheFolds.{fold-roll-UnitExpr}
use Rattle.unit_input.specs.declared.stmt.UnitStmt.{UnitStmt}
use Rattle.unit_input.specs.declared.stmt.UnitStmt.TheVariants.{Let, Assign, If, While, Return, Print, Assert, Eval, rolls-Let, rolls-Assign, rolls-If, rolls-While, rolls-Return, rolls-Print, rolls-Assert, rolls-Eval}
use Rattle.unit_input.specs.declared.stmt.UnitStmt.TheOpen.{UnitStmt-F}
use Rattle.unit_input.specs.declared.stmt.UnitStmt.TheFolds.{fold-roll-UnitStmt}
use Rattle.unit_input.specs.Exprs.{PlainExpr, int, truth, local, field, tuple, unary, binary, call}
use Rattle.unit_input.specs.Stmts.{PlainStmt, declare, assign, fork, loop, give, print, assert, eval}
use Rattle.unit_input.specs.InputView.{expr_step, expr_view, exprs_view, stmt_step, stmt_view, stmts_view}

pub expr_view-Int : (v : ℤ) → expr_view (Int v) ≡ int v
expr_view-Int v = ap expr_view (sym (rolls-Int v)) ∙ fold-roll-UnitExpr PlainExpr expr_step (UnitExpr-F.Int v)

pub expr_view-Bool : (b : Bool) → expr_view (Truth b) ≡ truth b
expr_view-Bool b = ap expr_view (sym (rolls-Bool b)) ∙ fold-roll-UnitExpr PlainExpr expr_step (UnitExpr-F.Bool b)

pub expr_view-Local : (n : ℕ) → expr_view (Local n) ≡ local n
expr_view-Local n = ap expr_view (sym (rolls-Local n)) ∙ fold-roll-UnitExpr PlainExpr expr_step (UnitExpr-F.Local n)

pub expr_view-Field : (e : UnitExpr) (o w : ℕ) → expr_view (Field e o w) ≡ field (expr_view e) o w
expr_view-Field e o w = ap expr_view (sym (rolls-Field e o w)) ∙ fold-roll-UnitExpr PlainExpr expr_step (UnitExpr-F.Field e o w)

pub expr_view-Tuple : (es : List UnitExpr) → expr_view (Tuple es) ≡ tuple (exprs_view es)
expr_view-Tuple es = ap expr_view (sym (rolls-Tuple es)) ∙ fold-roll-UnitExpr PlainExpr expr_step (UnitExpr-F.Tuple es)

pub expr_view-Unary : (op : UnaryOp) (e : UnitExpr) → expr_view (Unary op e) ≡ unary op (expr_view e)
expr_view-Unary op e = ap expr_view (sym (rolls-Unary op e)) ∙ fold-roll-UnitExpr PlainExpr expr_step (UnitExpr-F.Unary op e)

pub expr_view-Binary : (op : BinaryOp) (a b : UnitExpr) → expr_view (Binary op a b) ≡ binary op (expr_view a) (expr_view b)
expr_view-Binary op a b = ap expr_view (sym (rolls-Binary op a b)) ∙ fold-roll-UnitExpr PlainExpr expr_step (UnitExpr-F.Binary op a b)

pub expr_view-Call : (k : ℕ) (es : List UnitExpr) → expr_view (Call k es) ≡ call k (exprs_view es)
expr_view-Call k es = ap expr_view (sym (rolls-Call k es)) ∙ fold-roll-UnitExpr PlainExpr expr_step (UnitExpr-F.Call k es)

pub stmt_view-Let : (n : ℕ) (e : UnitExpr) → stmt_view (Let n e) ≡ declare n (expr_view e)
stmt_view-Let n e = ap stmt_view (sym (rolls-Let n e)) ∙ fold-roll-UnitStmt PlainStmt stmt_step (UnitStmt-F.Let n e)

pub stmt_view-Assign : (n o w : ℕ) (e : UnitExpr) → stmt_view (Assign n o w e) ≡ assign n o w (expr_view e)
stmt_view-Assign n o w e = ap stmt_view (sym (rolls-Assign n o w e)) ∙ fold-roll-UnitStmt PlainStmt stmt_step (UnitStmt-F.Assign n o w e)

pub stmt_view-If : (e : UnitExpr) (a b : List UnitStmt) → stmt_view (If e a b) ≡ fork (expr_view e) (stmts_view a) (stmts_view b)
stmt_view-If e a b = ap stmt_view (sym (rolls-If e a b)) ∙ fold-roll-UnitStmt PlainStmt stmt_step (UnitStmt-F.If e a b)

pub stmt_view-While : (e : UnitExpr) (a : List UnitStmt) → stmt_view (While e a) ≡ loop (expr_view e) (stmts_view a)
stmt_view-While e a = ap stmt_view (sym (rolls-While e a)) ∙ fold-roll-UnitStmt PlainStmt stmt_step (UnitStmt-F.While e a)

pub stmt_view-Return : (e : UnitExpr) → stmt_view (Return e) ≡ give (expr_view e)
stmt_view-Return e = ap stmt_view (sym (rolls-Return e)) ∙ fold-roll-UnitStmt PlainStmt stmt_step (UnitStmt-F.Return e)

pub stmt_view-Print : (e : UnitExpr) → stmt_view (Print e) ≡ print (expr_view e)
stmt_view-Print e = ap stmt_view (sym (rolls-Print e)) ∙ fold-roll-UnitStmt PlainStmt stmt_step (UnitStmt-F.Print e)

pub stmt_view-Assert : (e : UnitExpr) → stmt_view (Assert e) ≡ assert (expr_view e)
stmt_view-Assert e = ap stmt_view (sym (rolls-Assert e)) ∙ fold-roll-UnitStmt PlainStmt stmt_step (UnitStmt-F.Assert e)

pub stmt_view-Eval : (e : UnitExpr) → stmt_view (Eval e) ≡ eval (expr_view e)
stmt_view-Eval e = ap stmt_view (sym (rolls-Eval e)) ∙ fold-roll-UnitStmt PlainStmt stmt_step (UnitStmt-F.Eval e)
