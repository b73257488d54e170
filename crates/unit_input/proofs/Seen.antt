-- What an expression or a statement stands for, where one of its variants was seen and its parts were looked at.
use Rattle.std.proofs.Common.{◌≡◌, ℕ, List, sym, ap, ◌∙◌}
use Rattle.unit_input.specs.declared.expr.UnaryOp.{UnaryOp}
use Rattle.unit_input.specs.declared.expr.BinaryOp.{BinaryOp}
use Rattle.unit_input.specs.declared.expr.UnitExpr.{UnitExpr}
use Rattle.unit_input.specs.declared.expr.UnitExpr.TheVariants as the
use Rattle.unit_input.specs.declared.stmt.UnitStmt.{UnitStmt}
use Rattle.unit_input.specs.declared.stmt.UnitStmt.TheVariants as the_stmt
use Rattle.unit_input.specs.Exprs.{field, tuple, unary, binary, call}
use Rattle.unit_input.specs.Stmts.{fork, loop}
use Rattle.unit_input.specs.InputView.{expr_view, exprs_view, stmt_view, stmts_view}
use Rattle.unit_input.proofs.Views.{expr_view-Field, expr_view-Tuple, expr_view-Unary, expr_view-Binary, expr_view-Call, stmt_view-If, stmt_view-While}

pub seen_field : (e v r : UnitExpr) (o w : ℕ) → e ≡ the.Field v o w → r ≡ v → expr_view e ≡ field (expr_view r) o w
seen_field e v r o w is got = ap expr_view is ∙ expr_view-Field v o w ∙ ap (λ x. field (expr_view x) o w) (sym got)

pub seen_tuple : (e : UnitExpr) (es rs : List UnitExpr) → e ≡ the.Tuple es → rs ≡ es → expr_view e ≡ tuple (exprs_view rs)
seen_tuple e es rs is got = ap expr_view is ∙ expr_view-Tuple es ∙ ap (λ xs. tuple (exprs_view xs)) (sym got)

pub seen_unary : (e v r : UnitExpr) (op : UnaryOp) → e ≡ the.Unary op v → r ≡ v → expr_view e ≡ unary op (expr_view r)
seen_unary e v r op is got = ap expr_view is ∙ expr_view-Unary op v ∙ ap (λ x. unary op (expr_view x)) (sym got)

pub seen_binary : (e a b ra rb : UnitExpr) (op : BinaryOp) → e ≡ the.Binary op a b → ra ≡ a → rb ≡ b → expr_view e ≡ binary op (expr_view ra) (expr_view rb)
seen_binary e a b ra rb op is got_a got_b = ap expr_view is ∙ expr_view-Binary op a b ∙ ap (λ x. binary op (expr_view x) (expr_view b)) (sym got_a) ∙ ap (λ x. binary op (expr_view ra) (expr_view x)) (sym got_b)

pub seen_call : (e : UnitExpr) (es rs : List UnitExpr) (k : ℕ) → e ≡ the.Call k es → rs ≡ es → expr_view e ≡ call k (exprs_view rs)
seen_call e es rs k is got = ap expr_view is ∙ expr_view-Call k es ∙ ap (λ xs. call k (exprs_view xs)) (sym got)

pub seen_fork : (s : UnitStmt) (e : UnitExpr) (a b ra rb : List UnitStmt) → s ≡ the_stmt.If e a b → ra ≡ a → rb ≡ b → stmt_view s ≡ fork (expr_view e) (stmts_view ra) (stmts_view rb)
seen_fork s e a b ra rb is got_a got_b = ap stmt_view is ∙ stmt_view-If e a b ∙ ap (λ x. fork (expr_view e) (stmts_view x) (stmts_view b)) (sym got_a) ∙ ap (λ x. fork (expr_view e) (stmts_view ra) (stmts_view x)) (sym got_b)

pub seen_loop : (s : UnitStmt) (e : UnitExpr) (a ra : List UnitStmt) → s ≡ the_stmt.While e a → ra ≡ a → stmt_view s ≡ loop (expr_view e) (stmts_view ra)
seen_loop s e a ra is got = ap stmt_view is ∙ stmt_view-While e a ∙ ap (λ x. loop (expr_view e) (stmts_view x)) (sym got)
