-- Statements of one expression.
use Rattle.std.proofs.Common.{◌≡◌, ℕ, List, length, refl, sym, ap, ◌∙◌, subst, Option, Some, None}
use Rattle.std.specs.Prelude.{option_map}
use Rattle.lar_source.specs.declared.file.Span.{Span}
use Rattle.type_table.specs.declared.row.Row.{Row}
use Rattle.type_table.specs.Rows.{type_at}
use Rattle.lar_typed.specs.declared.expr.TypedExpr.{TypedExpr}
use Rattle.lar_typed.specs.declared.stmt.TypedStmt.{TypedStmt}
use Rattle.lar_typed.specs.Exprs.{PlainExpr}
use Rattle.lar_typed.specs.ExprView.{expr_view}
use Rattle.lar_typed.specs.Stmts.{StmtOf, PlainStmt, stmt_map, let_local, print, assert, eval}
use Rattle.lar_typed.specs.StmtView.{stmt_view}
use Rattle.lar_typed.specs.Within.{ExprWithin, StmtWithin}
use Rattle.lar_judge.specs.Known.{expr_in, typed_in, TypedWithin}
use Rattle.lar_stmts.specs.Stmts.{StmtIs}

pub stmt_none : (rows : List Row) (o : Option TypedExpr) (p : Option PlainExpr) (made : PlainExpr → PlainStmt) → o ≡ None → typed_in rows o ≡ p → StmtIs rows None (option_map made p)
stmt_none rows o p made e h = record { within = tt; is = ap (option_map made) (sym (ap (typed_in rows) e) ∙ h) }

stmt_some : (rows : List Row) (o : Option TypedExpr) (v : TypedExpr) (p : Option PlainExpr) (r : TypedStmt) (numbered : StmtOf ℕ) (made : PlainExpr → PlainStmt) → o ≡ Some v → typed_in rows o ≡ p → stmt_view r ≡ numbered
    → StmtWithin (length rows) numbered → stmt_map (type_at rows) numbered ≡ made (expr_in rows v) → StmtIs rows (Some r) (option_map made p)
stmt_some rows o v p r numbered made e h s w m =
    let W : StmtOf ℕ → Type 0 = λ x. StmtWithin (length rows) x in
    record {
      within = subst W (sym s) w;
      is = ap (λ x. Some (stmt_map (type_at rows) x)) s ∙ ap Some m ∙ ap (option_map made) (sym (ap (typed_in rows) e) ∙ h);
    }

value_within : (rows : List Row) (o : Option TypedExpr) (v : TypedExpr) → o ≡ Some v → TypedWithin rows o → ExprWithin (length rows) (expr_view v)
value_within rows o v e w = subst (λ (x : Option TypedExpr). TypedWithin rows x) e w

pub print_is : (rows : List Row) (o : Option TypedExpr) (v : TypedExpr) (p : Option PlainExpr) (r : TypedStmt) → o ≡ Some v → TypedWithin rows o → typed_in rows o ≡ p → stmt_view r ≡ print (expr_view v) → StmtIs rows (Some r) (option_map print p)
print_is rows o v p r e w h s = stmt_some rows o v p r (print (expr_view v)) print e h s (value_within rows o v e w) refl

pub assert_is : (rows : List Row) (o : Option TypedExpr) (v : TypedExpr) (p : Option PlainExpr) (r : TypedStmt) (at : Span) → o ≡ Some v → TypedWithin rows o → typed_in rows o ≡ p → stmt_view r ≡ assert (expr_view v) at → StmtIs rows (Some r) (option_map (λ x. assert x at) p)
assert_is rows o v p r at e w h s = stmt_some rows o v p r (assert (expr_view v) at) (λ x. assert x at) e h s (value_within rows o v e w) refl

pub let_is : (rows : List Row) (o : Option TypedExpr) (v : TypedExpr) (p : Option PlainExpr) (r : TypedStmt) (n : ℕ) → o ≡ Some v → TypedWithin rows o → typed_in rows o ≡ p → stmt_view r ≡ let_local n (expr_view v) → StmtIs rows (Some r) (option_map (let_local n) p)
let_is rows o v p r n e w h s = stmt_some rows o v p r (let_local n (expr_view v)) (let_local n) e h s (value_within rows o v e w) refl

pub eval_is : (rows : List Row) (o : Option TypedExpr) (v : TypedExpr) (p : Option PlainExpr) (r : TypedStmt) → o ≡ Some v → TypedWithin rows o → typed_in rows o ≡ p → stmt_view r ≡ eval (expr_view v) → StmtIs rows (Some r) (option_map eval p)
eval_is rows o v p r e w h s = stmt_some rows o v p r (eval (expr_view v)) eval e h s (value_within rows o v e w) refl
