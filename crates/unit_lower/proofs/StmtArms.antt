-- A statement of the code and the parts that it is made of.
use Rattle.std.proofs.Common.{◌≡◌, ℕ, true, false, List, refl, sym, ap, ◌∙◌}
use Rattle.unit_input.specs.declared.expr.UnitExpr.{UnitExpr}
use Rattle.unit_input.specs.declared.stmt.UnitStmt.{UnitStmt}
use Rattle.unit_input.specs.declared.stmt.UnitStmt.TheVariants.{If, While, Assert}
use Rattle.unit_input.specs.Stmts.{fork, loop, assert}
use Rattle.unit_input.specs.InputView.{expr_view, stmt_view, stmts_view}
use Rattle.unit_input.proofs.Views.{stmt_view-If, stmt_view-While, stmt_view-Assert}
use Rattle.unit_input.specs.Widths.{Scope}
use Rattle.unit_input.specs.Rules.{is_stmt, are_stmts}
use Rattle.unit_lower.specs.Wide.{is_wide_stmt}
use Rattle.unit_lower.specs.Lowering.{lower}
use Rattle.unit_lower.specs.ValueView.{is_over_expr}
use Rattle.unit_lower.specs.StmtResult.{is_over_stmt, are_over_stmts}
use Rattle.unit_lower.proofs.StmtLists.{fork_over_test, fork_over_then, fork_then, fork_other, loop_over_test, loop_body, assert_narrow}

if_is : (x : UnitStmt) (e : UnitExpr) (a b ra rb : List UnitStmt) → x ≡ If e a b → ra ≡ a → rb ≡ b → stmt_view x ≡ fork (expr_view e) (stmts_view ra) (stmts_view rb)
if_is x e a b ra rb is ea eb = ap stmt_view is ∙ stmt_view-If e a b ∙ ap (λ l. fork (expr_view e) (stmts_view l) (stmts_view b)) (sym ea) ∙ ap (λ l. fork (expr_view e) (stmts_view ra) (stmts_view l)) (sym eb)

while_is : (x : UnitStmt) (e : UnitExpr) (a ra : List UnitStmt) → x ≡ While e a → ra ≡ a → stmt_view x ≡ loop (expr_view e) (stmts_view ra)
while_is x e a ra is ea = ap stmt_view is ∙ stmt_view-While e a ∙ ap (λ l. loop (expr_view e) (stmts_view l)) (sym ea)

pub fork_test_arm : (s : Scope) (x : UnitStmt) (e : UnitExpr) (a b : List UnitStmt) (k : ℕ) → x ≡ If e a b → is_over_expr s (expr_view e) k ≡ true → is_over_stmt s (stmt_view x) k ≡ true
fork_test_arm s x e a b k is over = ap (λ y. is_over_stmt s y k) (if_is x e a b a b is refl refl) ∙ fork_over_test s (expr_view e) (stmts_view a) (stmts_view b) k over

pub fork_then_arm : (s : Scope) (x : UnitStmt) (e : UnitExpr) (a b ra : List UnitStmt) (k next : ℕ) → x ≡ If e a b → ra ≡ a → next ≡ (lower s (expr_view e) k).next → are_over_stmts s (stmts_view ra) next ≡ true → is_over_stmt s (stmt_view x) k ≡ true
fork_then_arm s x e a b ra k next is ea next_is over = ap (λ y. is_over_stmt s y k) (if_is x e a b ra b is ea refl) ∙ fork_over_then s (expr_view e) (stmts_view ra) (stmts_view b) k next next_is over

pub then_rules : (s : Scope) (x : UnitStmt) (e : UnitExpr) (a b ra : List UnitStmt) → x ≡ If e a b → ra ≡ a → is_stmt s (stmt_view x) ≡ true → are_stmts s (stmts_view ra) ≡ true
then_rules s x e a b ra is ea ok = fork_then s (expr_view e) (stmts_view ra) (stmts_view b) (ap (is_stmt s) (sym (if_is x e a b ra b is ea refl)) ∙ ok)

pub other_rules : (s : Scope) (x : UnitStmt) (e : UnitExpr) (a b rb : List UnitStmt) → x ≡ If e a b → rb ≡ b → is_stmt s (stmt_view x) ≡ true → are_stmts s (stmts_view rb) ≡ true
other_rules s x e a b rb is eb ok = fork_other s (expr_view e) (stmts_view a) (stmts_view rb) (ap (is_stmt s) (sym (if_is x e a b a rb is refl eb)) ∙ ok)

pub loop_test_arm : (s : Scope) (x : UnitStmt) (e : UnitExpr) (a : List UnitStmt) (k : ℕ) → x ≡ While e a → is_over_expr s (expr_view e) k ≡ true → is_over_stmt s (stmt_view x) k ≡ true
loop_test_arm s x e a k is over = ap (λ y. is_over_stmt s y k) (while_is x e a a is refl) ∙ loop_over_test s (expr_view e) (stmts_view a) k over

pub body_rules : (s : Scope) (x : UnitStmt) (e : UnitExpr) (a ra : List UnitStmt) → x ≡ While e a → ra ≡ a → is_stmt s (stmt_view x) ≡ true → are_stmts s (stmts_view ra) ≡ true
body_rules s x e a ra is ea ok = loop_body s (expr_view e) (stmts_view ra) (ap (is_stmt s) (sym (while_is x e a ra is ea)) ∙ ok)

pub assert_arm : (s : Scope) (x : UnitStmt) (e : UnitExpr) → x ≡ Assert e → is_stmt s (stmt_view x) ≡ true → is_wide_stmt s (stmt_view x) ≡ false
assert_arm s x e is ok =
    let same = ap stmt_view is ∙ stmt_view-Assert e in
    ap (is_wide_stmt s) same ∙ assert_narrow s (expr_view e) (ap (is_stmt s) (sym same) ∙ ok)
