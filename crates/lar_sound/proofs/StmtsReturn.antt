-- A block with its types returns where it does as it is written.
use Rattle.std.proofs.Common.{◌≡◌, refl, ap, ◌∙◌, Bool, true, false, ◌&&◌, ◌||◌, if◌then◌else◌, Option, Some, None, option_map}
use Rattle.lar_source.specs.declared.file.Span.{Span}
use Rattle.type_table.specs.TypeOf.{TypeOf, int, bool, end, tuple}
use Rattle.lar_typed.specs.Exprs as typed
use Rattle.lar_typed.specs.Stmts as typed_stmt
use Rattle.lar_typed.specs.SameType.{same_type}
use Rattle.lar_typed.specs.LawfulBody.{stmt_returns, returns}
use Rattle.lar_tree.specs.Exprs.{PlainExpr}
use Rattle.lar_tree.specs.Stmts.{IfThere, PlainSetting, PlainStmt, let_stmt, if_stmt, while_stmt, return_stmt, print_stmt, assert_stmt, expr_stmt, PlainBlock, block, PlainStmts, no_stmts, stmts, PlainIf, fork, PlainElse, no_else, else_block, else_if}
use Rattle.lar_rules.specs.Written.{written}
use Rattle.lar_rules.specs.Judged.{fitting, fitting_if}
use Rattle.lar_rules.specs.Exprs.{judge}
use Rattle.lar_rules.specs.Bodies.{Body, State, env_of, assert_env, return_typed, return_done, label_if, Target, target_if, assigned, expr_done, loop_typed, fork_typed, then_stmt, stmt_done, block_done, stmts_done, if_done, else_done, block_returns, stmts_return, if_returns, else_returns}
use Rattle.lar_rules.specs.Bodies.{stmt_returns as source_returns}

abbrev StmtReturns : Bool → Option typed_stmt.PlainStmt → Type 0
StmtReturns r o = IfThere (λ (x : typed_stmt.PlainStmt). stmt_returns x ≡ r) o

abbrev pub BlockReturns : Bool → Option typed_stmt.PlainStmts → Type 0
BlockReturns r o = IfThere (λ (x : typed_stmt.PlainStmts). returns x ≡ r) o

made_returns : (r : Bool) (made : typed.PlainExpr → typed_stmt.PlainStmt) (o : Option typed.PlainExpr)
    → ((e : typed.PlainExpr) → stmt_returns (made e) ≡ r) → StmtReturns r (option_map made o)
made_returns r made None h = tt
made_returns r made (Some e) h = h e

nothing_one : (b : Bool) → StmtReturns true (if b then Some typed_stmt.return_nothing else None)
nothing_one true = refl
nothing_one false = tt

nothing_returns : (o : Option TypeOf) → StmtReturns true (return_typed o)
nothing_returns None = tt
nothing_returns (Some t) = nothing_one (same_type (tuple end) t)

return_returns : (b : Body) (s : State) (at : Span) (o : Option PlainExpr)
    → StmtReturns true (return_done b s at o).typed
return_returns b s at None = nothing_returns b.outcome
return_returns b s at (Some e) = made_returns true typed_stmt.return_value (fitting_if b.outcome (judge (env_of b s) e))
    (λ x. refl)

assigned_returns : (a : Option Target) (b : Option typed.PlainExpr) → StmtReturns false (assigned a b)
assigned_returns None b = tt
assigned_returns (Some p) None = tt
assigned_returns (Some p) (Some e) = refl

expr_returns : (b : Body) (s : State) (e : PlainExpr) (o : Option PlainSetting)
    → StmtReturns false (expr_done b s e o).typed
expr_returns b s e None = made_returns false typed_stmt.eval (judge (env_of b s) e).typed (λ x. refl)
expr_returns b s e (Some a) =
    assigned_returns (target_if (judge (env_of b s) e).typed)
    (fitting_if (label_if (judge (env_of b s) e).typed) (judge (env_of b s) a.1))

loop_returns : (c : Option typed.PlainExpr) (a : Option typed_stmt.PlainStmts) → StmtReturns false (loop_typed c a)
loop_returns None a = tt
loop_returns (Some x) None = tt
loop_returns (Some x) (Some y) = refl

fork_returns : (p q : Bool) (c : Option typed.PlainExpr) (a b : Option typed_stmt.PlainStmts) → BlockReturns p a
    → BlockReturns q b → StmtReturns (p && q) (fork_typed c a b)
fork_returns p q None a b h k = tt
fork_returns p q (Some x) None b h k = tt
fork_returns p q (Some x) (Some y) None h k = tt
fork_returns p q (Some x) (Some y) (Some z) h k = ap (λ (r : Bool). r && returns z) h ∙ ap (λ (r : Bool). p && r) k

then_returns : (p q : Bool) (a : Option typed_stmt.PlainStmt) (b : Option typed_stmt.PlainStmts) → StmtReturns p a
    → BlockReturns q b → BlockReturns (p || q) (then_stmt a b)
then_returns p q None b h k = tt
then_returns p q (Some x) None h k = tt
then_returns p q (Some x) (Some y) h k = ap (λ (r : Bool). r || returns y) h ∙ ap (λ (r : Bool). p || r) k

or_false : (b : Bool) → (b || false) ≡ b
or_false true = refl
or_false false = refl

only_one : (p : Bool) (a : Option typed_stmt.PlainStmt) → StmtReturns p a
    → BlockReturns p (then_stmt a (Some typed_stmt.no_stmts))
only_one p None h = tt
only_one p (Some x) h = or_false (stmt_returns x) ∙ h

mutual
  stmt_same : (b : Body) (s : State) (x : PlainStmt) → StmtReturns (source_returns x) (stmt_done b s x).typed
  stmt_same b s (let_stmt l) = made_returns false _ (fitting_if (written b.site l.ty).of (judge (env_of b s) l.value))
      (λ x. refl)
  stmt_same b s (if_stmt f) = if_same b s f
  stmt_same b s (while_stmt at test body) =
      loop_returns (fitting bool (judge (env_of b s) test)) (block_done b s body).typed
  stmt_same b s (return_stmt at value to) = return_returns b s at value
  stmt_same b s (print_stmt a) =
      made_returns false typed_stmt.print (fitting int (judge (env_of b s) a.value)) (λ x. refl)
  stmt_same b s (assert_stmt a) = made_returns false _ (fitting bool (judge (assert_env b s) a.value)) (λ x. refl)
  stmt_same b s (expr_stmt e setting to) = expr_returns b s e setting

  pub block_same : (b : Body) (s : State) (x : PlainBlock) → BlockReturns (block_returns x) (block_done b s x).typed
  block_same b s (block from ss to) = stmts_same b s ss

  stmts_same : (b : Body) (s : State) (xs : PlainStmts) → BlockReturns (stmts_return xs) (stmts_done b s xs).typed
  stmts_same b s no_stmts = refl
  stmts_same b s (stmts x xs) =
      then_returns (source_returns x) (stmts_return xs) (stmt_done b s x).typed
      (stmts_done b (stmt_done b s x).after xs).typed (stmt_same b s x) (stmts_same b (stmt_done b s x).after xs)

  if_same : (b : Body) (s : State) (f : PlainIf) → StmtReturns (if_returns f) (if_done b s f).typed
  if_same b s (fork at test body other) =
      fork_returns (block_returns body) (else_returns other) (fitting bool (judge (env_of b s) test))
      (block_done b s body).typed (else_done b (block_done b s body).after other).typed (block_same b s body)
      (else_same b (block_done b s body).after other)

  else_same : (b : Body) (s : State) (x : PlainElse) → BlockReturns (else_returns x) (else_done b s x).typed
  else_same b s no_else = refl
  else_same b s (else_block at body) = block_same b s body
  else_same b s (else_if at f) = only_one (if_returns f) (if_done b s f).typed (if_same b s f)
