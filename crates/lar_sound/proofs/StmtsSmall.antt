-- A block with its types has at most as many statements and expressions as the one that is written.
use Rattle.std.proofs.Common.{◌≡◌, ℕ, ◌+◌, ◌≤◌, refl, arith, Bool, true, false, if◌then◌else◌, Option, Some, None, option_map}
use Rattle.lar_source.specs.declared.file.Span.{Span}
use Rattle.type_table.specs.TypeOf.{TypeOf, int, bool, end, tuple}
use Rattle.lar_typed.specs.Exprs as typed
use Rattle.lar_typed.specs.Stmts as typed_stmt
use Rattle.lar_typed.specs.Size.{expr_size as typed_size, stmt_size as typed_stmt_size, stmts_size as typed_block_size}
use Rattle.lar_typed.specs.SameType.{same_type}
use Rattle.lar_tree.specs.Exprs.{PlainExpr}
use Rattle.lar_tree.specs.Sizes.{expr_size, value_size, assigned_size, stmt_size, block_size, stmts_size, if_size, else_size}
use Rattle.lar_tree.specs.Stmts.{IfThere, PlainSetting, PlainStmt, let_stmt, if_stmt, while_stmt, return_stmt, print_stmt, assert_stmt, expr_stmt, PlainBlock, block, PlainStmts, no_stmts, stmts, PlainIf, fork, PlainElse, no_else, else_block, else_if}
use Rattle.lar_rules.specs.Written.{written}
use Rattle.lar_rules.specs.Judged.{fitting, fitting_if}
use Rattle.lar_rules.specs.Exprs.{judge}
use Rattle.lar_rules.specs.Bodies.{Body, State, env_of, assert_env, return_typed, return_done, label_if, Target, target_if, assigned, expr_done, loop_typed, fork_typed, then_stmt, stmt_done, block_done, stmts_done, if_done, else_done}
use Rattle.lar_sound.proofs.ExprsSmall.{SmallIf, fitting_small, fitting_if_small, judge_small}

abbrev StmtSmall : ℕ → Option typed_stmt.PlainStmt → Type 0
StmtSmall n o = IfThere (λ (x : typed_stmt.PlainStmt). typed_stmt_size x ≤ n) o

abbrev pub BlockSmall : ℕ → Option typed_stmt.PlainStmts → Type 0
BlockSmall n o = IfThere (λ (x : typed_stmt.PlainStmts). typed_block_size x ≤ n) o

made_small : (n : ℕ) (made : typed.PlainExpr → typed_stmt.PlainStmt) (o : Option typed.PlainExpr)
    → ((e : typed.PlainExpr) → typed_stmt_size (made e) ≡ 1 + typed_size e) → SmallIf n o
    → StmtSmall (1 + n) (option_map made o)
made_small n made None e h = tt
made_small n made (Some x) e h =
    (let k : typed_size x ≤ n = h in let same : typed_stmt_size (made x) ≡ 1 + typed_size x = e x in omega arith)

nothing_one : (b : Bool) → StmtSmall 1 (if b then Some typed_stmt.return_nothing else None)
nothing_one true = omega arith
nothing_one false = tt

nothing_small : (o : Option TypeOf) → StmtSmall 1 (return_typed o)
nothing_small None = tt
nothing_small (Some t) = nothing_one (same_type (tuple end) t)

return_small : (b : Body) (s : State) (at : Span) (o : Option PlainExpr)
    → StmtSmall (1 + value_size o) (return_done b s at o).typed
return_small b s at None = nothing_small b.outcome
return_small b s at (Some e) =
    made_small (expr_size e) typed_stmt.return_value (fitting_if b.outcome (judge (env_of b s) e)) (λ x. refl)
    (fitting_if_small (expr_size e) b.outcome (judge (env_of b s) e) (judge_small (env_of b s) e))

assigned_small : (n m : ℕ) (a : Option Target) (b : Option typed.PlainExpr) → SmallIf m b
    → StmtSmall (1 + n + m) (assigned a b)
assigned_small n m None b h = tt
assigned_small n m (Some p) None h = tt
assigned_small n m (Some p) (Some e) h = (let k : typed_size e ≤ m = h in omega arith)

wider : (n m : ℕ) (o : Option typed_stmt.PlainStmt) → n ≤ m → StmtSmall n o → StmtSmall m o
wider n m None l h = tt
wider n m (Some x) l h = (let k : typed_stmt_size x ≤ n = h in omega arith)

expr_small : (b : Body) (s : State) (e : PlainExpr) (o : Option PlainSetting)
    → StmtSmall (1 + expr_size e + assigned_size o) (expr_done b s e o).typed
expr_small b s e None = wider (1 + expr_size e) (1 + expr_size e + 0) (expr_done b s e None).typed (omega arith)
    (made_small (expr_size e) typed_stmt.eval (judge (env_of b s) e).typed (λ x. refl) (judge_small (env_of b s) e))
expr_small b s e (Some a) =
    assigned_small (expr_size e) (expr_size a.1) (target_if (judge (env_of b s) e).typed)
    (fitting_if (label_if (judge (env_of b s) e).typed) (judge (env_of b s) a.1))
    (fitting_if_small (expr_size a.1) (label_if (judge (env_of b s) e).typed) (judge (env_of b s) a.1)
    (judge_small (env_of b s) a.1))

loop_small : (n m : ℕ) (c : Option typed.PlainExpr) (a : Option typed_stmt.PlainStmts) → SmallIf n c → BlockSmall m a
    → StmtSmall (1 + n + m) (loop_typed c a)
loop_small n m None a h k = tt
loop_small n m (Some x) None h k = tt
loop_small n m (Some x) (Some y) h k = (let p : typed_size x ≤ n = h in let q : typed_block_size y ≤ m = k in
    omega arith)

fork_small : (n m l : ℕ) (c : Option typed.PlainExpr) (a b : Option typed_stmt.PlainStmts) → SmallIf n c
    → BlockSmall m a → BlockSmall l b → StmtSmall (1 + n + m + l) (fork_typed c a b)
fork_small n m l None a b h k j = tt
fork_small n m l (Some x) None b h k j = tt
fork_small n m l (Some x) (Some y) None h k j = tt
fork_small n m l (Some x) (Some y) (Some z) h k j =
    (let p : typed_size x ≤ n = h in let q : typed_block_size y ≤ m = k in let r : typed_block_size z ≤ l = j in
    omega arith)

then_small : (n m : ℕ) (a : Option typed_stmt.PlainStmt) (b : Option typed_stmt.PlainStmts) → StmtSmall n a
    → BlockSmall m b → BlockSmall (n + m) (then_stmt a b)
then_small n m None b h k = tt
then_small n m (Some x) None h k = tt
then_small n m (Some x) (Some y) h k = (let p : typed_stmt_size x ≤ n = h in let q : typed_block_size y ≤ m = k in
    omega arith)

only_small : (n : ℕ) (a : Option typed_stmt.PlainStmt) → StmtSmall n a
    → BlockSmall n (then_stmt a (Some typed_stmt.no_stmts))
only_small n None h = tt
only_small n (Some x) h = (let p : typed_stmt_size x ≤ n = h in omega arith)

mutual
  stmt_small : (b : Body) (s : State) (x : PlainStmt) → StmtSmall (stmt_size x) (stmt_done b s x).typed
  stmt_small b s (let_stmt l) =
      made_small (expr_size l.value) _ (fitting_if (written b.site l.ty).of (judge (env_of b s) l.value)) (λ x. refl)
      (fitting_if_small (expr_size l.value) (written b.site l.ty).of (judge (env_of b s) l.value)
      (judge_small (env_of b s) l.value))
  stmt_small b s (if_stmt f) = if_small b s f
  stmt_small b s (while_stmt at test body) =
      loop_small (expr_size test) (block_size body) (fitting bool (judge (env_of b s) test)) (block_done b s body).typed
      (fitting_small (expr_size test) bool (judge (env_of b s) test).typed (judge_small (env_of b s) test))
      (body_small b s body)
  stmt_small b s (return_stmt at value to) = return_small b s at value
  stmt_small b s (print_stmt a) =
      made_small (expr_size a.value) typed_stmt.print (fitting int (judge (env_of b s) a.value)) (λ x. refl)
      (fitting_small (expr_size a.value) int (judge (env_of b s) a.value).typed (judge_small (env_of b s) a.value))
  stmt_small b s (assert_stmt a) = made_small (expr_size a.value) _ (fitting bool (judge (assert_env b s) a.value))
      (λ x. refl)
      (fitting_small (expr_size a.value) bool (judge (assert_env b s) a.value).typed
      (judge_small (assert_env b s) a.value))
  stmt_small b s (expr_stmt e setting to) = expr_small b s e setting

  pub body_small : (b : Body) (s : State) (x : PlainBlock) → BlockSmall (block_size x) (block_done b s x).typed
  body_small b s (block from ss to) = stmts_small b s ss

  stmts_small : (b : Body) (s : State) (xs : PlainStmts) → BlockSmall (stmts_size xs) (stmts_done b s xs).typed
  stmts_small b s no_stmts = omega arith
  stmts_small b s (stmts x xs) =
      then_small (stmt_size x) (stmts_size xs) (stmt_done b s x).typed (stmts_done b (stmt_done b s x).after xs).typed
      (stmt_small b s x) (stmts_small b (stmt_done b s x).after xs)

  if_small : (b : Body) (s : State) (f : PlainIf) → StmtSmall (if_size f) (if_done b s f).typed
  if_small b s (fork at test body other) =
      fork_small (expr_size test) (block_size body) (else_size other) (fitting bool (judge (env_of b s) test))
      (block_done b s body).typed (else_done b (block_done b s body).after other).typed
      (fitting_small (expr_size test) bool (judge (env_of b s) test).typed (judge_small (env_of b s) test))
      (body_small b s body) (else_small b (block_done b s body).after other)

  else_small : (b : Body) (s : State) (x : PlainElse) → BlockSmall (else_size x) (else_done b s x).typed
  else_small b s no_else = omega arith
  else_small b s (else_block at body) = body_small b s body
  else_small b s (else_if at f) = only_small (if_size f) (if_done b s f).typed (if_small b s f)
