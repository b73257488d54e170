-- Statements as plain data, where each type is a label of the type A: a number of a row, or the type itself.
use Rattle.std.specs.Prelude.{ℕ, List, [], ◌∷◌, map}
use Rattle.lar_source.specs.declared.file.Span.{Span}
use Rattle.type_table.specs.TypeOf.{TypeOf}
use Rattle.lar_typed.specs.Exprs.{ExprOf, expr_map}

-- a step from a place to a part of it: the place of the part, and its type
pub record StepOf (A : Type 0) : Type 0 where
  pub part : ℕ
  pub of : A

mutual
  pub data StmtOf (A : Type 0) : Type 0 where
    -- the local that it makes, and its value
    let_local : ℕ → ExprOf A → StmtOf A
    -- a local, the steps to a part of it, and the value
    assign : ℕ → List (StepOf A) → ExprOf A → StmtOf A
    -- Without `else` the second branch is empty; an `if` after `else` is its only statement.
    fork : ExprOf A → StmtsOf A → StmtsOf A → StmtOf A
    loop : ExprOf A → StmtsOf A → StmtOf A
    return_nothing : StmtOf A
    return_value : ExprOf A → StmtOf A
    print : ExprOf A → StmtOf A
    -- the condition, and where `static_assert` stands
    assert : ExprOf A → Span → StmtOf A
    eval : ExprOf A → StmtOf A

  pub data StmtsOf (A : Type 0) : Type 0 where
    no_stmts : StmtsOf A
    stmts : StmtOf A → StmtsOf A → StmtsOf A

-- a statement with its types
abbrev pub PlainStmt : Type 0
PlainStmt = StmtOf TypeOf

abbrev pub PlainStmts : Type 0
PlainStmts = StmtsOf TypeOf

abbrev pub step_map : {A B : Type 0} → (A → B) → StepOf A → StepOf B
step_map f s = record { part = s.part; of = f s.of }

-- the same statement with other labels
abbrev mutual
  pub stmt_map : {A B : Type 0} → (A → B) → StmtOf A → StmtOf B
  stmt_map f (let_local n e) = let_local n (expr_map f e)
  stmt_map f (assign n ps e) = assign n (map (step_map f) ps) (expr_map f e)
  stmt_map f (fork c a b) = fork (expr_map f c) (stmts_map f a) (stmts_map f b)
  stmt_map f (loop c a) = loop (expr_map f c) (stmts_map f a)
  stmt_map f return_nothing = return_nothing
  stmt_map f (return_value e) = return_value (expr_map f e)
  stmt_map f (print e) = print (expr_map f e)
  stmt_map f (assert e at) = assert (expr_map f e) at
  stmt_map f (eval e) = eval (expr_map f e)

  pub stmts_map : {A B : Type 0} → (A → B) → StmtsOf A → StmtsOf B
  stmts_map f no_stmts = no_stmts
  stmts_map f (stmts s ss) = stmts (stmt_map f s) (stmts_map f ss)
