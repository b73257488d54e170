-- Trees whose labels are rows of a table: each number is below the count of rows.
use Rattle.std.specs.Prelude.{ℕ, ◌<◌, List, [], ◌∷◌}
use Rattle.lar_typed.specs.Exprs.{ExprOf, ExprsOf, truth, local, constant, generic, tuple_of, made, part, unary, binary, call, no_exprs, exprs}
use Rattle.lar_typed.specs.Exprs as expr
use Rattle.lar_typed.specs.Stmts.{StepOf, StmtOf, StmtsOf, let_local, assign, fork, loop, return_nothing, return_value, print, assert, eval, no_stmts, stmts}
use Rattle.lar_typed.specs.Trees.{StructOf, FunctionOf, TreeOf}

abbrev mutual
  pub ExprWithin : ℕ → ExprOf ℕ → Type 0
  ExprWithin n (expr.int t v) = t < n
  ExprWithin n (truth t b) = t < n
  ExprWithin n (local t k) = t < n
  ExprWithin n (constant t k) = t < n
  ExprWithin n (generic t k) = t < n
  ExprWithin n (tuple_of t es) = (t < n) × ExprsWithin n es
  ExprWithin n (made t es) = (t < n) × ExprsWithin n es
  ExprWithin n (part t e k) = (t < n) × ExprWithin n e
  ExprWithin n (unary t op e) = (t < n) × ExprWithin n e
  ExprWithin n (binary t op a b) = (t < n) × ExprWithin n a × ExprWithin n b
  ExprWithin n (call t k gs es at) = (t < n) × (gs < n) × ExprsWithin n es

  pub ExprsWithin : ℕ → ExprsOf ℕ → Type 0
  ExprsWithin n no_exprs = Unit {0}
  ExprsWithin n (exprs e es) = ExprWithin n e × ExprsWithin n es

abbrev pub StepsWithin : ℕ → List (StepOf ℕ) → Type 0
StepsWithin n [] = Unit {0}
StepsWithin n (p ∷ ps) = (p.of < n) × StepsWithin n ps

abbrev mutual
  pub StmtWithin : ℕ → StmtOf ℕ → Type 0
  StmtWithin n (let_local k e) = ExprWithin n e
  StmtWithin n (assign k ps e) = StepsWithin n ps × ExprWithin n e
  StmtWithin n (fork c a b) = ExprWithin n c × StmtsWithin n a × StmtsWithin n b
  StmtWithin n (loop c a) = ExprWithin n c × StmtsWithin n a
  StmtWithin n return_nothing = Unit {0}
  StmtWithin n (return_value e) = ExprWithin n e
  StmtWithin n (print e) = ExprWithin n e
  StmtWithin n (assert e at) = ExprWithin n e
  StmtWithin n (eval e) = ExprWithin n e

  pub StmtsWithin : ℕ → StmtsOf ℕ → Type 0
  StmtsWithin n no_stmts = Unit {0}
  StmtsWithin n (stmts s ss) = StmtWithin n s × StmtsWithin n ss

abbrev pub AllBelow : ℕ → List ℕ → Type 0
AllBelow n [] = Unit {0}
AllBelow n (t ∷ ts) = (t < n) × AllBelow n ts

abbrev pub FunctionWithin : ℕ → FunctionOf ℕ → Type 0
FunctionWithin n f = AllBelow n f.locals × (f.outcome < n) × StmtsWithin n f.body

abbrev pub FunctionsWithin : ℕ → List (FunctionOf ℕ) → Type 0
FunctionsWithin n [] = Unit {0}
FunctionsWithin n (f ∷ fs) = FunctionWithin n f × FunctionsWithin n fs

abbrev pub StructsWithin : ℕ → List (StructOf ℕ) → Type 0
StructsWithin n [] = Unit {0}
StructsWithin n (s ∷ ss) = (s.fields < n) × StructsWithin n ss

abbrev pub TreeWithin : ℕ → TreeOf ℕ → Type 0
TreeWithin n t = StructsWithin n t.structs × FunctionsWithin n t.functions
