-- What the assertions of a body come to.
use Rattle.std.specs.Prelude.{ℕ, suc, ℤ, pos, Option, Some, None, List, [], ◌∷◌, ◌++◌, if◌then◌else◌}
use Rattle.std.specs.Ordering.{int_eq}
use Rattle.unit_input.specs.Exprs.{PlainExpr, int, truth, local, field, tuple, unary, binary, call}
use Rattle.unit_input.specs.Stmts.{PlainStmt, declare, assign, fork, loop, give, print, assert, eval, PlainStmts, no_stmts, stmts}
use Rattle.unit_ir.specs.declared.operator.Binary.{Binary}
use Rattle.unit_ir.specs.Operators as operators
use Rattle.unit_lower.specs.declared.assertions.Failure.{Failure}
use Rattle.unit_lower.specs.declared.operator.Operator.{Operator}
use Rattle.unit_lower.specs.declared.operator.Operator.TheVariants as operator
use Rattle.unit_lower.specs.Lowering.{unary_of, operator_of}

-- an operator on the values of its sides; none where one of them traps, or it does itself
abbrev pub operated : Binary → Option ℤ → Option ℤ → Option ℤ
operated op (Some a) (Some b) = operators.binary_of op a b
operated op a b = None

-- `&&` and `||` leave out their right side where the left one decides
abbrev pub both_of : Option ℤ → Option ℤ → Option ℤ
both_of None b = None
both_of (Some a) b = if int_eq a (pos 0) then Some (pos 0) else b

abbrev pub either_of : Option ℤ → Option ℤ → Option ℤ
either_of None b = None
either_of (Some a) b = if int_eq a (pos 0) then b else Some (pos 1)

abbrev pub combined : Operator → Option ℤ → Option ℤ → Option ℤ
combined (operator.OnWords o) a b = operated o a b
combined operator.And a b = both_of a b
combined operator.Or a b = either_of a b

abbrev pub applied : (ℤ → ℤ) → Option ℤ → Option ℤ
applied f None = None
applied f (Some v) = Some (f v)

-- the word of an assertion's expression, 1 for true and 0 for false; none where it traps
abbrev pub value : PlainExpr → Option ℤ
value (int v) = Some v
value (truth b) = Some (operators.truth b)
value (unary op e) = applied (operators.unary_of (unary_of op)) (value e)
value (binary op a b) = combined (operator_of op) (value a) (value b)
value e = None

-- the expressions of the assertions, in reading order
abbrev mutual
  pub stmt_assertions : PlainStmt → List PlainExpr
  stmt_assertions (declare n e) = []
  stmt_assertions (assign n offset wide e) = []
  stmt_assertions (fork e a b) = assertions a ++ assertions b
  stmt_assertions (loop e a) = assertions a
  stmt_assertions (give e) = []
  stmt_assertions (print e) = []
  stmt_assertions (assert e) = e ∷ []
  stmt_assertions (eval e) = []

  pub assertions : PlainStmts → List PlainExpr
  assertions no_stmts = []
  assertions (stmts x xs) = stmt_assertions x ++ assertions xs

-- 31 where it traps, 30 where it is false, and else what the later ones come to
abbrev pub judged : ℕ → Option ℤ → Option Failure → Option Failure
judged n None later = Some (record { code = 31; number = n })
judged n (Some v) later = if int_eq v (pos 0) then Some (record { code = 30; number = n }) else later

-- the first that fails, where the first has this number
abbrev pub first_failure : ℕ → List PlainExpr → Option Failure
first_failure n [] = None
first_failure n (e ∷ es) = judged n (value e) (first_failure (suc n) es)
