-- Expressions as plain data. Slots and calls are numbers, and constants are words.
use Rattle.std.specs.Prelude.{ℕ, ℤ}
use Rattle.unit_ir.specs.declared.operator.Unary.{Unary}
use Rattle.unit_ir.specs.declared.operator.Binary.{Binary}

mutual
  pub data PlainExpr : Type 0 where
    word : ℤ → PlainExpr
    load : ℕ → PlainExpr
    op1 : Unary → PlainExpr → PlainExpr
    op2 : Binary → PlainExpr → PlainExpr → PlainExpr
    -- the second only where the first is not 0, else 0
    both : PlainExpr → PlainExpr → PlainExpr
    -- the second only where the first is 0, else 1
    either : PlainExpr → PlainExpr → PlainExpr
    call : ℕ → PlainExprs → PlainExpr
    -- the words of its parts in order
    seq : PlainExprs → PlainExpr
    -- from this slot on, so many words of the first, and then the second
    bind : ℕ → ℕ → PlainExpr → PlainExpr → PlainExpr

  pub data PlainExprs : Type 0 where
    no_exprs : PlainExprs
    exprs : PlainExpr → PlainExprs → PlainExprs
