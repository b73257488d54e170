-- Expressions of a unit's input as plain data.
use Rattle.std.specs.Prelude.{ℕ, ℤ, Bool, suc}
use Rattle.unit_input.specs.declared.expr.UnaryOp.{UnaryOp}
use Rattle.unit_input.specs.declared.expr.BinaryOp.{BinaryOp}

mutual
  pub data PlainExpr : Type 0 where
    int : ℤ → PlainExpr
    truth : Bool → PlainExpr
    -- a local, by its number
    local : ℕ → PlainExpr
    -- so many words of a value: the offset of the first one, and how many
    field : PlainExpr → ℕ → ℕ → PlainExpr
    -- a tuple, or a struct with its fields in declared order
    tuple : PlainExprs → PlainExpr
    unary : UnaryOp → PlainExpr → PlainExpr
    binary : BinaryOp → PlainExpr → PlainExpr → PlainExpr
    -- a call of the unit's function or external with this number
    call : ℕ → PlainExprs → PlainExpr

  pub data PlainExprs : Type 0 where
    no_exprs : PlainExprs
    exprs : PlainExpr → PlainExprs → PlainExprs

-- how many they are
abbrev pub expr_count : PlainExprs → ℕ
expr_count no_exprs = 0
expr_count (exprs e es) = suc (expr_count es)
