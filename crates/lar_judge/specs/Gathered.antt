-- A list of typed expressions that grows at its end.
use Rattle.std.specs.Prelude.{Option, Some, None}
use Rattle.lar_typed.specs.Exprs.{PlainExpr, PlainExprs, no_exprs, exprs}

abbrev pub one_last : PlainExprs → PlainExpr → PlainExprs
one_last no_exprs x = exprs x no_exprs
one_last (exprs e es) x = exprs e (one_last es x)

abbrev pub then_last : Option PlainExprs → Option PlainExpr → Option PlainExprs
then_last (Some es) (Some x) = Some (one_last es x)
then_last _ _ = None
