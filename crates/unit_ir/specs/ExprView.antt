-- The plain expression that an expression of the code stands for.
use Rattle.std.specs.Prelude.{List, [], ◌∷◌, map}
use Rattle.unit_ir.specs.declared.expr.IrExpr.{IrExpr}
use Rattle.unit_ir.specs.declared.expr.IrExpr.TheOpen.{IrExpr-F}
use Rattle.unit_ir.specs.declared.expr.IrExpr.TheFolds.{fold-IrExpr}
use Rattle.unit_ir.specs.Exprs.{PlainExpr, word, load, op1, op2, both, either, call, seq, bind, PlainExprs, no_exprs, exprs}

abbrev pub exprs_of : List PlainExpr → PlainExprs
exprs_of [] = no_exprs
exprs_of (e ∷ es) = exprs e (exprs_of es)

abbrev pub expr_step : IrExpr-F PlainExpr → PlainExpr
expr_step (IrExpr-F.Const v) = word v
expr_step (IrExpr-F.Load s) = load s
expr_step (IrExpr-F.Op1 o a) = op1 o a
expr_step (IrExpr-F.Op2 o a b) = op2 o a b
expr_step (IrExpr-F.And a b) = both a b
expr_step (IrExpr-F.Or a b) = either a b
expr_step (IrExpr-F.Call k es) = call k (exprs_of es)
expr_step (IrExpr-F.Seq es) = seq (exprs_of es)
expr_step (IrExpr-F.Bind s w a b) = bind s w a b

abbrev pub expr_view : IrExpr → PlainExpr
expr_view = fold-IrExpr PlainExpr expr_step

abbrev pub exprs_view : List IrExpr → PlainExprs
exprs_view es = exprs_of (map expr_view es)
