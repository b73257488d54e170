-- The plain expression, labelled with numbers of rows, that an expression of the code stands for.
use Rattle.std.specs.Prelude.{ℕ, List, [], ◌∷◌, map}
use Rattle.lar_typed.specs.declared.expr.TypedExpr.{TypedExpr}
use Rattle.lar_typed.specs.declared.expr.Node.{Node}
use Rattle.lar_typed.specs.declared.expr.TypedCall.{TypedCall}
use Rattle.lar_typed.specs.declared.expr.Node.TheOpen.{Node-F, TypedCall-F, TypedExpr-F}
use Rattle.lar_typed.specs.declared.expr.Node.TheFolds.{fold-Node, fold-TypedCall, fold-TypedExpr}
use Rattle.lar_typed.specs.Exprs.{ExprOf, ExprsOf, int, truth, local, constant, generic, tuple_of, made, part, unary, binary, call, no_exprs, exprs}

abbrev pub NumberedExpr : Type 0
NumberedExpr = ExprOf ℕ

-- what becomes an expression where its type is known
abbrev pub OfType : Type 0
OfType = ℕ → NumberedExpr

abbrev pub exprs_of : List NumberedExpr → ExprsOf ℕ
exprs_of [] = no_exprs
exprs_of (e ∷ es) = exprs e (exprs_of es)

abbrev pub node_step : Node-F OfType OfType NumberedExpr → OfType
node_step (Node-F.Int v) t = int t v
node_step (Node-F.Bool b) t = truth t b
node_step (Node-F.Local n) t = local t n
node_step (Node-F.Const n) t = constant t n
node_step (Node-F.Generic k) t = generic t k
node_step (Node-F.Tuple es) t = tuple_of t (exprs_of es)
node_step (Node-F.New es) t = made t (exprs_of es)
node_step (Node-F.Field e k) t = part t e k
node_step (Node-F.Unary op e) t = unary t op e
node_step (Node-F.Binary op a b) t = binary t op a b
node_step (Node-F.Call c) t = c t

abbrev pub call_step : TypedCall-F OfType OfType NumberedExpr → OfType
call_step c t = call t c.callee c.generics (exprs_of c.args) c.at

abbrev pub expr_step : TypedExpr-F OfType OfType NumberedExpr → NumberedExpr
expr_step e = e.node e.of

abbrev pub expr_view : TypedExpr → NumberedExpr
expr_view = fold-TypedExpr OfType OfType NumberedExpr node_step call_step expr_step

abbrev pub node_view : Node → OfType
node_view = fold-Node OfType OfType NumberedExpr node_step call_step expr_step

abbrev pub call_view : TypedCall → OfType
call_view = fold-TypedCall OfType OfType NumberedExpr node_step call_step expr_step

abbrev pub exprs_view : List TypedExpr → ExprsOf ℕ
exprs_view es = exprs_of (map expr_view es)
