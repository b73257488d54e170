-- What an expression of the code stands for, by its node.
use Rattle.std.specs.Prelude.{ℕ, ℤ, Bool, List}
use Rattle.std.proofs.Common.{◌≡◌, sym, ap, ◌∙◌}
use Rattle.lar_typed.specs.declared.op.UnaryOp.{UnaryOp}
use Rattle.lar_typed.specs.declared.op.BinaryOp.{BinaryOp}
use Rattle.lar_typed.specs.declared.expr.TypedExpr.{TypedExpr}
use Rattle.lar_typed.specs.declared.expr.TypedCall.{TypedCall}
use Rattle.lar_typed.specs.declared.expr.Node.{Node}
use Rattle.lar_typed.specs.declared.expr.Node.TheVariants as node
use Rattle.lar_typed.specs.declared.expr.Node.TheOpen.{Node-F}
use Rattle.lar_typed.specs.declared.expr.Node.TheFolds.{fold-roll-Node, fold_out-TypedExpr, fold_out-TypedCall}
use Rattle.lar_typed.specs.declared.expr.TypedCall.{out-TypedCall}
use Rattle.lar_typed.specs.Exprs.{ExprOf, int, truth, local, constant, generic, tuple_of, made, part, unary, binary, call, label_of}
use Rattle.lar_typed.specs.ExprView.{NumberedExpr, OfType, node_step, call_step, expr_step, node_view, expr_view, call_view, exprs_view}

expr_is : (e : TypedExpr) → expr_view e ≡ node_view e.node e.of
expr_is e = fold_out-TypedExpr OfType OfType NumberedExpr node_step call_step expr_step e

pub at_int : (e : TypedExpr) (v : ℤ) → e.node ≡ node.Int v → expr_view e ≡ int e.of v
at_int e v is =
    expr_is e ∙ ap (λ (x : Node). node_view x e.of) (is ∙ sym (node.rolls-Int v))
    ∙ ap (λ (f : OfType). f e.of) (fold-roll-Node OfType OfType NumberedExpr node_step call_step expr_step (Node-F.Int v))

pub at_bool : (e : TypedExpr) (b : Bool) → e.node ≡ node.Bool b → expr_view e ≡ truth e.of b
at_bool e b is =
    expr_is e ∙ ap (λ (x : Node). node_view x e.of) (is ∙ sym (node.rolls-Bool b))
    ∙ ap (λ (f : OfType). f e.of) (fold-roll-Node OfType OfType NumberedExpr node_step call_step expr_step (Node-F.Bool b))

pub at_local : (e : TypedExpr) (n : ℕ) → e.node ≡ node.Local n → expr_view e ≡ local e.of n
at_local e n is =
    expr_is e ∙ ap (λ (x : Node). node_view x e.of) (is ∙ sym (node.rolls-Local n))
    ∙ ap (λ (f : OfType). f e.of) (fold-roll-Node OfType OfType NumberedExpr node_step call_step expr_step (Node-F.Local n))

pub at_const : (e : TypedExpr) (n : ℕ) → e.node ≡ node.Const n → expr_view e ≡ constant e.of n
at_const e n is =
    expr_is e ∙ ap (λ (x : Node). node_view x e.of) (is ∙ sym (node.rolls-Const n))
    ∙ ap (λ (f : OfType). f e.of) (fold-roll-Node OfType OfType NumberedExpr node_step call_step expr_step (Node-F.Const n))

pub at_generic : (e : TypedExpr) (k : ℕ) → e.node ≡ node.Generic k → expr_view e ≡ generic e.of k
at_generic e k is =
    expr_is e ∙ ap (λ (x : Node). node_view x e.of) (is ∙ sym (node.rolls-Generic k))
    ∙ ap (λ (f : OfType). f e.of) (fold-roll-Node OfType OfType NumberedExpr node_step call_step expr_step (Node-F.Generic k))

pub at_tuple : (e : TypedExpr) (es : List TypedExpr) → e.node ≡ node.Tuple es → expr_view e ≡ tuple_of e.of (exprs_view es)
at_tuple e es is =
    expr_is e ∙ ap (λ (x : Node). node_view x e.of) (is ∙ sym (node.rolls-Tuple es))
    ∙ ap (λ (f : OfType). f e.of) (fold-roll-Node OfType OfType NumberedExpr node_step call_step expr_step (Node-F.Tuple es))

pub at_new : (e : TypedExpr) (es : List TypedExpr) → e.node ≡ node.New es → expr_view e ≡ made e.of (exprs_view es)
at_new e es is =
    expr_is e ∙ ap (λ (x : Node). node_view x e.of) (is ∙ sym (node.rolls-New es))
    ∙ ap (λ (f : OfType). f e.of) (fold-roll-Node OfType OfType NumberedExpr node_step call_step expr_step (Node-F.New es))

pub at_field : (e : TypedExpr) (x : TypedExpr) (k : ℕ) → e.node ≡ node.Field x k → expr_view e ≡ part e.of (expr_view x) k
at_field e x k is =
    expr_is e ∙ ap (λ (x : Node). node_view x e.of) (is ∙ sym (node.rolls-Field x k))
    ∙ ap (λ (f : OfType). f e.of) (fold-roll-Node OfType OfType NumberedExpr node_step call_step expr_step (Node-F.Field x k))

pub at_unary : (e : TypedExpr) (op : UnaryOp) (x : TypedExpr) → e.node ≡ node.Unary op x → expr_view e ≡ unary e.of op (expr_view x)
at_unary e op x is =
    expr_is e ∙ ap (λ (x : Node). node_view x e.of) (is ∙ sym (node.rolls-Unary op x))
    ∙ ap (λ (f : OfType). f e.of) (fold-roll-Node OfType OfType NumberedExpr node_step call_step expr_step (Node-F.Unary op x))

pub at_binary : (e : TypedExpr) (op : BinaryOp) (a b : TypedExpr) → e.node ≡ node.Binary op a b → expr_view e ≡ binary e.of op (expr_view a) (expr_view b)
at_binary e op a b is =
    expr_is e ∙ ap (λ (x : Node). node_view x e.of) (is ∙ sym (node.rolls-Binary op a b))
    ∙ ap (λ (f : OfType). f e.of) (fold-roll-Node OfType OfType NumberedExpr node_step call_step expr_step (Node-F.Binary op a b))

pub at_call : (e : TypedExpr) (x : TypedCall) → e.node ≡ node.Call x → expr_view e ≡ call_view x e.of
at_call e x is =
    expr_is e ∙ ap (λ (x : Node). node_view x e.of) (is ∙ sym (node.rolls-Call x))
    ∙ ap (λ (f : OfType). f e.of) (fold-roll-Node OfType OfType NumberedExpr node_step call_step expr_step (Node-F.Call x))

pub call_is : (x : TypedCall) (t : ℕ) → call_view x t ≡ call t (out-TypedCall x).callee (out-TypedCall x).generics (exprs_view (out-TypedCall x).args) (out-TypedCall x).at
call_is x t = ap (λ (f : OfType). f t) (fold_out-TypedCall OfType OfType NumberedExpr node_step call_step expr_step x)
