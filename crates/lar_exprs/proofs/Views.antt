-- The plain expressions of each variant.
use Rattle.std.proofs.Common.{◌≡◌, ℤ, Option, Some, None, option_map, refl, sym, ap, ◌∙◌}
use Rattle.lar_source.specs.declared.file.Span.{Span}
use Rattle.lar_tree.specs.declared.name.Path.{Path}
use Rattle.lar_tree.specs.declared.commas.Commas.{Commas}
use Rattle.lar_tree.specs.declared.expr.Expr.{Expr}
use Rattle.lar_tree.specs.declared.expr.Expr.TheVariants as expr
use Rattle.lar_tree.specs.declared.expr.Expr.TheOpen.{Expr-F}
use Rattle.lar_tree.specs.declared.expr.Expr.TheFolds.{fold-roll-Expr, fold_out-Call, fold_out-New, fold_out-Init}
use Rattle.lar_tree.specs.declared.expr.Selector.{Selector}
use Rattle.lar_tree.specs.declared.expr.Unary.{Unary}
use Rattle.lar_tree.specs.declared.expr.Binary.{Binary}
use Rattle.lar_tree.specs.declared.expr.Call.{Call, map-Call}
use Rattle.lar_tree.specs.declared.expr.New.{New, out-New, map-New}
use Rattle.lar_tree.specs.declared.expr.Init.{Init}
use Rattle.lar_tree.specs.declared.expr.Turbofish.{Turbofish}
use Rattle.lar_tree.specs.Exprs.{PlainExpr, PlainInit, number, truth, untruth, paren, new_struct, call, field, unary_of, binary_of}
use Rattle.lar_tree.specs.ExprView.{expr_step, call_step, init_step, new_step, expr_view, call_view, init_view, new_view, turbofish_view, parts_view, inits_view}

pub number_view : (v : ℤ) (at : Span) → expr_view (expr.Number v at) ≡ number v at
number_view v at = ap expr_view (sym (expr.rolls-Number v at)) ∙ fold-roll-Expr PlainExpr PlainExpr PlainInit PlainExpr expr_step call_step init_step new_step (Expr-F.Number v at)

pub truth_view : (at : Span) → expr_view (expr.True at) ≡ truth at
truth_view at = ap expr_view (sym (expr.rolls-True at)) ∙ fold-roll-Expr PlainExpr PlainExpr PlainInit PlainExpr expr_step call_step init_step new_step (Expr-F.True at)

pub untruth_view : (at : Span) → expr_view (expr.False at) ≡ untruth at
untruth_view at = ap expr_view (sym (expr.rolls-False at)) ∙ fold-roll-Expr PlainExpr PlainExpr PlainInit PlainExpr expr_step call_step init_step new_step (Expr-F.False at)

pub paren_view : (from : Span) (c : Commas Expr) (to : Span) → expr_view (expr.Paren from (Some c) to) ≡ paren from (parts_view (Some c)) to
paren_view from c to = ap expr_view (sym (expr.rolls-Paren from (Some c) to)) ∙ fold-roll-Expr PlainExpr PlainExpr PlainInit PlainExpr expr_step call_step init_step new_step (Expr-F.Paren from (Some c) to)

pub field_view : (e : Expr) (dot : Span) (s : Selector) → expr_view (expr.Field e dot s) ≡ field (expr_view e) dot s
field_view e dot s = ap expr_view (sym (expr.rolls-Field e dot s)) ∙ fold-roll-Expr PlainExpr PlainExpr PlainInit PlainExpr expr_step call_step init_step new_step (Expr-F.Field e dot s)

pub unary_view : (op : Unary) (at : Span) (e : Expr) → expr_view (expr.Unary op at e) ≡ unary_of op at (expr_view e)
unary_view op at e = ap expr_view (sym (expr.rolls-Unary op at e)) ∙ fold-roll-Expr PlainExpr PlainExpr PlainInit PlainExpr expr_step call_step init_step new_step (Expr-F.Unary op at e)

pub binary_view : (a : Expr) (op : Binary) (at : Span) (b : Expr) → expr_view (expr.Binary a op at b) ≡ binary_of (expr_view a) op at (expr_view b)
binary_view a op at b = ap expr_view (sym (expr.rolls-Binary a op at b)) ∙ fold-roll-Expr PlainExpr PlainExpr PlainInit PlainExpr expr_step call_step init_step new_step (Expr-F.Binary a op at b)

call_of : (p : Path) (g : Option Turbofish) (from : Span) (o : Option (Commas Expr)) (to : Span)
    → call_step (map-Call Expr Call Init New PlainExpr PlainExpr PlainInit PlainExpr expr_view call_view init_view new_view (record { path = p; generics = g; «open» = from; args = o; close = to })) ≡ call p (option_map turbofish_view g) from (parts_view o) to
call_of p g from None to = refl
call_of p g from (Some c) to = refl

pub call_is : (c : Call) → call_view c ≡ call c.path (option_map turbofish_view c.generics) c.open (parts_view c.args) c.close
call_is c = fold_out-Call PlainExpr PlainExpr PlainInit PlainExpr expr_step call_step init_step new_step c ∙ call_of c.path c.generics c.open c.args c.close

new_of : (at : Span) (p : Path) (g : Option Turbofish) (from : Span) (o : Option (Commas Init)) (to : Span)
    → new_step (map-New Expr Call Init New PlainExpr PlainExpr PlainInit PlainExpr expr_view call_view init_view new_view (record { keyword = at; path = p; generics = g; «open» = from; inits = o; close = to })) ≡ new_struct at p (option_map turbofish_view g) from (inits_view o) to
new_of at p g from None to = refl
new_of at p g from (Some c) to = refl

pub new_is : (n : New) → new_view n ≡ new_struct (out-New n).keyword (out-New n).path (option_map turbofish_view (out-New n).generics) (out-New n).open (inits_view (out-New n).inits) (out-New n).close
new_is n =
    fold_out-New PlainExpr PlainExpr PlainInit PlainExpr expr_step call_step init_step new_step n
    ∙ new_of (out-New n).keyword (out-New n).path (out-New n).generics (out-New n).open (out-New n).inits (out-New n).close

pub init_is : (i : Init) → init_view i ≡ (i.name, i.colon, expr_view i.value)
init_is i = fold_out-Init PlainExpr PlainExpr PlainInit PlainExpr expr_step call_step init_step new_step i
