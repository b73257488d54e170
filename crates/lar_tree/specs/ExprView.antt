-- The plain expression that an expression of the code stands for.
use Rattle.std.specs.Prelude.{List, [], ◌∷◌, Option, Some, None, option_map}
use Rattle.lar_tree.specs.declared.commas.Commas.{Commas}
use Rattle.lar_tree.specs.declared.commas.Member.{Member}
use Rattle.lar_tree.specs.declared.expr.Turbofish.{Turbofish}
use Rattle.lar_tree.specs.declared.expr.Expr.{Expr}
use Rattle.lar_tree.specs.declared.expr.Call.{Call}
use Rattle.lar_tree.specs.declared.expr.Init.{Init}
use Rattle.lar_tree.specs.declared.expr.New.{New}
use Rattle.lar_tree.specs.declared.expr.Expr.TheOpen.{Expr-F, Call-F, Init-F, New-F}
use Rattle.lar_tree.specs.declared.expr.Expr.TheFolds.{fold-Expr, fold-Call, fold-Init, fold-New}
use Rattle.lar_tree.specs.Commas.{commas_map}
use Rattle.lar_tree.specs.TypeView.{args_view}
use Rattle.lar_tree.specs.Exprs.{PlainTurbofish, PlainExpr, number, truth, untruth, paren, new_struct, path, call, field, unary_of, binary_of, PlainParts, no_parts, parts, MoreParts, last_part, next_part, PlainInits, no_inits, inits, MoreInits, last_init, next_init, PlainInit}

abbrev pub turbofish_view : Turbofish → PlainTurbofish
turbofish_view t = (t.sep, args_view t.args)

abbrev pub more_parts : List (Member PlainExpr) → MoreParts
more_parts [] = last_part
more_parts (m ∷ ms) = next_part m.comma m.value (more_parts ms)

abbrev pub parts_of : Option (Commas PlainExpr) → PlainParts
parts_of None = no_parts
parts_of (Some c) = parts c.first (more_parts c.more)

abbrev pub more_inits : List (Member PlainInit) → MoreInits
more_inits [] = last_init
more_inits (m ∷ ms) = next_init m.comma m.value.0 m.value.1 m.value.2 (more_inits ms)

abbrev pub inits_of : Option (Commas PlainInit) → PlainInits
inits_of None = no_inits
inits_of (Some c) = inits c.first.0 c.first.1 c.first.2 (more_inits c.more)

abbrev pub expr_step : Expr-F PlainExpr PlainExpr PlainInit PlainExpr → PlainExpr
expr_step (Expr-F.Number n at) = number n at
expr_step (Expr-F.True at) = truth at
expr_step (Expr-F.False at) = untruth at
expr_step (Expr-F.Paren from ps to) = paren from (parts_of ps) to
expr_step (Expr-F.New n) = n
expr_step (Expr-F.Path p) = path p
expr_step (Expr-F.Call c) = c
expr_step (Expr-F.Field inner dot s) = field inner dot s
expr_step (Expr-F.Unary op at inner) = unary_of op at inner
expr_step (Expr-F.Binary left op at right) = binary_of left op at right

abbrev pub call_step : Call-F PlainExpr PlainExpr PlainInit PlainExpr → PlainExpr
call_step c = call c.path (option_map turbofish_view c.generics) c.open (parts_of c.args) c.close

abbrev pub init_step : Init-F PlainExpr PlainExpr PlainInit PlainExpr → PlainInit
init_step i = (i.name, i.colon, i.value)

abbrev pub new_step : New-F PlainExpr PlainExpr PlainInit PlainExpr → PlainExpr
new_step n = new_struct n.keyword n.path (option_map turbofish_view n.generics) n.open (inits_of n.inits) n.close

abbrev pub expr_view : Expr → PlainExpr
expr_view = fold-Expr PlainExpr PlainExpr PlainInit PlainExpr expr_step call_step init_step new_step

abbrev pub call_view : Call → PlainExpr
call_view = fold-Call PlainExpr PlainExpr PlainInit PlainExpr expr_step call_step init_step new_step

abbrev pub init_view : Init → PlainInit
init_view = fold-Init PlainExpr PlainExpr PlainInit PlainExpr expr_step call_step init_step new_step

abbrev pub new_view : New → PlainExpr
new_view = fold-New PlainExpr PlainExpr PlainInit PlainExpr expr_step call_step init_step new_step

-- the members of a list, if there is one
abbrev pub parts_view : Option (Commas Expr) → PlainParts
parts_view list = parts_of (option_map (commas_map expr_view) list)

abbrev pub inits_view : Option (Commas Init) → PlainInits
inits_view list = inits_of (option_map (commas_map init_view) list)
