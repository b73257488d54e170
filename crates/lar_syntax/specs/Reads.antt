-- What a function of the parser does.
use Rattle.std.specs.Prelude.{◌≡◌, Bool, true, false, List, [], ◌∷◌, ◌++◌, Option, Some, None, Result, Ok, Err, ◌⊎◌}
use Rattle.lar_source.specs.declared.file.Span.{Span}
use Rattle.lar_tree.specs.declared.sign.Sign.TheVariants as sign
use Rattle.lar_tree.specs.declared.token.Kind.TheVariants as kind
use Rattle.lar_tree.specs.declared.token.Token.{Token}
use Rattle.lar_tree.specs.declared.ty.Ty.{Ty}
use Rattle.lar_tree.specs.declared.ty.GenericArg.{GenericArg}
use Rattle.lar_tree.specs.declared.ty.GenericArgs.{GenericArgs}
use Rattle.lar_tree.specs.declared.expr.Expr.{Expr}
use Rattle.lar_tree.specs.declared.stmt.Block.{Block}
use Rattle.lar_tree.specs.Types.{flat_type, flat_arg, flat_args}
use Rattle.lar_tree.specs.TypeView.{type_view, arg_view, args_view}
use Rattle.lar_tree.specs.Exprs.{flat_expr}
use Rattle.lar_tree.specs.ExprView.{expr_view}
use Rattle.lar_tree.specs.Stmts.{flat_block}
use Rattle.lar_tree.specs.StmtView.{block_view}
use Rattle.lar_grammar.specs.Looks.{Look, look}
use Rattle.lar_grammar.specs.Symbols.{Stack}
use Rattle.lar_grammar.specs.Machine.{fault, spend}
use Rattle.lar_syntax.specs.declared.parser.cursor.Stop.{Stop}
use Rattle.lar_syntax.specs.declared.parser.cursor.Stop.TheVariants as stop
use Rattle.lar_syntax.specs.declared.parser.cursor.Parser.{Parser}

-- the parser goes on as if the symbols were read
abbrev pub Passes : Stack → Stack → Parser → Parser → Type 0
Passes from to old new = (ss : Stack) → fault old.rest.now old.room (from ++ ss) ≡ fault new.rest.now new.room (to ++ ss)

-- whatever follows the symbols, the fault stands at the next token
abbrev pub Stops : Stack → Parser → Parser → Type 0
Stops from old new = (ss : Stack) → fault old.rest.now old.room (from ++ ss) ≡ Some new.rest.now

-- these tokens were read
abbrev pub Takes : List Token → Parser → Parser → Type 0
Takes ts old new = old.rest.now ≡ ts ++ new.rest.now

abbrev pub Refuses : Stack → Stop → Parser → Parser → Type 0
Refuses from stop.Memory old new = Unit {0}
Refuses from stop.Syntax old new = Stops from old new

-- A part of the grammar: what is read is spelled so, and the first fault is found.
abbrev pub Reads : {T : Type 0} → (T → List Token) → Stack → Parser → Result T Stop → Parser → Type 0
Reads spell from old (Ok x) new = Takes (spell x) old new × Passes from [] old new
Reads spell from old (Err e) new = Refuses from e old new

-- the same, where the first tokens of what is read stand before
abbrev pub ReadsOn : {T : Type 0} → List Token → (T → List Token) → Stack → Parser → Result T Stop → Parser → Type 0
ReadsOn front spell from old (Ok x) new = (front ++ old.rest.now ≡ spell x ++ new.rest.now) × Passes from [] old new
ReadsOn front spell from old (Err e) new = Refuses from e old new

-- no token may come
abbrev pub IsBlocked : Parser → Type 0
IsBlocked p = (look p.rest.now ≡ None) ⊎ (spend p.room ≡ None)

-- the next token's place, and what is behind it
abbrev pub next : List Token → Option (Span × List Token)
next [] = None
next (t ∷ ts) = Some (t.span, ts)

abbrev pub Advances : Parser → Result Span Stop → Parser → Type 0
Advances old (Ok at) new = (next old.rest.now ≡ Some (at, new.rest.now)) × (spend old.room ≡ Some new.room)
Advances old (Err stop.Syntax) new = IsBlocked old × (new.rest.now ≡ old.rest.now)
Advances old (Err stop.Memory) new = ⊥

-- a number comes, with a sign before it or none
abbrev pub begins_number : Look → Bool
begins_number (Some (kind.Sign sign.Minus)) = true
begins_number (Some (kind.Number n)) = true
begins_number _ = false

-- ---- the tokens of trees

abbrev pub ty_tokens : Ty → List Token
ty_tokens t = flat_type (type_view t)

abbrev pub arg_tokens : GenericArg → List Token
arg_tokens a = flat_arg (arg_view a)

abbrev pub args_tokens : GenericArgs → List Token
args_tokens a = flat_args (args_view a)

abbrev pub expr_tokens : Expr → List Token
expr_tokens e = flat_expr (expr_view e)

abbrev pub block_tokens : Block → List Token
block_tokens b = flat_block (block_view b)
