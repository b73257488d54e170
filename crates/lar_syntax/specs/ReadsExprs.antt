-- The tokens of an expression's parts, and how far an operator reaches.
use Rattle.std.specs.Prelude.{ℕ, if◌then◌else◌, List, Option, Some, None, option_map, Result, Ok, Err, ◌≤◌}
use Rattle.lar_tree.specs.declared.token.Token.{Token}
use Rattle.lar_tree.specs.declared.commas.Commas.{Commas}
use Rattle.lar_tree.specs.declared.expr.Binary.{Binary}
use Rattle.lar_tree.specs.declared.expr.Expr.{Expr}
use Rattle.lar_tree.specs.declared.expr.Init.{Init}
use Rattle.lar_tree.specs.declared.expr.Turbofish.{Turbofish}
use Rattle.lar_tree.specs.Spelling.{flat_option}
use Rattle.lar_tree.specs.Exprs.{height, Grouped, GroupedParts, GroupedInits, flat_parts, flat_init, flat_inits, flat_turbofish}
use Rattle.lar_tree.specs.ExprView.{expr_view, init_view, parts_view, inits_view, turbofish_view}
use Rattle.lar_grammar.specs.Symbols.{Stack}
use Rattle.lar_grammar.specs.Moves.{in_reach}
use Rattle.lar_syntax.specs.declared.parser.cursor.Stop.{Stop}
use Rattle.lar_syntax.specs.declared.parser.cursor.Parser.{Parser}
use Rattle.lar_syntax.specs.Reads.{Passes, Takes, Refuses}

-- the same as `Reads`, where other symbols come in place of those that are read
abbrev pub ReadsTo : {T : Type 0} → (T → List Token) → Stack → Stack → Parser → Result T Stop → Parser → Type 0
ReadsTo spell from to old (Ok x) new = Takes (spell x) old new × Passes from to old new
ReadsTo spell from to old (Err e) new = Refuses from e old new

-- the operator, if its height is within these
abbrev pub reach : ℕ → ℕ → Option Binary → Option Binary
reach low high None = None
reach low high (Some op) = if in_reach low high op then Some op else None

-- grouped, and no higher than h
abbrev pub IsOf : ℕ → Expr → Type 0
IsOf h e = (height (expr_view e) ≤ h) × Grouped (expr_view e)

abbrev pub parts_tokens : Option (Commas Expr) → List Token
parts_tokens ps = flat_parts (parts_view ps)

abbrev pub AreParts : Option (Commas Expr) → Type 0
AreParts ps = GroupedParts (parts_view ps)

abbrev pub init_tokens : Init → List Token
init_tokens i = flat_init (init_view i)

abbrev pub IsInit : Init → Type 0
IsInit i = Grouped (init_view i).2

abbrev pub inits_tokens : Option (Commas Init) → List Token
inits_tokens is = flat_inits (inits_view is)

abbrev pub AreInits : Option (Commas Init) → Type 0
AreInits is = GroupedInits (inits_view is)

abbrev pub turbofish_tokens : Turbofish → List Token
turbofish_tokens t = flat_turbofish (turbofish_view t)

abbrev pub generics_tokens : Option Turbofish → List Token
generics_tokens g = flat_option flat_turbofish (option_map turbofish_view g)
