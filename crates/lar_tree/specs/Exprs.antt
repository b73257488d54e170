-- Expressions as plain data, and the tokens that they spell. Which of them are trees of the grammar, `Grouped` says.
--
--     Expr  = And { "||" And }
--     And   = Cmp { "&&" Cmp }
--     Cmp   = Sum [ ( "==" | "!=" | "<" | "<=" | ">" | ">=" ) Sum ]
--     Sum   = Prod { ( "+" | "-" ) Prod }
--     Prod  = Una { ( "*" | "/" | "%" ) Una }
--     Una   = ( "-" | "!" ) Una | Post
--     Post  = Prim { "." ( NAME | INT ) }
--     Prim  = INT | "true" | "false" | "(" [ Expr { "," Expr } ] ")"
--           | "new" Path [ "::" "<" Args ">" ] "{" [ Init { "," Init } ] "}"
--           | Path [ [ "::" "<" Args ">" ] "(" [ Expr { "," Expr } ] ")" ]
--     Init  = NAME ":" Expr
use Rattle.std.specs.Prelude.{ℕ, ℤ, List, [], ◌∷◌, ◌++◌, ◌+◌, ◌≤◌, Option}
use Rattle.lar_source.specs.declared.file.Span.{Span}
use Rattle.lar_tree.specs.declared.keyword.Keyword.TheVariants as keyword
use Rattle.lar_tree.specs.declared.sign.Sign.{Sign}
use Rattle.lar_tree.specs.declared.sign.Sign.TheVariants as sign
use Rattle.lar_tree.specs.declared.token.Token.{Token}
use Rattle.lar_tree.specs.declared.name.Name.{Name}
use Rattle.lar_tree.specs.declared.name.Path.{Path}
use Rattle.lar_tree.specs.declared.expr.Selector.{Selector}
use Rattle.lar_tree.specs.declared.expr.Selector.TheVariants as selector
use Rattle.lar_tree.specs.declared.expr.Unary.{Unary}
use Rattle.lar_tree.specs.declared.expr.Unary.TheVariants as unary
use Rattle.lar_tree.specs.declared.expr.Binary.{Binary}
use Rattle.lar_tree.specs.declared.expr.Binary.TheVariants as binary
use Rattle.lar_tree.specs.Spelling.{sign_token, word_token, number_token, name_token, flat_path, flat_option}
use Rattle.lar_tree.specs.Types.{PlainArgs, flat_args}

-- generics in an expression, with the `::` before them
abbrev pub PlainTurbofish : Type 0
PlainTurbofish = Span × PlainArgs

mutual
  pub data PlainExpr : Type 0 where
    number : ℤ → Span → PlainExpr
    truth : Span → PlainExpr
    untruth : Span → PlainExpr
    -- a bracket, a tuple or the empty tuple
    paren : Span → PlainParts → Span → PlainExpr
    new_struct : Span → Path → Option PlainTurbofish → Span → PlainInits → Span → PlainExpr
    path : Path → PlainExpr
    call : Path → Option PlainTurbofish → Span → PlainParts → Span → PlainExpr
    field : PlainExpr → Span → Selector → PlainExpr
    unary_of : Unary → Span → PlainExpr → PlainExpr
    binary_of : PlainExpr → Binary → Span → PlainExpr → PlainExpr

  pub data PlainParts : Type 0 where
    no_parts : PlainParts
    parts : PlainExpr → MoreParts → PlainParts

  pub data MoreParts : Type 0 where
    last_part : MoreParts
    next_part : Span → PlainExpr → MoreParts → MoreParts

  pub data PlainInits : Type 0 where
    no_inits : PlainInits
    inits : Name → Span → PlainExpr → MoreInits → PlainInits

  pub data MoreInits : Type 0 where
    last_init : MoreInits
    next_init : Span → Name → Span → PlainExpr → MoreInits → MoreInits

abbrev pub unary_sign : Unary → Sign
unary_sign unary.Minus = sign.Minus
unary_sign unary.Not = sign.Not

abbrev pub binary_sign : Binary → Sign
binary_sign binary.Or = sign.Or
binary_sign binary.And = sign.And
binary_sign binary.Equal = sign.Equal
binary_sign binary.NotEqual = sign.NotEqual
binary_sign binary.Less = sign.Less
binary_sign binary.AtMost = sign.AtMost
binary_sign binary.Greater = sign.Greater
binary_sign binary.AtLeast = sign.AtLeast
binary_sign binary.Plus = sign.Plus
binary_sign binary.Minus = sign.Minus
binary_sign binary.Star = sign.Star
binary_sign binary.Slash = sign.Slash
binary_sign binary.Percent = sign.Percent

abbrev pub selector_token : Selector → Token
selector_token (selector.Name n) = name_token n
selector_token (selector.Number n at) = number_token n at

abbrev pub flat_turbofish : PlainTurbofish → List Token
flat_turbofish t = sign_token sign.PathSep t.0 ∷ flat_args t.1

abbrev mutual
  pub flat_expr : PlainExpr → List Token
  flat_expr (number n at) = number_token n at ∷ []
  flat_expr (truth at) = word_token keyword.True at ∷ []
  flat_expr (untruth at) = word_token keyword.False at ∷ []
  flat_expr (paren from ps to) = sign_token sign.OpenParen from ∷ (flat_parts ps ++ sign_token sign.CloseParen to ∷ [])
  flat_expr (new_struct at p generics from is to) = word_token keyword.New at ∷ (flat_path p ++ (flat_option flat_turbofish generics ++ sign_token sign.OpenBrace from ∷ (flat_inits is ++ sign_token sign.CloseBrace to ∷ [])))
  flat_expr (path p) = flat_path p
  flat_expr (call p generics from ps to) = flat_path p ++ (flat_option flat_turbofish generics ++ sign_token sign.OpenParen from ∷ (flat_parts ps ++ sign_token sign.CloseParen to ∷ []))
  flat_expr (field inner dot s) = flat_expr inner ++ sign_token sign.Dot dot ∷ selector_token s ∷ []
  flat_expr (unary_of op at inner) = sign_token (unary_sign op) at ∷ flat_expr inner
  flat_expr (binary_of left op at right) = flat_expr left ++ sign_token (binary_sign op) at ∷ flat_expr right

  pub flat_parts : PlainParts → List Token
  flat_parts no_parts = []
  flat_parts (parts first others) = flat_expr first ++ flat_more_parts others

  pub flat_more_parts : MoreParts → List Token
  flat_more_parts last_part = []
  flat_more_parts (next_part comma e others) = sign_token sign.Comma comma ∷ (flat_expr e ++ flat_more_parts others)

  pub flat_inits : PlainInits → List Token
  flat_inits no_inits = []
  flat_inits (inits n colon e others) = name_token n ∷ sign_token sign.Colon colon ∷ (flat_expr e ++ flat_more_inits others)

  pub flat_more_inits : MoreInits → List Token
  flat_more_inits last_init = []
  flat_more_inits (next_init comma n colon e others) = sign_token sign.Comma comma ∷ name_token n ∷ sign_token sign.Colon colon ∷ (flat_expr e ++ flat_more_inits others)

-- a field's name, the colon, and what it is set to
abbrev pub PlainInit : Type 0
PlainInit = Name × Span × PlainExpr

abbrev pub flat_init : PlainInit → List Token
flat_init i = name_token i.0 ∷ sign_token sign.Colon i.1 ∷ flat_expr i.2

-- how loosely an operator binds
abbrev pub height_of : Binary → ℕ
height_of binary.Star = 2
height_of binary.Slash = 2
height_of binary.Percent = 2
height_of binary.Plus = 3
height_of binary.Minus = 3
height_of binary.Equal = 4
height_of binary.NotEqual = 4
height_of binary.Less = 4
height_of binary.AtMost = 4
height_of binary.Greater = 4
height_of binary.AtLeast = 4
height_of binary.And = 5
height_of binary.Or = 6

-- How high the left operand may be. Chains group to the left, and a comparison does not chain.
abbrev pub left_height : Binary → ℕ
left_height binary.Equal = 3
left_height binary.NotEqual = 3
left_height binary.Less = 3
left_height binary.AtMost = 3
left_height binary.Greater = 3
left_height binary.AtLeast = 3
left_height op = height_of op

-- an operand has height 0, and one with a sign before it height 1
abbrev pub height : PlainExpr → ℕ
height (binary_of left op at right) = height_of op
height (unary_of op at inner) = 1
height _ = 0

-- the tree is grouped as the grammar says
abbrev mutual
  pub Grouped : PlainExpr → Type 0
  Grouped (number n at) = Unit {0}
  Grouped (truth at) = Unit {0}
  Grouped (untruth at) = Unit {0}
  Grouped (paren from ps to) = GroupedParts ps
  Grouped (new_struct at p generics from is to) = GroupedInits is
  Grouped (path p) = Unit {0}
  Grouped (call p generics from ps to) = GroupedParts ps
  Grouped (field inner dot s) = (height inner ≤ 0) × Grouped inner
  Grouped (unary_of op at inner) = (height inner ≤ 1) × Grouped inner
  Grouped (binary_of left op at right) = (height left ≤ left_height op) × (height right + 1 ≤ height_of op) × Grouped left × Grouped right

  pub GroupedParts : PlainParts → Type 0
  GroupedParts no_parts = Unit {0}
  GroupedParts (parts first others) = Grouped first × GroupedMoreParts others

  pub GroupedMoreParts : MoreParts → Type 0
  GroupedMoreParts last_part = Unit {0}
  GroupedMoreParts (next_part comma e others) = Grouped e × GroupedMoreParts others

  pub GroupedInits : PlainInits → Type 0
  GroupedInits no_inits = Unit {0}
  GroupedInits (inits n colon e others) = Grouped e × GroupedMoreInits others

  pub GroupedMoreInits : MoreInits → Type 0
  GroupedMoreInits last_init = Unit {0}
  GroupedMoreInits (next_init comma n colon e others) = Grouped e × GroupedMoreInits others
