-- Statements as plain data, and the tokens that they spell.
--
--     Block = "{" { Stmt } "}"
--     Stmt  = "let" NAME ":" Type "=" Expr ";" | If | "while" Expr Block
--           | "return" [ Expr ] ";" | "print" "(" Expr ")" ";"
--           | "static_assert" "(" Expr ")" ";" | Expr [ "=" Expr ] ";"
--     If    = "if" Expr Block [ "else" ( Block | If ) ]
use Rattle.std.specs.Prelude.{List, [], ◌∷◌, ◌++◌, Option, Some, None}
use Rattle.lar_source.specs.declared.file.Span.{Span}
use Rattle.lar_tree.specs.declared.keyword.Keyword.{Keyword}
use Rattle.lar_tree.specs.declared.keyword.Keyword.TheVariants as keyword
use Rattle.lar_tree.specs.declared.sign.Sign.TheVariants as sign
use Rattle.lar_tree.specs.declared.token.Token.{Token}
use Rattle.lar_tree.specs.declared.name.Name.{Name}
use Rattle.lar_tree.specs.Spelling.{sign_token, word_token, name_token, flat_option}
use Rattle.lar_tree.specs.Types.{PlainTy, flat_type}
use Rattle.lar_tree.specs.Exprs.{PlainExpr, flat_expr, Grouped}

pub record PlainLet : Type 0 where
  pub keyword : Span
  pub name : Name
  pub colon : Span
  pub ty : PlainTy
  pub assign : Span
  pub value : PlainExpr
  pub semicolon : Span

-- the expression in brackets behind `print` or `static_assert`
pub record PlainAsked : Type 0 where
  pub keyword : Span
  pub from : Span
  pub value : PlainExpr
  pub to : Span
  pub semicolon : Span

-- the sign `=` and what stands behind it
abbrev pub PlainSetting : Type 0
PlainSetting = Span × PlainExpr

mutual
  pub data PlainStmt : Type 0 where
    let_stmt : PlainLet → PlainStmt
    if_stmt : PlainIf → PlainStmt
    while_stmt : Span → PlainExpr → PlainBlock → PlainStmt
    return_stmt : Span → Option PlainExpr → Span → PlainStmt
    print_stmt : PlainAsked → PlainStmt
    assert_stmt : PlainAsked → PlainStmt
    expr_stmt : PlainExpr → Option PlainSetting → Span → PlainStmt

  pub data PlainBlock : Type 0 where
    block : Span → PlainStmts → Span → PlainBlock

  pub data PlainStmts : Type 0 where
    no_stmts : PlainStmts
    stmts : PlainStmt → PlainStmts → PlainStmts

  pub data PlainIf : Type 0 where
    fork : Span → PlainExpr → PlainBlock → PlainElse → PlainIf

  pub data PlainElse : Type 0 where
    no_else : PlainElse
    else_block : Span → PlainBlock → PlainElse
    else_if : Span → PlainIf → PlainElse

abbrev pub flat_let : PlainLet → List Token
flat_let l = word_token keyword.Let l.keyword ∷ name_token l.name ∷ sign_token sign.Colon l.colon ∷ (flat_type l.ty ++ sign_token sign.Assign l.assign ∷ (flat_expr l.value ++ sign_token sign.Semicolon l.semicolon ∷ []))

abbrev pub flat_asked : Keyword → PlainAsked → List Token
flat_asked word a = word_token word a.keyword ∷ sign_token sign.OpenParen a.from ∷ (flat_expr a.value ++ sign_token sign.CloseParen a.to ∷ sign_token sign.Semicolon a.semicolon ∷ [])

abbrev pub flat_setting : PlainSetting → List Token
flat_setting s = sign_token sign.Assign s.0 ∷ flat_expr s.1

abbrev mutual
  pub flat_stmt : PlainStmt → List Token
  flat_stmt (let_stmt l) = flat_let l
  flat_stmt (if_stmt f) = flat_if f
  flat_stmt (while_stmt at test body) = word_token keyword.While at ∷ (flat_expr test ++ flat_block body)
  flat_stmt (return_stmt at value end) = word_token keyword.Return at ∷ (flat_option flat_expr value ++ sign_token sign.Semicolon end ∷ [])
  flat_stmt (print_stmt a) = flat_asked keyword.Print a
  flat_stmt (assert_stmt a) = flat_asked keyword.StaticAssert a
  flat_stmt (expr_stmt e setting end) = flat_expr e ++ (flat_option flat_setting setting ++ sign_token sign.Semicolon end ∷ [])

  pub flat_block : PlainBlock → List Token
  flat_block (block from ss to) = sign_token sign.OpenBrace from ∷ (flat_stmts ss ++ sign_token sign.CloseBrace to ∷ [])

  pub flat_stmts : PlainStmts → List Token
  flat_stmts no_stmts = []
  flat_stmts (stmts s ss) = flat_stmt s ++ flat_stmts ss

  pub flat_if : PlainIf → List Token
  flat_if (fork at test body other) = word_token keyword.If at ∷ (flat_expr test ++ (flat_block body ++ flat_else other))

  pub flat_else : PlainElse → List Token
  flat_else no_else = []
  flat_else (else_block at body) = word_token keyword.Else at ∷ flat_block body
  flat_else (else_if at f) = word_token keyword.Else at ∷ flat_if f

-- what holds of what may be left out
abbrev pub IfThere : {A : Type 0} → (A → Type 0) → Option A → Type 0
IfThere P None = Unit {0}
IfThere P (Some x) = P x

-- each expression is grouped as the grammar says
abbrev mutual
  pub GroupedStmt : PlainStmt → Type 0
  GroupedStmt (let_stmt l) = Grouped l.value
  GroupedStmt (if_stmt f) = GroupedIf f
  GroupedStmt (while_stmt at test body) = Grouped test × GroupedBlock body
  GroupedStmt (return_stmt at value end) = IfThere Grouped value
  GroupedStmt (print_stmt a) = Grouped a.value
  GroupedStmt (assert_stmt a) = Grouped a.value
  GroupedStmt (expr_stmt e setting end) = Grouped e × IfThere (λ (s : PlainSetting). Grouped s.1) setting

  pub GroupedBlock : PlainBlock → Type 0
  GroupedBlock (block from ss to) = GroupedStmts ss

  pub GroupedStmts : PlainStmts → Type 0
  GroupedStmts no_stmts = Unit {0}
  GroupedStmts (stmts s ss) = GroupedStmt s × GroupedStmts ss

  pub GroupedIf : PlainIf → Type 0
  GroupedIf (fork at test body other) = Grouped test × GroupedBlock body × GroupedElse other

  pub GroupedElse : PlainElse → Type 0
  GroupedElse no_else = Unit {0}
  GroupedElse (else_block at body) = GroupedBlock body
  GroupedElse (else_if at f) = GroupedIf f
