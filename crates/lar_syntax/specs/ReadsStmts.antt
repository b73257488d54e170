-- The tokens of statements and of their parts.
use Rattle.std.specs.Prelude.{List, Option, option_map}
use Rattle.lar_tree.specs.declared.keyword.Keyword.{Keyword}
use Rattle.lar_tree.specs.declared.token.Token.{Token}
use Rattle.lar_tree.specs.declared.expr.Expr.{Expr}
use Rattle.lar_tree.specs.declared.stmt.Asked.{Asked}
use Rattle.lar_tree.specs.declared.stmt.Setting.{Setting}
use Rattle.lar_tree.specs.declared.stmt.Stmt.{Stmt}
use Rattle.lar_tree.specs.declared.stmt.Block.{Block}
use Rattle.lar_tree.specs.declared.stmt.If.{If}
use Rattle.lar_tree.specs.declared.stmt.Else.{Else}
use Rattle.lar_tree.specs.Spelling.{flat_option}
use Rattle.lar_tree.specs.Exprs.{Grouped, flat_expr}
use Rattle.lar_tree.specs.ExprView.{expr_view}
use Rattle.lar_tree.specs.Stmts.{PlainSetting, IfThere, flat_asked, flat_setting, flat_stmt, flat_stmts, flat_if, flat_else, GroupedStmt, GroupedBlock, GroupedIf, GroupedElse}
use Rattle.lar_tree.specs.StmtView.{asked_view, setting_view, stmt_view, stmts_view, block_view, if_view, else_view, else_of}

-- ---- tokens

abbrev pub value_tokens : Option Expr → List Token
value_tokens v = flat_option flat_expr (option_map expr_view v)

abbrev pub setting_tokens : Option Setting → List Token
setting_tokens s = flat_option flat_setting (option_map setting_view s)

abbrev pub asked_tokens : Keyword → Asked → List Token
asked_tokens word a = flat_asked word (asked_view a)

abbrev pub stmt_tokens : Stmt → List Token
stmt_tokens s = flat_stmt (stmt_view s)

abbrev pub stmts_tokens : List Stmt → List Token
stmts_tokens ss = flat_stmts (stmts_view ss)

abbrev pub if_tokens : If → List Token
if_tokens f = flat_if (if_view f)

abbrev pub else_tokens : Option Else → List Token
else_tokens e = flat_else (else_of (option_map else_view e))

-- ---- each expression in it is grouped

abbrev pub IsValue : Option Expr → Type 0
IsValue v = IfThere Grouped (option_map expr_view v)

abbrev pub IsSetting : Option Setting → Type 0
IsSetting s = IfThere (λ (x : PlainSetting). Grouped x.1) (option_map setting_view s)

abbrev pub IsAsked : Asked → Type 0
IsAsked a = Grouped (expr_view a.value)

abbrev pub IsStmt : Stmt → Type 0
IsStmt s = GroupedStmt (stmt_view s)

abbrev pub IsBlock : Block → Type 0
IsBlock b = GroupedBlock (block_view b)

abbrev pub IsIf : If → Type 0
IsIf f = GroupedIf (if_view f)

abbrev pub IsElse : Option Else → Type 0
IsElse e = GroupedElse (else_of (option_map else_view e))
