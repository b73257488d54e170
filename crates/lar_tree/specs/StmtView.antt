-- The plain statement that a statement of the code stands for.
use Rattle.std.specs.Prelude.{List, [], ◌∷◌, map, Option, Some, None, option_map}
use Rattle.lar_tree.specs.declared.stmt.Let.{Let}
use Rattle.lar_tree.specs.declared.stmt.Asked.{Asked}
use Rattle.lar_tree.specs.declared.stmt.Setting.{Setting}
use Rattle.lar_tree.specs.declared.stmt.Stmt.{Stmt}
use Rattle.lar_tree.specs.declared.stmt.Block.{Block}
use Rattle.lar_tree.specs.declared.stmt.If.{If}
use Rattle.lar_tree.specs.declared.stmt.Else.{Else}
use Rattle.lar_tree.specs.declared.stmt.Else.TheOpen.{Else-F, Stmt-F, Block-F, If-F}
use Rattle.lar_tree.specs.declared.stmt.Else.TheFolds.{fold-Else, fold-Stmt, fold-Block, fold-If}
use Rattle.lar_tree.specs.TypeView.{type_view}
use Rattle.lar_tree.specs.ExprView.{expr_view}
use Rattle.lar_tree.specs.Stmts.{PlainLet, PlainAsked, PlainSetting, PlainStmt, let_stmt, if_stmt, while_stmt, return_stmt, print_stmt, assert_stmt, expr_stmt, PlainBlock, block, PlainStmts, no_stmts, stmts, PlainIf, fork, PlainElse, no_else, else_block, else_if}

abbrev pub let_view : Let → PlainLet
let_view l = record { keyword = l.keyword; name = l.name; colon = l.colon; ty = type_view l.ty; assign = l.assign; value = expr_view l.value; semicolon = l.semicolon }

abbrev pub asked_view : Asked → PlainAsked
asked_view a = record { keyword = a.keyword; from = a.open; value = expr_view a.value; to = a.close; semicolon = a.semicolon }

abbrev pub setting_view : Setting → PlainSetting
setting_view s = (s.assign, expr_view s.value)

abbrev pub stmts_of : List PlainStmt → PlainStmts
stmts_of [] = no_stmts
stmts_of (s ∷ ss) = stmts s (stmts_of ss)

abbrev pub else_of : Option PlainElse → PlainElse
else_of None = no_else
else_of (Some e) = e

abbrev pub else_step : Else-F PlainElse PlainStmt PlainBlock PlainIf → PlainElse
else_step (Else-F.Last at body) = else_block at body
else_step (Else-F.Next at f) = else_if at f

abbrev pub stmt_step : Stmt-F PlainElse PlainStmt PlainBlock PlainIf → PlainStmt
stmt_step (Stmt-F.Let l) = let_stmt (let_view l)
stmt_step (Stmt-F.If f) = if_stmt f
stmt_step (Stmt-F.While at test body) = while_stmt at (expr_view test) body
stmt_step (Stmt-F.Return at value end) = return_stmt at (option_map expr_view value) end
stmt_step (Stmt-F.Print a) = print_stmt (asked_view a)
stmt_step (Stmt-F.StaticAssert a) = assert_stmt (asked_view a)
stmt_step (Stmt-F.Expr e setting end) = expr_stmt (expr_view e) (option_map setting_view setting) end

abbrev pub block_step : Block-F PlainElse PlainStmt PlainBlock PlainIf → PlainBlock
block_step b = block b.open (stmts_of b.stmts) b.close

abbrev pub if_step : If-F PlainElse PlainStmt PlainBlock PlainIf → PlainIf
if_step f = fork f.keyword (expr_view f.test) f.then (else_of f.other)

abbrev pub else_view : Else → PlainElse
else_view = fold-Else PlainElse PlainStmt PlainBlock PlainIf else_step stmt_step block_step if_step

abbrev pub stmt_view : Stmt → PlainStmt
stmt_view = fold-Stmt PlainElse PlainStmt PlainBlock PlainIf else_step stmt_step block_step if_step

abbrev pub block_view : Block → PlainBlock
block_view = fold-Block PlainElse PlainStmt PlainBlock PlainIf else_step stmt_step block_step if_step

abbrev pub if_view : If → PlainIf
if_view = fold-If PlainElse PlainStmt PlainBlock PlainIf else_step stmt_step block_step if_step

abbrev pub stmts_view : List Stmt → PlainStmts
stmts_view ss = stmts_of (map stmt_view ss)
