-- How many statements and expressions there are in a tree, brackets and the places left of `=` among them.
use Rattle.std.specs.Prelude.{ℕ, ◌+◌, Option, Some, None}
use Rattle.lar_tree.specs.Exprs.{PlainExpr, number, truth, untruth, paren, new_struct, path, call, field, unary_of, binary_of, PlainParts, no_parts, parts, MoreParts, last_part, next_part, PlainInits, no_inits, inits, MoreInits, last_init, next_init}
use Rattle.lar_tree.specs.Stmts.{PlainSetting, PlainStmt, let_stmt, if_stmt, while_stmt, return_stmt, print_stmt, assert_stmt, expr_stmt, PlainBlock, block, PlainStmts, no_stmts, stmts, PlainIf, fork, PlainElse, no_else, else_block, else_if}
use Rattle.lar_tree.specs.Items.{PlainItem, module_item, struct_item, const_item, fn_item, PlainItems, no_items, items}

abbrev mutual
  pub expr_size : PlainExpr → ℕ
  expr_size (number n at) = 1
  expr_size (truth at) = 1
  expr_size (untruth at) = 1
  expr_size (paren from ps to) = 1 + parts_size ps
  expr_size (new_struct at p generics from is to) = 1 + inits_size is
  expr_size (path p) = 1
  expr_size (call p generics from ps to) = 1 + parts_size ps
  expr_size (field inner dot s) = 1 + expr_size inner
  expr_size (unary_of op at inner) = 1 + expr_size inner
  expr_size (binary_of left op at right) = 1 + expr_size left + expr_size right

  pub parts_size : PlainParts → ℕ
  parts_size no_parts = 0
  parts_size (parts first others) = expr_size first + more_parts_size others

  pub more_parts_size : MoreParts → ℕ
  more_parts_size last_part = 0
  more_parts_size (next_part comma e others) = expr_size e + more_parts_size others

  pub inits_size : PlainInits → ℕ
  inits_size no_inits = 0
  inits_size (inits n colon e others) = expr_size e + more_inits_size others

  pub more_inits_size : MoreInits → ℕ
  more_inits_size last_init = 0
  more_inits_size (next_init comma n colon e others) = expr_size e + more_inits_size others

abbrev pub value_size : Option PlainExpr → ℕ
value_size None = 0
value_size (Some e) = expr_size e

abbrev pub assigned_size : Option PlainSetting → ℕ
assigned_size None = 0
assigned_size (Some a) = expr_size a.1

abbrev mutual
  pub stmt_size : PlainStmt → ℕ
  stmt_size (let_stmt l) = 1 + expr_size l.value
  stmt_size (if_stmt f) = if_size f
  stmt_size (while_stmt at test body) = 1 + expr_size test + block_size body
  stmt_size (return_stmt at value end) = 1 + value_size value
  stmt_size (print_stmt a) = 1 + expr_size a.value
  stmt_size (assert_stmt a) = 1 + expr_size a.value
  stmt_size (expr_stmt e assigned end) = 1 + expr_size e + assigned_size assigned

  pub block_size : PlainBlock → ℕ
  block_size (block from ss to) = stmts_size ss

  pub stmts_size : PlainStmts → ℕ
  stmts_size no_stmts = 0
  stmts_size (stmts s ss) = stmt_size s + stmts_size ss

  -- an `if` after `else` is a statement too
  pub if_size : PlainIf → ℕ
  if_size (fork at test body other) = 1 + expr_size test + block_size body + else_size other

  pub else_size : PlainElse → ℕ
  else_size no_else = 0
  else_size (else_block at body) = block_size body
  else_size (else_if at f) = if_size f

abbrev mutual
  pub item_size : PlainItem → ℕ
  item_size (module_item at n from is to) = items_size is
  item_size (struct_item s) = 0
  item_size (const_item c) = 0
  item_size (fn_item f) = block_size f.body

  pub items_size : PlainItems → ℕ
  items_size no_items = 0
  items_size (items i is) = item_size i + items_size is
