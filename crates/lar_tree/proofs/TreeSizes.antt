-- Each statement and each expression has a token of its own, so there are at most as many of them as tokens.
use Rattle.std.proofs.Common.{◌+◌, ◌≤◌, length, Option, Some, None, arith, length-append}
use Rattle.lar_tree.specs.declared.keyword.Keyword.{Keyword}
use Rattle.lar_tree.specs.declared.keyword.Keyword.TheVariants as keyword
use Rattle.lar_tree.specs.Spelling.{flat_option}
use Rattle.lar_tree.specs.Exprs.{PlainExpr, number, truth, untruth, paren, new_struct, path, call, field, unary_of, binary_of, PlainParts, no_parts, parts, MoreParts, last_part, next_part, PlainInits, no_inits, inits, MoreInits, last_init, next_init, flat_expr, flat_parts, flat_more_parts, flat_inits, flat_more_inits}
use Rattle.lar_tree.specs.Stmts.{PlainLet, PlainAsked, PlainSetting, PlainStmt, let_stmt, if_stmt, while_stmt, return_stmt, print_stmt, assert_stmt, expr_stmt, PlainBlock, block, PlainStmts, no_stmts, stmts, PlainIf, fork, PlainElse, no_else, else_block, else_if, flat_let, flat_asked, flat_setting, flat_stmt, flat_block, flat_stmts, flat_if, flat_else}
use Rattle.lar_tree.specs.Items.{PlainItem, module_item, struct_item, const_item, fn_item, PlainItems, no_items, items, flat_item, flat_items}
use Rattle.lar_tree.specs.Sizes.{expr_size, parts_size, more_parts_size, inits_size, more_inits_size, value_size, assigned_size, stmt_size, block_size, stmts_size, if_size, else_size, item_size, items_size}

mutual
  expr-size : (e : PlainExpr) → expr_size e ≤ length (flat_expr e)
  expr-size (number n at) = omega arith
  expr-size (truth at) = omega arith
  expr-size (untruth at) = omega arith
  expr-size (paren from ps to) = let h = parts-size ps in simp length-append (omega arith)
  expr-size (new_struct at p generics from is to) = let h = inits-size is in simp length-append (omega arith)
  expr-size (path p) = omega arith
  expr-size (call p generics from ps to) = let h = parts-size ps in simp length-append (omega arith)
  expr-size (field inner dot s) = let h = expr-size inner in simp length-append (omega arith)
  expr-size (unary_of op at inner) = let h = expr-size inner in omega arith
  expr-size (binary_of left op at right) = let h = expr-size left in let k = expr-size right in simp length-append (omega arith)

  parts-size : (ps : PlainParts) → parts_size ps ≤ length (flat_parts ps)
  parts-size no_parts = omega arith
  parts-size (parts first others) = let h = expr-size first in let k = more_parts-size others in simp length-append (omega arith)

  more_parts-size : (ps : MoreParts) → more_parts_size ps ≤ length (flat_more_parts ps)
  more_parts-size last_part = omega arith
  more_parts-size (next_part comma e others) = let h = expr-size e in let k = more_parts-size others in simp length-append (omega arith)

  inits-size : (is : PlainInits) → inits_size is ≤ length (flat_inits is)
  inits-size no_inits = omega arith
  inits-size (inits n colon e others) = let h = expr-size e in let k = more_inits-size others in simp length-append (omega arith)

  more_inits-size : (is : MoreInits) → more_inits_size is ≤ length (flat_more_inits is)
  more_inits-size last_init = omega arith
  more_inits-size (next_init comma n colon e others) = let h = expr-size e in let k = more_inits-size others in simp length-append (omega arith)

value-size : (o : Option PlainExpr) → value_size o ≤ length (flat_option flat_expr o)
value-size None = omega arith
value-size (Some e) = expr-size e

assigned-size : (o : Option PlainSetting) → assigned_size o ≤ length (flat_option flat_setting o)
assigned-size None = omega arith
assigned-size (Some a) = let h = expr-size a.1 in omega arith

let-size : (l : PlainLet) → 1 + expr_size l.value ≤ length (flat_let l)
let-size l = let h = expr-size l.value in simp length-append (omega arith)

asked-size : (word : Keyword) (a : PlainAsked) → 1 + expr_size a.value ≤ length (flat_asked word a)
asked-size word a = let h = expr-size a.value in simp length-append (omega arith)

mutual
  stmt-size : (s : PlainStmt) → stmt_size s ≤ length (flat_stmt s)
  stmt-size (let_stmt l) = let-size l
  stmt-size (if_stmt f) = if-size f
  stmt-size (while_stmt at test body) = let h = expr-size test in let k = block-size body in simp length-append (omega arith)
  stmt-size (return_stmt at value end) = let h = value-size value in simp length-append (omega arith)
  stmt-size (print_stmt a) = asked-size keyword.Print a
  stmt-size (assert_stmt a) = asked-size keyword.StaticAssert a
  stmt-size (expr_stmt e assigned end) = let h = expr-size e in let k = assigned-size assigned in simp length-append (omega arith)

  block-size : (b : PlainBlock) → block_size b ≤ length (flat_block b)
  block-size (block from ss to) = let h = stmts-size ss in simp length-append (omega arith)

  stmts-size : (ss : PlainStmts) → stmts_size ss ≤ length (flat_stmts ss)
  stmts-size no_stmts = omega arith
  stmts-size (stmts s ss) = let h = stmt-size s in let k = stmts-size ss in simp length-append (omega arith)

  if-size : (f : PlainIf) → if_size f ≤ length (flat_if f)
  if-size (fork at test body other) =
      let h = expr-size test in
      let k = block-size body in
      let j = else-size other in
      simp length-append (omega arith)

  else-size : (e : PlainElse) → else_size e ≤ length (flat_else e)
  else-size no_else = omega arith
  else-size (else_block at body) = let h = block-size body in omega arith
  else-size (else_if at f) = let h = if-size f in omega arith

mutual
  item-size : (i : PlainItem) → item_size i ≤ length (flat_item i)
  item-size (module_item at n from is to) = let h = items-size is in simp length-append (omega arith)
  item-size (struct_item s) = omega arith
  item-size (const_item c) = omega arith
  item-size (fn_item f) = let h = block-size f.body in simp length-append (omega arith)

  pub items-size : (is : PlainItems) → items_size is ≤ length (flat_items is)
  items-size no_items = omega arith
  items-size (items i is) = let h = item-size i in let k = items-size is in simp length-append (omega arith)
