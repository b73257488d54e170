-- Statements and items without their places: their tokens, and that they stay grouped. So the kinds of its tokens fix a tree.
use Rattle.std.proofs.Common.{◌≡◌, List, [], ◌∷◌, map, Option, Some, None, option_map, refl, sym, ap, ◌∙◌}
use Rattle.std.proofs.lemmas.List.{map-append}
use Rattle.lar_tree.specs.declared.keyword.Keyword.{Keyword}
use Rattle.lar_tree.specs.declared.keyword.Keyword.TheVariants as keyword
use Rattle.lar_tree.specs.declared.token.Kind.{Kind}
use Rattle.lar_tree.specs.declared.token.Token.{Token}
use Rattle.lar_tree.specs.declared.item.Generic.TheVariants as generic
use Rattle.lar_tree.specs.Spelling.{kinds, flat_option}
use Rattle.lar_tree.specs.Commas.{flat_members, flat_commas}
use Rattle.lar_tree.specs.Exprs.{PlainExpr, flat_expr, Grouped}
use Rattle.lar_tree.specs.Stmts.{PlainSetting, PlainStmt, let_stmt, if_stmt, while_stmt, return_stmt, print_stmt, assert_stmt, expr_stmt, PlainBlock, block, PlainStmts, no_stmts, stmts, PlainIf, fork, PlainElse, no_else, else_block, else_if, flat_let, flat_asked, flat_setting, flat_stmt, flat_block, flat_stmts, flat_if, flat_else, IfThere, GroupedStmt, GroupedBlock, GroupedStmts, GroupedIf, GroupedElse}
use Rattle.lar_tree.specs.Items.{PlainFn, PlainItem, module_item, struct_item, const_item, fn_item, PlainItems, no_items, items, flat_attributes, flat_generic, flat_name, flat_angled, flat_field, flat_output, flat_struct, flat_const, flat_head, flat_item, flat_items, GroupedItem, GroupedItems}
use Rattle.lar_grammar.specs.Unplaced.{nowhere, unplaced_name, unplaced_expr, unplaced_let, unplaced_asked, unplaced_setting, unplaced_stmt, unplaced_block, unplaced_stmts, unplaced_if, unplaced_else, unplaced_member, unplaced_commas, unplaced_angled, unplaced_field, unplaced_struct, unplaced_const, unplaced_attribute, unplaced_generic, unplaced_output, unplaced_fn, unplaced_item, unplaced_items}
use Rattle.lar_grammar.proofs.OneItem.{same_tree}
use Rattle.lar_grammar.proofs.UnplacedExprs.{unplaced_tokens, Keeps, option_keeps, signed_keeps, type_keeps, expr_keeps, expr_grouped}

-- ---- statements

let_keeps : Keeps flat_let unplaced_let
let_keeps l = simp (map-append, type_keeps l.ty, expr_keeps l.value)

asked_keeps : (w : Keyword) → Keeps (flat_asked w) unplaced_asked
asked_keeps w a = simp (map-append, expr_keeps a.value)

setting_keeps : Keeps flat_setting unplaced_setting
setting_keeps s = simp (expr_keeps s.1)

value_keeps : Keeps (flat_option flat_expr) (option_map unplaced_expr)
value_keeps = option_keeps flat_expr unplaced_expr expr_keeps

set_keeps : Keeps (flat_option flat_setting) (option_map unplaced_setting)
set_keeps = option_keeps flat_setting unplaced_setting setting_keeps

mutual
  stmt_keeps : Keeps flat_stmt unplaced_stmt
  stmt_keeps (let_stmt l) = let_keeps l
  stmt_keeps (if_stmt f) = if_keeps f
  stmt_keeps (while_stmt at test body) = simp (map-append, expr_keeps test, block_keeps body)
  stmt_keeps (return_stmt at value end) = simp (map-append, value_keeps value)
  stmt_keeps (print_stmt a) = asked_keeps keyword.Print a
  stmt_keeps (assert_stmt a) = asked_keeps keyword.StaticAssert a
  stmt_keeps (expr_stmt e setting end) = simp (map-append, expr_keeps e, set_keeps setting)

  block_keeps : Keeps flat_block unplaced_block
  block_keeps (block from ss to) = simp (map-append, stmts_keep ss)

  stmts_keep : Keeps flat_stmts unplaced_stmts
  stmts_keep no_stmts = refl
  stmts_keep (stmts s ss) = simp (map-append, stmt_keeps s, stmts_keep ss)

  if_keeps : Keeps flat_if unplaced_if
  if_keeps (fork at test body other) = simp (map-append, expr_keeps test, block_keeps body, else_keeps other)

  else_keeps : Keeps flat_else unplaced_else
  else_keeps no_else = refl
  else_keeps (else_block at body) = simp (block_keeps body)
  else_keeps (else_if at f) = simp (if_keeps f)

value_grouped : (o : Option PlainExpr) → IfThere Grouped o → IfThere Grouped (option_map unplaced_expr o)
value_grouped None g = tt
value_grouped (Some e) g = expr_grouped e g

set_grouped : (o : Option PlainSetting) → IfThere (λ (s : PlainSetting). Grouped s.1) o → IfThere (λ (s : PlainSetting). Grouped s.1) (option_map unplaced_setting o)
set_grouped None g = tt
set_grouped (Some s) g = expr_grouped s.1 g

mutual
  stmt_grouped : (s : PlainStmt) → GroupedStmt s → GroupedStmt (unplaced_stmt s)
  stmt_grouped (let_stmt l) g = expr_grouped l.value g
  stmt_grouped (if_stmt f) g = if_grouped f g
  stmt_grouped (while_stmt at test body) g = (expr_grouped test g.0, block_grouped body g.1)
  stmt_grouped (return_stmt at value end) g = value_grouped value g
  stmt_grouped (print_stmt a) g = expr_grouped a.value g
  stmt_grouped (assert_stmt a) g = expr_grouped a.value g
  stmt_grouped (expr_stmt e setting end) g = (expr_grouped e g.0, set_grouped setting g.1)

  block_grouped : (b : PlainBlock) → GroupedBlock b → GroupedBlock (unplaced_block b)
  block_grouped (block from ss to) g = stmts_grouped ss g

  stmts_grouped : (ss : PlainStmts) → GroupedStmts ss → GroupedStmts (unplaced_stmts ss)
  stmts_grouped no_stmts g = tt
  stmts_grouped (stmts s ss) g = (stmt_grouped s g.0, stmts_grouped ss g.1)

  if_grouped : (f : PlainIf) → GroupedIf f → GroupedIf (unplaced_if f)
  if_grouped (fork at test body other) g = (expr_grouped test g.0, block_grouped body g.1, else_grouped other g.2)

  else_grouped : (e : PlainElse) → GroupedElse e → GroupedElse (unplaced_else e)
  else_grouped no_else g = tt
  else_grouped (else_block at body) g = block_grouped body g
  else_grouped (else_if at f) g = if_grouped f g

-- ---- items

members_keep : {A : Type 0} (flat : A → List Token) (f : A → A) → Keeps flat f → Keeps (flat_members flat) (map (unplaced_member f))
members_keep flat f k [] = refl
members_keep flat f k (m ∷ ms) = simp (map-append, k m.value, members_keep flat f k ms)

commas_keep : {A : Type 0} (flat : A → List Token) (f : A → A) → Keeps flat f → Keeps (flat_commas flat) (unplaced_commas f)
commas_keep flat f k c = simp (map-append, k c.first, members_keep flat f k c.more)

angled_keeps : {A : Type 0} (flat : A → List Token) (f : A → A) → Keeps flat f → Keeps (flat_angled flat) (unplaced_angled f)
angled_keeps flat f k a = simp (map-append, commas_keep flat f k a.list)

name_keeps : Keeps flat_name unplaced_name
name_keeps n = refl

generic_keeps : Keeps flat_generic unplaced_generic
generic_keeps (generic.Ty n) = refl
generic_keeps (generic.Const c) = refl

field_keeps : Keeps flat_field unplaced_field
field_keeps f = simp (type_keeps f.2)

output_keeps : Keeps flat_output unplaced_output
output_keeps o = simp (type_keeps o.1)

attributes_keep : Keeps flat_attributes (map unplaced_attribute)
attributes_keep [] = refl
attributes_keep (a ∷ rest) = simp (attributes_keep rest)

names_keep : Keeps (flat_option (flat_angled flat_name)) (option_map (unplaced_angled unplaced_name))
names_keep = option_keeps (flat_angled flat_name) (unplaced_angled unplaced_name) (angled_keeps flat_name unplaced_name name_keeps)

generics_keep : Keeps (flat_option (flat_angled flat_generic)) (option_map (unplaced_angled unplaced_generic))
generics_keep = option_keeps (flat_angled flat_generic) (unplaced_angled unplaced_generic) (angled_keeps flat_generic unplaced_generic generic_keeps)

fields_keep : Keeps (flat_option (flat_commas flat_field)) (option_map (unplaced_commas unplaced_field))
fields_keep = option_keeps (flat_commas flat_field) (unplaced_commas unplaced_field) (commas_keep flat_field unplaced_field field_keeps)

result_keeps : Keeps (flat_option flat_output) (option_map unplaced_output)
result_keeps = option_keeps flat_output unplaced_output output_keeps

struct_keeps : Keeps flat_struct unplaced_struct
struct_keeps s = simp (map-append, names_keep s.generics, fields_keep s.fields)

const_keeps : Keeps flat_const unplaced_const
const_keeps c = simp (map-append, signed_keeps c.value)

head_keeps : (f : PlainFn) → flat_head (unplaced_fn f) ≡ unplaced_tokens (flat_head f)
head_keeps f = simp (map-append, attributes_keep f.attributes, generics_keep f.generics, fields_keep f.params, result_keeps f.output)

mutual
  item_keeps : Keeps flat_item unplaced_item
  item_keeps (module_item at n from is to) = simp (map-append, items_keep is)
  item_keeps (struct_item s) = struct_keeps s
  item_keeps (const_item c) = const_keeps c
  item_keeps (fn_item f) = simp (map-append, head_keeps f, block_keeps f.body)

  items_keep : Keeps flat_items unplaced_items
  items_keep no_items = refl
  items_keep (items i is) = simp (map-append, item_keeps i, items_keep is)

mutual
  item_grouped : (i : PlainItem) → GroupedItem i → GroupedItem (unplaced_item i)
  item_grouped (module_item at n from is to) g = items_grouped is g
  item_grouped (struct_item s) g = tt
  item_grouped (const_item c) g = tt
  item_grouped (fn_item f) g = block_grouped f.body g

  items_grouped : (is : PlainItems) → GroupedItems is → GroupedItems (unplaced_items is)
  items_grouped no_items g = tt
  items_grouped (items i is) g = (item_grouped i g.0, items_grouped is g.1)

-- ---- kinds

abbrev token_of : Kind → Token
token_of k = record { kind = k; span = nowhere }

by_kinds : (ts : List Token) → unplaced_tokens ts ≡ map token_of (kinds ts)
by_kinds [] = refl
by_kinds (t ∷ ts) = ap (λ us. token_of t.kind ∷ us) (by_kinds ts)

pub one_tree_by_kinds : (p q : PlainItems) → GroupedItems p → GroupedItems q → kinds (flat_items p) ≡ kinds (flat_items q) → unplaced_items p ≡ unplaced_items q
one_tree_by_kinds p q g k e =
    let same : unplaced_tokens (flat_items p) ≡ unplaced_tokens (flat_items q) = by_kinds (flat_items p) ∙ ap (map token_of) e ∙ sym (by_kinds (flat_items q)) in
    same_tree (unplaced_items p) (unplaced_items q) (items_grouped p g) (items_grouped q k) (items_keep p ∙ same ∙ sym (items_keep q))
