-- What a tree is without its places: each place is set to one and the same, and all else stays.
use Rattle.std.specs.Prelude.{map, option_map}
use Rattle.lar_source.specs.declared.file.Span.{Span}
use Rattle.lar_tree.specs.declared.name.Name.{Name}
use Rattle.lar_tree.specs.declared.name.Path.{Path}
use Rattle.lar_tree.specs.declared.name.Segment.{Segment}
use Rattle.lar_tree.specs.declared.ty.SignedNumber.{SignedNumber}
use Rattle.lar_tree.specs.declared.expr.Selector.{Selector}
use Rattle.lar_tree.specs.declared.expr.Selector.TheVariants as selector
use Rattle.lar_tree.specs.declared.commas.Commas.{Commas}
use Rattle.lar_tree.specs.declared.commas.Member.{Member}
use Rattle.lar_tree.specs.declared.item.Angled.{Angled}
use Rattle.lar_tree.specs.declared.item.Attribute.{Attribute}
use Rattle.lar_tree.specs.declared.item.Const.{Const}
use Rattle.lar_tree.specs.declared.item.Generic.{Generic}
use Rattle.lar_tree.specs.declared.item.Generic.TheVariants as generic
use Rattle.lar_tree.specs.Types.{PlainTy, int_type, bool_type, unit_type, tuple_type, named_type, generic_type, MoreTypes, last_type, next_type, PlainArgs, angle_args, PlainArg, type_arg, number_arg, MoreArgs, last_arg, next_arg}
use Rattle.lar_tree.specs.Exprs.{PlainTurbofish, PlainExpr, number, truth, untruth, paren, new_struct, path, call, field, unary_of, binary_of, PlainParts, no_parts, parts, MoreParts, last_part, next_part, PlainInits, no_inits, inits, MoreInits, last_init, next_init}
use Rattle.lar_tree.specs.Stmts.{PlainLet, PlainAsked, PlainSetting, PlainStmt, let_stmt, if_stmt, while_stmt, return_stmt, print_stmt, assert_stmt, expr_stmt, PlainBlock, block, PlainStmts, no_stmts, stmts, PlainIf, fork, PlainElse, no_else, else_block, else_if}
use Rattle.lar_tree.specs.Items.{PlainField, PlainStruct, PlainOutput, PlainFn, PlainItem, module_item, struct_item, const_item, fn_item, PlainItems, no_items, items}

abbrev pub nowhere : Span
nowhere = record { file = 0; line = 0; col = 0 }

abbrev pub unplaced_name : Name → Name
unplaced_name n = record { text = n.text; span = nowhere }

abbrev pub unplaced_segment : Segment → Segment
unplaced_segment s = record { sep = nowhere; name = unplaced_name s.name }

abbrev pub unplaced_path : Path → Path
unplaced_path p = record { first = unplaced_name p.first; more = map unplaced_segment p.more }

abbrev pub unplaced_signed : SignedNumber → SignedNumber
unplaced_signed n = record { minus = option_map (λ (at : Span). nowhere) n.minus; value = n.value; span = nowhere }

abbrev mutual
  pub unplaced_type : PlainTy → PlainTy
  unplaced_type (int_type at) = int_type nowhere
  unplaced_type (bool_type at) = bool_type nowhere
  unplaced_type (unit_type from to) = unit_type nowhere nowhere
  unplaced_type (tuple_type from first comma second others to) = tuple_type nowhere (unplaced_type first) nowhere (unplaced_type second) (unplaced_types others) nowhere
  unplaced_type (named_type p) = named_type (unplaced_path p)
  unplaced_type (generic_type p args) = generic_type (unplaced_path p) (unplaced_args args)

  pub unplaced_types : MoreTypes → MoreTypes
  unplaced_types last_type = last_type
  unplaced_types (next_type comma t others) = next_type nowhere (unplaced_type t) (unplaced_types others)

  pub unplaced_args : PlainArgs → PlainArgs
  unplaced_args (angle_args from first others to) = angle_args nowhere (unplaced_arg first) (unplaced_more_args others) nowhere

  pub unplaced_arg : PlainArg → PlainArg
  unplaced_arg (type_arg t) = type_arg (unplaced_type t)
  unplaced_arg (number_arg n) = number_arg (unplaced_signed n)

  pub unplaced_more_args : MoreArgs → MoreArgs
  unplaced_more_args last_arg = last_arg
  unplaced_more_args (next_arg comma a others) = next_arg nowhere (unplaced_arg a) (unplaced_more_args others)

abbrev pub unplaced_turbofish : PlainTurbofish → PlainTurbofish
unplaced_turbofish t = (nowhere, unplaced_args t.1)

abbrev pub unplaced_selector : Selector → Selector
unplaced_selector (selector.Name n) = selector.Name (unplaced_name n)
unplaced_selector (selector.Number n at) = selector.Number n nowhere

abbrev mutual
  pub unplaced_expr : PlainExpr → PlainExpr
  unplaced_expr (number n at) = number n nowhere
  unplaced_expr (truth at) = truth nowhere
  unplaced_expr (untruth at) = untruth nowhere
  unplaced_expr (paren from ps to) = paren nowhere (unplaced_parts ps) nowhere
  unplaced_expr (new_struct at p generics from is to) = new_struct nowhere (unplaced_path p) (option_map unplaced_turbofish generics) nowhere (unplaced_inits is) nowhere
  unplaced_expr (path p) = path (unplaced_path p)
  unplaced_expr (call p generics from ps to) = call (unplaced_path p) (option_map unplaced_turbofish generics) nowhere (unplaced_parts ps) nowhere
  unplaced_expr (field inner dot s) = field (unplaced_expr inner) nowhere (unplaced_selector s)
  unplaced_expr (unary_of op at inner) = unary_of op nowhere (unplaced_expr inner)
  unplaced_expr (binary_of left op at right) = binary_of (unplaced_expr left) op nowhere (unplaced_expr right)

  pub unplaced_parts : PlainParts → PlainParts
  unplaced_parts no_parts = no_parts
  unplaced_parts (parts first others) = parts (unplaced_expr first) (unplaced_more_parts others)

  pub unplaced_more_parts : MoreParts → MoreParts
  unplaced_more_parts last_part = last_part
  unplaced_more_parts (next_part comma e others) = next_part nowhere (unplaced_expr e) (unplaced_more_parts others)

  pub unplaced_inits : PlainInits → PlainInits
  unplaced_inits no_inits = no_inits
  unplaced_inits (inits n colon e others) = inits (unplaced_name n) nowhere (unplaced_expr e) (unplaced_more_inits others)

  pub unplaced_more_inits : MoreInits → MoreInits
  unplaced_more_inits last_init = last_init
  unplaced_more_inits (next_init comma n colon e others) = next_init nowhere (unplaced_name n) nowhere (unplaced_expr e) (unplaced_more_inits others)

abbrev pub unplaced_let : PlainLet → PlainLet
unplaced_let l = record { keyword = nowhere; name = unplaced_name l.name; colon = nowhere; ty = unplaced_type l.ty; assign = nowhere; value = unplaced_expr l.value; semicolon = nowhere }

abbrev pub unplaced_asked : PlainAsked → PlainAsked
unplaced_asked a = record { keyword = nowhere; from = nowhere; value = unplaced_expr a.value; to = nowhere; semicolon = nowhere }

abbrev pub unplaced_setting : PlainSetting → PlainSetting
unplaced_setting s = (nowhere, unplaced_expr s.1)

abbrev mutual
  pub unplaced_stmt : PlainStmt → PlainStmt
  unplaced_stmt (let_stmt l) = let_stmt (unplaced_let l)
  unplaced_stmt (if_stmt f) = if_stmt (unplaced_if f)
  unplaced_stmt (while_stmt at test body) = while_stmt nowhere (unplaced_expr test) (unplaced_block body)
  unplaced_stmt (return_stmt at value end) = return_stmt nowhere (option_map unplaced_expr value) nowhere
  unplaced_stmt (print_stmt a) = print_stmt (unplaced_asked a)
  unplaced_stmt (assert_stmt a) = assert_stmt (unplaced_asked a)
  unplaced_stmt (expr_stmt e setting end) = expr_stmt (unplaced_expr e) (option_map unplaced_setting setting) nowhere

  pub unplaced_block : PlainBlock → PlainBlock
  unplaced_block (block from ss to) = block nowhere (unplaced_stmts ss) nowhere

  pub unplaced_stmts : PlainStmts → PlainStmts
  unplaced_stmts no_stmts = no_stmts
  unplaced_stmts (stmts s ss) = stmts (unplaced_stmt s) (unplaced_stmts ss)

  pub unplaced_if : PlainIf → PlainIf
  unplaced_if (fork at test body other) = fork nowhere (unplaced_expr test) (unplaced_block body) (unplaced_else other)

  pub unplaced_else : PlainElse → PlainElse
  unplaced_else no_else = no_else
  unplaced_else (else_block at body) = else_block nowhere (unplaced_block body)
  unplaced_else (else_if at f) = else_if nowhere (unplaced_if f)

abbrev pub unplaced_member : {A : Type 0} → (A → A) → Member A → Member A
unplaced_member f m = record { comma = nowhere; value = f m.value }

abbrev pub unplaced_commas : {A : Type 0} → (A → A) → Commas A → Commas A
unplaced_commas f c = record { first = f c.first; more = map (unplaced_member f) c.more }

abbrev pub unplaced_angled : {A : Type 0} → (A → A) → Angled A → Angled A
unplaced_angled f a = record { «open» = nowhere; list = unplaced_commas f a.list; close = nowhere }

abbrev pub unplaced_field : PlainField → PlainField
unplaced_field f = (unplaced_name f.0, nowhere, unplaced_type f.2)

abbrev pub unplaced_struct : PlainStruct → PlainStruct
unplaced_struct s = record { keyword = nowhere; name = unplaced_name s.name; generics = option_map (unplaced_angled unplaced_name) s.generics; from = nowhere; fields = option_map (unplaced_commas unplaced_field) s.fields; to = nowhere }

abbrev pub unplaced_const : Const → Const
unplaced_const c = record { keyword = nowhere; name = unplaced_name c.name; colon = nowhere; int = nowhere; assign = nowhere; value = unplaced_signed c.value; semicolon = nowhere }

abbrev pub unplaced_attribute : Attribute → Attribute
unplaced_attribute a = record { hash = nowhere; «open» = nowhere; word = a.word; span = nowhere; close = nowhere }

abbrev pub unplaced_generic : Generic → Generic
unplaced_generic (generic.Ty n) = generic.Ty (unplaced_name n)
unplaced_generic (generic.Const c) = generic.Const (record { keyword = nowhere; name = unplaced_name c.name; colon = nowhere; int = nowhere })

abbrev pub unplaced_output : PlainOutput → PlainOutput
unplaced_output o = (nowhere, unplaced_type o.1)

abbrev pub unplaced_fn : PlainFn → PlainFn
unplaced_fn f = record { attributes = map unplaced_attribute f.attributes; keyword = nowhere; name = unplaced_name f.name; generics = option_map (unplaced_angled unplaced_generic) f.generics; from = nowhere; params = option_map (unplaced_commas unplaced_field) f.params; to = nowhere; output = option_map unplaced_output f.output; body = unplaced_block f.body }

abbrev mutual
  pub unplaced_item : PlainItem → PlainItem
  unplaced_item (module_item at n from is to) = module_item nowhere (unplaced_name n) nowhere (unplaced_items is) nowhere
  unplaced_item (struct_item s) = struct_item (unplaced_struct s)
  unplaced_item (const_item c) = const_item (unplaced_const c)
  unplaced_item (fn_item f) = fn_item (unplaced_fn f)

  pub unplaced_items : PlainItems → PlainItems
  unplaced_items no_items = no_items
  unplaced_items (items i is) = items (unplaced_item i) (unplaced_items is)
