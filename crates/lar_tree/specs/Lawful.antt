-- What each tree keeps that the tokens of a program have: it is grouped as the grammar groups, each list is within its limit, an
-- outermost expression or type is not too long, and blocks and modules are not nested too deep.
use Rattle.std.specs.Prelude.{ℕ, ◌+◌, ◌-◌, ◌≤◌, List, [], ◌∷◌, length}
use Rattle.lar_tree.specs.declared.commas.Commas.{Commas}
use Rattle.lar_tree.specs.declared.item.Angled.{Angled}
use Rattle.lar_tree.specs.Limits.{max_tuple, max_args, max_fields, max_tokens, max_levels}
use Rattle.lar_tree.specs.PlainLists.{values, further_types, args_of, parts_in, inits_in}
use Rattle.lar_tree.specs.Types.{PlainTy, int_type, bool_type, unit_type, tuple_type, named_type, generic_type, MoreTypes, last_type, next_type, PlainArgs, angle_args, PlainArg, type_arg, number_arg, MoreArgs, last_arg, next_arg, flat_type}
use Rattle.lar_tree.specs.Exprs.{PlainTurbofish, PlainExpr, number, truth, untruth, paren, new_struct, path, call, field, unary_of, binary_of, PlainParts, no_parts, parts, MoreParts, last_part, next_part, PlainInits, no_inits, inits, MoreInits, last_init, next_init, flat_expr}
use Rattle.lar_tree.specs.Stmts.{PlainSetting, PlainStmt, let_stmt, if_stmt, while_stmt, return_stmt, print_stmt, assert_stmt, expr_stmt, PlainBlock, block, PlainStmts, no_stmts, stmts, PlainIf, fork, PlainElse, no_else, else_block, else_if, IfThere}
use Rattle.lar_tree.specs.Items.{PlainField, PlainStruct, PlainOutput, PlainFn, PlainItem, module_item, struct_item, const_item, fn_item, PlainItems, no_items, items, GroupedItems}

-- each list in it is within its limit
abbrev mutual
  pub LimitedType : PlainTy → Type 0
  LimitedType (int_type at) = Unit {0}
  LimitedType (bool_type at) = Unit {0}
  LimitedType (unit_type from to) = Unit {0}
  LimitedType (tuple_type from first comma second others to) = (2 + length (further_types others) ≤ max_tuple) × LimitedType first × LimitedType second × LimitedTypes others
  LimitedType (named_type p) = Unit {0}
  LimitedType (generic_type p args) = LimitedArgs args

  pub LimitedTypes : MoreTypes → Type 0
  LimitedTypes last_type = Unit {0}
  LimitedTypes (next_type comma t others) = LimitedType t × LimitedTypes others

  pub LimitedArgs : PlainArgs → Type 0
  LimitedArgs (angle_args from first others to) = (length (args_of (angle_args from first others to)) ≤ max_args) × LimitedArg first × LimitedMoreArgs others

  pub LimitedArg : PlainArg → Type 0
  LimitedArg (type_arg t) = LimitedType t
  LimitedArg (number_arg n) = Unit {0}

  pub LimitedMoreArgs : MoreArgs → Type 0
  LimitedMoreArgs last_arg = Unit {0}
  LimitedMoreArgs (next_arg comma a others) = LimitedArg a × LimitedMoreArgs others

abbrev pub LimitedTurbofish : PlainTurbofish → Type 0
LimitedTurbofish t = LimitedArgs t.1

abbrev mutual
  pub LimitedExpr : PlainExpr → Type 0
  LimitedExpr (number n at) = Unit {0}
  LimitedExpr (truth at) = Unit {0}
  LimitedExpr (untruth at) = Unit {0}
  LimitedExpr (paren from ps to) = (length (parts_in ps) ≤ max_tuple) × LimitedParts ps
  LimitedExpr (new_struct at p generics from is to) = (length (inits_in is) ≤ max_fields) × IfThere LimitedTurbofish generics × LimitedInits is
  LimitedExpr (path p) = Unit {0}
  LimitedExpr (call p generics from ps to) = (length (parts_in ps) ≤ max_args) × IfThere LimitedTurbofish generics × LimitedParts ps
  LimitedExpr (field inner dot s) = LimitedExpr inner
  LimitedExpr (unary_of op at inner) = LimitedExpr inner
  LimitedExpr (binary_of left op at right) = LimitedExpr left × LimitedExpr right

  pub LimitedParts : PlainParts → Type 0
  LimitedParts no_parts = Unit {0}
  LimitedParts (parts first others) = LimitedExpr first × LimitedMoreParts others

  pub LimitedMoreParts : MoreParts → Type 0
  LimitedMoreParts last_part = Unit {0}
  LimitedMoreParts (next_part comma e others) = LimitedExpr e × LimitedMoreParts others

  pub LimitedInits : PlainInits → Type 0
  LimitedInits no_inits = Unit {0}
  LimitedInits (inits n colon e others) = LimitedExpr e × LimitedMoreInits others

  pub LimitedMoreInits : MoreInits → Type 0
  LimitedMoreInits last_init = Unit {0}
  LimitedMoreInits (next_init comma n colon e others) = LimitedExpr e × LimitedMoreInits others

-- a type that stands in no other type and in no expression
abbrev pub OuterType : PlainTy → Type 0
OuterType t = (length (flat_type t) ≤ max_tokens) × LimitedType t

-- an expression that stands in no other
abbrev pub OuterExpr : PlainExpr → Type 0
OuterExpr e = (length (flat_expr e) ≤ max_tokens) × LimitedExpr e

abbrev pub OuterSetting : PlainSetting → Type 0
OuterSetting a = OuterExpr a.1

-- where n levels may still be opened
abbrev mutual
  pub LimitedStmt : ℕ → PlainStmt → Type 0
  LimitedStmt n (let_stmt l) = OuterType l.ty × OuterExpr l.value
  LimitedStmt n (if_stmt f) = LimitedIf n f
  LimitedStmt n (while_stmt at test body) = OuterExpr test × LimitedBlock n body
  LimitedStmt n (return_stmt at value end) = IfThere OuterExpr value
  LimitedStmt n (print_stmt a) = OuterExpr a.value
  LimitedStmt n (assert_stmt a) = OuterExpr a.value
  LimitedStmt n (expr_stmt e assigned end) = OuterExpr e × IfThere OuterSetting assigned

  pub LimitedBlock : ℕ → PlainBlock → Type 0
  LimitedBlock n (block from ss to) = (1 ≤ n) × LimitedStmts (n - 1) ss

  pub LimitedStmts : ℕ → PlainStmts → Type 0
  LimitedStmts n no_stmts = Unit {0}
  LimitedStmts n (stmts s ss) = LimitedStmt n s × LimitedStmts n ss

  pub LimitedIf : ℕ → PlainIf → Type 0
  LimitedIf n (fork at test body other) = OuterExpr test × LimitedBlock n body × LimitedElse n other

  pub LimitedElse : ℕ → PlainElse → Type 0
  LimitedElse n no_else = Unit {0}
  LimitedElse n (else_block at body) = LimitedBlock n body
  LimitedElse n (else_if at f) = (1 ≤ n) × LimitedIf (n - 1) f

-- this holds of each
abbrev pub Every : {A : Type 0} → (A → Type 0) → List A → Type 0
Every P [] = Unit {0}
Every P (x ∷ xs) = P x × Every P xs

-- at most so many members, and this holds of each
abbrev pub AtMost : {A : Type 0} → ℕ → (A → Type 0) → Commas A → Type 0
AtMost n P c = (length (values c) ≤ n) × Every P (values c)

-- at most so many generics
abbrev pub LimitedAngled : {A : Type 0} → Angled A → Type 0
LimitedAngled a = length (values a.list) ≤ max_args

abbrev pub LimitedField : PlainField → Type 0
LimitedField f = OuterType f.2

abbrev pub LimitedOutput : PlainOutput → Type 0
LimitedOutput o = OuterType o.1

abbrev pub LimitedStruct : PlainStruct → Type 0
LimitedStruct s = IfThere LimitedAngled s.generics × IfThere (AtMost max_fields LimitedField) s.fields

abbrev pub LimitedFn : ℕ → PlainFn → Type 0
LimitedFn n f = IfThere LimitedAngled f.generics × IfThere (AtMost max_args LimitedField) f.params × IfThere LimitedOutput f.output × LimitedBlock n f.body

abbrev mutual
  pub LimitedItem : ℕ → PlainItem → Type 0
  LimitedItem n (module_item at name from is to) = (1 ≤ n) × LimitedItems (n - 1) is
  LimitedItem n (struct_item s) = LimitedStruct s
  LimitedItem n (const_item c) = Unit {0}
  LimitedItem n (fn_item f) = LimitedFn n f

  pub LimitedItems : ℕ → PlainItems → Type 0
  LimitedItems n no_items = Unit {0}
  LimitedItems n (items i is) = LimitedItem n i × LimitedItems n is

-- a tree of the grammar that keeps all its limits
pub record Lawful (p : PlainItems) : Type 0 where
  pub grouped : GroupedItems p
  pub limited : LimitedItems max_levels p
