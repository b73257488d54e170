-- The tokens of a tree, and which of them pass a count:
--
--   * the 513th token, and each later one, of an expression that stands in no other expression, and of a type that stands in no
--     other type and in no expression;
--   * the first token of each member past a list's limit: 8 parts of a tuple, 16 parameters, arguments or generics, 64 fields or inits;
--   * the `{` that opens the 65th level of blocks and modules, or the `if` of that level where it is an `if` after `else`.
use Rattle.std.specs.Prelude.{ℕ, zero, suc, ◌-◌, Bool, true, false, List, [], ◌∷◌, ◌++◌, map, Option, Some, None}
use Rattle.lar_tree.specs.declared.keyword.Keyword.{Keyword}
use Rattle.lar_tree.specs.declared.keyword.Keyword.TheVariants as keyword
use Rattle.lar_tree.specs.declared.sign.Sign.TheVariants as sign
use Rattle.lar_tree.specs.declared.token.Token.{Token}
use Rattle.lar_tree.specs.declared.name.Name.{Name}
use Rattle.lar_tree.specs.declared.commas.Commas.{Commas}
use Rattle.lar_tree.specs.declared.commas.Member.{Member}
use Rattle.lar_tree.specs.declared.item.Angled.{Angled}
use Rattle.lar_tree.specs.declared.item.Generic.{Generic}
use Rattle.lar_tree.specs.Spelling.{sign_token, word_token, number_token, name_token, flat_path, flat_signed}
use Rattle.lar_tree.specs.Types.{PlainTy, int_type, bool_type, unit_type, tuple_type, named_type, generic_type, MoreTypes, last_type, next_type, PlainArgs, angle_args, PlainArg, type_arg, number_arg, MoreArgs, last_arg, next_arg}
use Rattle.lar_tree.specs.Exprs.{PlainTurbofish, PlainExpr, number, truth, untruth, paren, new_struct, path, call, field, unary_of, binary_of, PlainParts, no_parts, parts, MoreParts, last_part, next_part, PlainInits, no_inits, inits, MoreInits, last_init, next_init, unary_sign, binary_sign, selector_token}
use Rattle.lar_tree.specs.Stmts.{PlainLet, PlainAsked, PlainSetting, PlainStmt, let_stmt, if_stmt, while_stmt, return_stmt, print_stmt, assert_stmt, expr_stmt, PlainBlock, block, PlainStmts, no_stmts, stmts, PlainIf, fork, PlainElse, no_else, else_block, else_if}
use Rattle.lar_tree.specs.Items.{PlainField, PlainStruct, PlainOutput, PlainFn, PlainItem, module_item, struct_item, const_item, fn_item, PlainItems, no_items, items, flat_attributes, flat_name, flat_generic, flat_const}

-- a token, and whether it passes a count
abbrev pub Marked : Type 0
Marked = Token × Bool

abbrev pub un : Token → Marked
un t = (t, false)

abbrev pub unmarked : List Token → List Marked
unmarked = map un

abbrev pub tokens_of : List Marked → List Token
tokens_of = map (λ m. m.0)

-- where no further member or level may come, its first token is marked
abbrev pub over : ℕ → List Marked → List Marked
over zero [] = []
over zero (m ∷ ms) = (m.0, true) ∷ ms
over (suc n) ms = ms

-- the tokens past n are marked
abbrev pub cut : ℕ → List Marked → List Marked
cut n [] = []
cut zero (m ∷ ms) = (m.0, true) ∷ cut zero ms
cut (suc n) (m ∷ ms) = m ∷ cut n ms

abbrev pub marked_option : {A : Type 0} → (A → List Marked) → Option A → List Marked
marked_option mark None = []
marked_option mark (Some x) = mark x

-- at most n members more
abbrev pub marked_members : {A : Type 0} → (A → List Marked) → ℕ → List (Member A) → List Marked
marked_members mark n [] = []
marked_members mark n (m ∷ ms) = un (sign_token sign.Comma m.comma) ∷ (over n (mark m.value) ++ marked_members mark (n - 1) ms)

-- one member, and at most n more
abbrev pub marked_commas : {A : Type 0} → (A → List Marked) → ℕ → Commas A → List Marked
marked_commas mark n c = mark c.first ++ marked_members mark n c.more

abbrev mutual
  pub marked_type : PlainTy → List Marked
  marked_type (int_type at) = un (word_token keyword.I64 at) ∷ []
  marked_type (bool_type at) = un (word_token keyword.Bool at) ∷ []
  marked_type (unit_type from to) = un (sign_token sign.OpenParen from) ∷ un (sign_token sign.CloseParen to) ∷ []
  marked_type (tuple_type from first comma second others to) = un (sign_token sign.OpenParen from) ∷ (marked_type first ++ un (sign_token sign.Comma comma) ∷ (marked_type second ++ (marked_types 6 others ++ un (sign_token sign.CloseParen to) ∷ [])))
  marked_type (named_type p) = unmarked (flat_path p)
  marked_type (generic_type p args) = unmarked (flat_path p) ++ marked_args args

  pub marked_types : ℕ → MoreTypes → List Marked
  marked_types n last_type = []
  marked_types n (next_type comma t others) = un (sign_token sign.Comma comma) ∷ (over n (marked_type t) ++ marked_types (n - 1) others)

  pub marked_args : PlainArgs → List Marked
  marked_args (angle_args from first others to) = un (sign_token sign.Less from) ∷ (marked_arg first ++ (marked_more_args 15 others ++ un (sign_token sign.Greater to) ∷ []))

  pub marked_arg : PlainArg → List Marked
  marked_arg (type_arg t) = marked_type t
  marked_arg (number_arg n) = unmarked (flat_signed n)

  pub marked_more_args : ℕ → MoreArgs → List Marked
  marked_more_args n last_arg = []
  marked_more_args n (next_arg comma a others) = un (sign_token sign.Comma comma) ∷ (over n (marked_arg a) ++ marked_more_args (n - 1) others)

-- a type that stands in no other type and in no expression
abbrev pub outermost_type : PlainTy → List Marked
outermost_type t = cut 512 (marked_type t)

abbrev pub marked_turbofish : PlainTurbofish → List Marked
marked_turbofish t = un (sign_token sign.PathSep t.0) ∷ marked_args t.1

abbrev mutual
  pub marked_expr : PlainExpr → List Marked
  marked_expr (number n at) = un (number_token n at) ∷ []
  marked_expr (truth at) = un (word_token keyword.True at) ∷ []
  marked_expr (untruth at) = un (word_token keyword.False at) ∷ []
  marked_expr (paren from ps to) = un (sign_token sign.OpenParen from) ∷ (marked_parts 7 ps ++ un (sign_token sign.CloseParen to) ∷ [])
  marked_expr (new_struct at p generics from is to) = un (word_token keyword.New at) ∷ (unmarked (flat_path p) ++ (marked_option marked_turbofish generics ++ un (sign_token sign.OpenBrace from) ∷ (marked_inits is ++ un (sign_token sign.CloseBrace to) ∷ [])))
  marked_expr (path p) = unmarked (flat_path p)
  marked_expr (call p generics from ps to) = unmarked (flat_path p) ++ (marked_option marked_turbofish generics ++ un (sign_token sign.OpenParen from) ∷ (marked_parts 15 ps ++ un (sign_token sign.CloseParen to) ∷ []))
  marked_expr (field inner dot s) = marked_expr inner ++ un (sign_token sign.Dot dot) ∷ un (selector_token s) ∷ []
  marked_expr (unary_of op at inner) = un (sign_token (unary_sign op) at) ∷ marked_expr inner
  marked_expr (binary_of left op at right) = marked_expr left ++ un (sign_token (binary_sign op) at) ∷ marked_expr right

  -- one part, and at most n more
  pub marked_parts : ℕ → PlainParts → List Marked
  marked_parts n no_parts = []
  marked_parts n (parts first others) = marked_expr first ++ marked_more_parts n others

  pub marked_more_parts : ℕ → MoreParts → List Marked
  marked_more_parts n last_part = []
  marked_more_parts n (next_part comma e others) = un (sign_token sign.Comma comma) ∷ (over n (marked_expr e) ++ marked_more_parts (n - 1) others)

  pub marked_inits : PlainInits → List Marked
  marked_inits no_inits = []
  marked_inits (inits n colon e others) = un (name_token n) ∷ un (sign_token sign.Colon colon) ∷ (marked_expr e ++ marked_more_inits 63 others)

  pub marked_more_inits : ℕ → MoreInits → List Marked
  marked_more_inits k last_init = []
  marked_more_inits k (next_init comma n colon e others) = un (sign_token sign.Comma comma) ∷ (over k (un (name_token n) ∷ un (sign_token sign.Colon colon) ∷ marked_expr e) ++ marked_more_inits (k - 1) others)

-- an expression that stands in no other
abbrev pub outermost : PlainExpr → List Marked
outermost e = cut 512 (marked_expr e)

abbrev pub marked_let : PlainLet → List Marked
marked_let l = un (word_token keyword.Let l.keyword) ∷ un (name_token l.name) ∷ un (sign_token sign.Colon l.colon) ∷ (outermost_type l.ty ++ un (sign_token sign.Assign l.assign) ∷ (outermost l.value ++ un (sign_token sign.Semicolon l.semicolon) ∷ []))

abbrev pub marked_asked : Keyword → PlainAsked → List Marked
marked_asked word a = un (word_token word a.keyword) ∷ un (sign_token sign.OpenParen a.from) ∷ (outermost a.value ++ un (sign_token sign.CloseParen a.to) ∷ un (sign_token sign.Semicolon a.semicolon) ∷ [])

abbrev pub marked_setting : PlainSetting → List Marked
marked_setting s = un (sign_token sign.Assign s.0) ∷ outermost s.1

-- with n levels left
abbrev mutual
  pub marked_stmt : ℕ → PlainStmt → List Marked
  marked_stmt n (let_stmt l) = marked_let l
  marked_stmt n (if_stmt f) = marked_if n f
  marked_stmt n (while_stmt at test body) = un (word_token keyword.While at) ∷ (outermost test ++ marked_block n body)
  marked_stmt n (return_stmt at value end) = un (word_token keyword.Return at) ∷ (marked_option outermost value ++ un (sign_token sign.Semicolon end) ∷ [])
  marked_stmt n (print_stmt a) = marked_asked keyword.Print a
  marked_stmt n (assert_stmt a) = marked_asked keyword.StaticAssert a
  marked_stmt n (expr_stmt e setting end) = outermost e ++ (marked_option marked_setting setting ++ un (sign_token sign.Semicolon end) ∷ [])

  pub marked_block : ℕ → PlainBlock → List Marked
  marked_block n (block from ss to) = over n (un (sign_token sign.OpenBrace from) ∷ []) ++ (marked_stmts (n - 1) ss ++ un (sign_token sign.CloseBrace to) ∷ [])

  pub marked_stmts : ℕ → PlainStmts → List Marked
  marked_stmts n no_stmts = []
  marked_stmts n (stmts s ss) = marked_stmt n s ++ marked_stmts n ss

  pub marked_if : ℕ → PlainIf → List Marked
  marked_if n (fork at test body other) = un (word_token keyword.If at) ∷ (outermost test ++ (marked_block n body ++ marked_else n other))

  pub marked_else : ℕ → PlainElse → List Marked
  marked_else n no_else = []
  marked_else n (else_block at body) = un (word_token keyword.Else at) ∷ marked_block n body
  marked_else n (else_if at f) = un (word_token keyword.Else at) ∷ over n (marked_if (n - 1) f)

abbrev pub marked_name : Name → List Marked
marked_name n = unmarked (flat_name n)

abbrev pub marked_generic : Generic → List Marked
marked_generic g = unmarked (flat_generic g)

-- one member, and at most n more
abbrev pub marked_angled : {A : Type 0} → (A → List Marked) → ℕ → Angled A → List Marked
marked_angled mark n a = un (sign_token sign.Less a.open) ∷ (marked_commas mark n a.list ++ un (sign_token sign.Greater a.close) ∷ [])

abbrev pub marked_field : PlainField → List Marked
marked_field f = un (name_token f.0) ∷ un (sign_token sign.Colon f.1) ∷ outermost_type f.2

abbrev pub marked_output : PlainOutput → List Marked
marked_output o = un (sign_token sign.Arrow o.0) ∷ outermost_type o.1

abbrev pub marked_struct : PlainStruct → List Marked
marked_struct s = un (word_token keyword.Struct s.keyword) ∷ un (name_token s.name) ∷ (marked_option (marked_angled marked_name 15) s.generics ++ un (sign_token sign.OpenBrace s.from) ∷ (marked_option (marked_commas marked_field 63) s.fields ++ un (sign_token sign.CloseBrace s.to) ∷ []))

abbrev pub marked_head : PlainFn → List Marked
marked_head f = unmarked (flat_attributes f.attributes) ++ un (word_token keyword.Fn f.keyword) ∷ un (name_token f.name) ∷ (marked_option (marked_angled marked_generic 15) f.generics ++ un (sign_token sign.OpenParen f.from) ∷ (marked_option (marked_commas marked_field 15) f.params ++ un (sign_token sign.CloseParen f.to) ∷ marked_option marked_output f.output))

-- with n levels left
abbrev mutual
  pub marked_item : ℕ → PlainItem → List Marked
  marked_item n (module_item at name from is to) = un (word_token keyword.Mod at) ∷ un (name_token name) ∷ (over n (un (sign_token sign.OpenBrace from) ∷ []) ++ (marked_items (n - 1) is ++ un (sign_token sign.CloseBrace to) ∷ []))
  marked_item n (struct_item s) = marked_struct s
  marked_item n (const_item c) = unmarked (flat_const c)
  marked_item n (fn_item f) = marked_head f ++ marked_block n f.body

  pub marked_items : ℕ → PlainItems → List Marked
  marked_items n no_items = []
  marked_items n (items i is) = marked_item n i ++ marked_items n is

-- a program has 64 levels
abbrev pub marked_program : PlainItems → List Marked
marked_program = marked_items 64
