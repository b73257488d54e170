-- The marked tokens of a tree are its tokens.
use Rattle.std.proofs.Common.{◌≡◌, ℕ, zero, suc, ◌-◌, List, [], ◌∷◌, ◌++◌, Option, Some, None, refl, sym, ap, ◌∙◌}
use Rattle.std.proofs.lemmas.List.{map-append}
use Rattle.lar_tree.specs.declared.keyword.Keyword.{Keyword}
use Rattle.lar_tree.specs.declared.token.Token.{Token}
use Rattle.lar_tree.specs.declared.commas.Commas.{Commas}
use Rattle.lar_tree.specs.declared.commas.Member.{Member}
use Rattle.lar_tree.specs.declared.item.Angled.{Angled}
use Rattle.lar_tree.specs.declared.keyword.Keyword.TheVariants as keyword
use Rattle.lar_tree.specs.declared.sign.Sign.TheVariants as sign
use Rattle.lar_tree.specs.Spelling.{sign_token, word_token, flat_path, flat_signed, flat_option}
use Rattle.lar_tree.specs.Commas.{flat_members, flat_commas}
use Rattle.lar_tree.specs.Types.{PlainTy, int_type, bool_type, unit_type, tuple_type, named_type, generic_type, MoreTypes, last_type, next_type, PlainArgs, angle_args, PlainArg, type_arg, number_arg, MoreArgs, last_arg, next_arg, flat_type, flat_types, flat_args, flat_arg, flat_more_args}
use Rattle.lar_tree.specs.Exprs.{PlainTurbofish, PlainExpr, number, truth, untruth, paren, new_struct, path, call, field, unary_of, binary_of, PlainParts, no_parts, parts, MoreParts, last_part, next_part, PlainInits, no_inits, inits, MoreInits, last_init, next_init, flat_turbofish, flat_expr, flat_parts, flat_more_parts, flat_inits, flat_more_inits}
use Rattle.lar_tree.specs.Stmts.{PlainLet, PlainAsked, PlainSetting, PlainStmt, let_stmt, if_stmt, while_stmt, return_stmt, print_stmt, assert_stmt, expr_stmt, PlainBlock, block, PlainStmts, no_stmts, stmts, PlainIf, fork, PlainElse, no_else, else_block, else_if, flat_let, flat_asked, flat_setting, flat_stmt, flat_block, flat_stmts, flat_if, flat_else}
use Rattle.lar_tree.specs.Items.{PlainField, PlainStruct, PlainOutput, PlainFn, PlainItem, module_item, struct_item, const_item, fn_item, PlainItems, no_items, items, flat_attributes, flat_name, flat_generic, flat_angled, flat_field, flat_output, flat_struct, flat_const, flat_head, flat_item, flat_items}
use Rattle.lar_tree.specs.Marks.{Marked, un, unmarked, tokens_of, over, cut, marked_option, marked_members, marked_commas, marked_type, marked_types, marked_args, marked_arg, marked_more_args, outermost_type, marked_turbofish, marked_expr, marked_parts, marked_more_parts, marked_inits, marked_more_inits, outermost, marked_let, marked_asked, marked_setting, marked_stmt, marked_block, marked_stmts, marked_if, marked_else, marked_name, marked_generic, marked_angled, marked_field, marked_output, marked_struct, marked_head, marked_item, marked_items}
use Rattle.lar_tree.specs.Programs.{Spells}

pub tokens-append : (xs ys : List Marked) → tokens_of (xs ++ ys) ≡ tokens_of xs ++ tokens_of ys
tokens-append xs ys = map-append (λ (m : Marked). m.0) xs ys

pub tokens-unmarked : (ts : List Token) → tokens_of (unmarked ts) ≡ ts
tokens-unmarked [] = refl
tokens-unmarked (t ∷ ts) = ap (λ us. t ∷ us) (tokens-unmarked ts)

-- what has no marks, before the rest
tokens-after : (front : List Token) (ms : List Marked) (ts : List Token) → tokens_of ms ≡ ts → tokens_of (unmarked front ++ ms) ≡ front ++ ts
tokens-after front ms ts e = tokens-append (unmarked front) ms ∙ ap (λ us. us ++ tokens_of ms) (tokens-unmarked front) ∙ ap (λ us. front ++ us) e

pub tokens-over : (n : ℕ) (ms : List Marked) → tokens_of (over n ms) ≡ tokens_of ms
tokens-over zero [] = refl
tokens-over zero (m ∷ ms) = refl
tokens-over (suc n) ms = refl

pub tokens-cut : (n : ℕ) (ms : List Marked) → tokens_of (cut n ms) ≡ tokens_of ms
tokens-cut zero [] = refl
tokens-cut (suc n) [] = refl
tokens-cut zero (m ∷ ms) = ap (λ ts. m.0 ∷ ts) (tokens-cut zero ms)
tokens-cut (suc n) (m ∷ ms) = ap (λ ts. m.0 ∷ ts) (tokens-cut n ms)

-- a way to mark that keeps the tokens
abbrev Keeps : {A : Type 0} → (A → List Marked) → (A → List Token) → Type 0
Keeps {A} mark flat = (x : A) → tokens_of (mark x) ≡ flat x

tokens-option : {A : Type 0} (mark : A → List Marked) (flat : A → List Token) → Keeps mark flat → (o : Option A) → tokens_of (marked_option mark o) ≡ flat_option flat o
tokens-option mark flat keeps None = refl
tokens-option mark flat keeps (Some x) = keeps x

tokens-members : {A : Type 0} (mark : A → List Marked) (flat : A → List Token) → Keeps mark flat → (n : ℕ) (ms : List (Member A)) → tokens_of (marked_members mark n ms) ≡ flat_members flat ms
tokens-members mark flat keeps n [] = refl
tokens-members mark flat keeps n (m ∷ ms) = simp (tokens-append, tokens-over, keeps m.value, tokens-members mark flat keeps (n - 1) ms)

tokens-commas : {A : Type 0} (mark : A → List Marked) (flat : A → List Token) → Keeps mark flat → (n : ℕ) (c : Commas A) → tokens_of (marked_commas mark n c) ≡ flat_commas flat c
tokens-commas mark flat keeps n c = simp (tokens-append, keeps c.first, tokens-members mark flat keeps n c.more)

mutual
  pub tokens-type : (t : PlainTy) → tokens_of (marked_type t) ≡ flat_type t
  tokens-type (int_type at) = refl
  tokens-type (bool_type at) = refl
  tokens-type (unit_type from to) = refl
  tokens-type (tuple_type from first comma second others to) = simp (tokens-append, tokens-type first, tokens-type second, tokens-types 6 others)
  tokens-type (named_type p) = tokens-unmarked (flat_path p)
  tokens-type (generic_type p args) = tokens-after (flat_path p) (marked_args args) (flat_args args) (tokens-args args)

  tokens-types : (n : ℕ) (ts : MoreTypes) → tokens_of (marked_types n ts) ≡ flat_types ts
  tokens-types n last_type = refl
  tokens-types n (next_type comma t others) = simp (tokens-append, tokens-over, tokens-type t, tokens-types (n - 1) others)

  tokens-args : (a : PlainArgs) → tokens_of (marked_args a) ≡ flat_args a
  tokens-args (angle_args from first others to) = simp (tokens-append, tokens-arg first, tokens-more_args 15 others)

  tokens-arg : (a : PlainArg) → tokens_of (marked_arg a) ≡ flat_arg a
  tokens-arg (type_arg t) = tokens-type t
  tokens-arg (number_arg n) = tokens-unmarked (flat_signed n)

  tokens-more_args : (n : ℕ) (ms : MoreArgs) → tokens_of (marked_more_args n ms) ≡ flat_more_args ms
  tokens-more_args n last_arg = refl
  tokens-more_args n (next_arg comma a others) = simp (tokens-append, tokens-over, tokens-arg a, tokens-more_args (n - 1) others)

tokens-outermost_type : (t : PlainTy) → tokens_of (outermost_type t) ≡ flat_type t
tokens-outermost_type t = tokens-cut 512 (marked_type t) ∙ tokens-type t

tokens-turbofish : (o : Option PlainTurbofish) → tokens_of (marked_option marked_turbofish o) ≡ flat_option flat_turbofish o
tokens-turbofish None = refl
tokens-turbofish (Some t) = simp (tokens-args t.1)

mutual
  pub tokens-expr : (e : PlainExpr) → tokens_of (marked_expr e) ≡ flat_expr e
  tokens-expr (number n at) = refl
  tokens-expr (truth at) = refl
  tokens-expr (untruth at) = refl
  tokens-expr (paren from ps to) = simp (tokens-append, tokens-parts 7 ps)
  tokens-expr (new_struct at p generics from is to) =
      let ms = marked_option marked_turbofish generics ++ un (sign_token sign.OpenBrace from) ∷ (marked_inits is ++ un (sign_token sign.CloseBrace to) ∷ []) in
      let ts = flat_option flat_turbofish generics ++ sign_token sign.OpenBrace from ∷ (flat_inits is ++ sign_token sign.CloseBrace to ∷ []) in
      let rest : tokens_of ms ≡ ts = simp (tokens-append, tokens-turbofish generics, tokens-inits is) in
      ap (λ us. word_token keyword.New at ∷ us) (tokens-after (flat_path p) ms ts rest)
  tokens-expr (path p) = tokens-unmarked (flat_path p)
  tokens-expr (call p generics from ps to) =
      let ms = marked_option marked_turbofish generics ++ un (sign_token sign.OpenParen from) ∷ (marked_parts 15 ps ++ un (sign_token sign.CloseParen to) ∷ []) in
      let ts = flat_option flat_turbofish generics ++ sign_token sign.OpenParen from ∷ (flat_parts ps ++ sign_token sign.CloseParen to ∷ []) in
      let rest : tokens_of ms ≡ ts = simp (tokens-append, tokens-turbofish generics, tokens-parts 15 ps) in
      tokens-after (flat_path p) ms ts rest
  tokens-expr (field inner dot s) = simp (tokens-append, tokens-expr inner)
  tokens-expr (unary_of op at inner) = simp (tokens-expr inner)
  tokens-expr (binary_of left op at right) = simp (tokens-append, tokens-expr left, tokens-expr right)

  tokens-parts : (n : ℕ) (ps : PlainParts) → tokens_of (marked_parts n ps) ≡ flat_parts ps
  tokens-parts n no_parts = refl
  tokens-parts n (parts first others) = simp (tokens-append, tokens-expr first, tokens-more_parts n others)

  tokens-more_parts : (n : ℕ) (ps : MoreParts) → tokens_of (marked_more_parts n ps) ≡ flat_more_parts ps
  tokens-more_parts n last_part = refl
  tokens-more_parts n (next_part comma e others) = simp (tokens-append, tokens-over, tokens-expr e, tokens-more_parts (n - 1) others)

  tokens-inits : (is : PlainInits) → tokens_of (marked_inits is) ≡ flat_inits is
  tokens-inits no_inits = refl
  tokens-inits (inits n colon e others) = simp (tokens-append, tokens-expr e, tokens-more_inits 63 others)

  tokens-more_inits : (k : ℕ) (is : MoreInits) → tokens_of (marked_more_inits k is) ≡ flat_more_inits is
  tokens-more_inits k last_init = refl
  tokens-more_inits k (next_init comma n colon e others) = simp (tokens-append, tokens-over, tokens-expr e, tokens-more_inits (k - 1) others)

tokens-outermost : (e : PlainExpr) → tokens_of (outermost e) ≡ flat_expr e
tokens-outermost e = tokens-cut 512 (marked_expr e) ∙ tokens-expr e

tokens-let : (l : PlainLet) → tokens_of (marked_let l) ≡ flat_let l
tokens-let l = simp (tokens-append, tokens-outermost_type l.ty, tokens-outermost l.value)

tokens-asked : (word : Keyword) (a : PlainAsked) → tokens_of (marked_asked word a) ≡ flat_asked word a
tokens-asked word a = simp (tokens-append, tokens-outermost a.value)

tokens-setting : (s : PlainSetting) → tokens_of (marked_setting s) ≡ flat_setting s
tokens-setting s = simp (tokens-outermost s.1)

mutual
  tokens-stmt : (n : ℕ) (s : PlainStmt) → tokens_of (marked_stmt n s) ≡ flat_stmt s
  tokens-stmt n (let_stmt l) = tokens-let l
  tokens-stmt n (if_stmt f) = tokens-if n f
  tokens-stmt n (while_stmt at test body) = simp (tokens-append, tokens-outermost test, tokens-block n body)
  tokens-stmt n (return_stmt at value end) = simp (tokens-append, tokens-option outermost flat_expr tokens-outermost value)
  tokens-stmt n (print_stmt a) = tokens-asked _ a
  tokens-stmt n (assert_stmt a) = tokens-asked _ a
  tokens-stmt n (expr_stmt e setting end) = simp (tokens-append, tokens-outermost e, tokens-option marked_setting flat_setting tokens-setting setting)

  tokens-block : (n : ℕ) (b : PlainBlock) → tokens_of (marked_block n b) ≡ flat_block b
  tokens-block n (block from ss to) = simp (tokens-append, tokens-over, tokens-stmts (n - 1) ss)

  tokens-stmts : (n : ℕ) (ss : PlainStmts) → tokens_of (marked_stmts n ss) ≡ flat_stmts ss
  tokens-stmts n no_stmts = refl
  tokens-stmts n (stmts s ss) = simp (tokens-append, tokens-stmt n s, tokens-stmts n ss)

  tokens-if : (n : ℕ) (f : PlainIf) → tokens_of (marked_if n f) ≡ flat_if f
  tokens-if n (fork at test body other) = simp (tokens-append, tokens-outermost test, tokens-block n body, tokens-else n other)

  tokens-else : (n : ℕ) (e : PlainElse) → tokens_of (marked_else n e) ≡ flat_else e
  tokens-else n no_else = refl
  tokens-else n (else_block at body) = simp (tokens-block n body)
  tokens-else n (else_if at f) = simp (tokens-over, tokens-if (n - 1) f)

tokens-field : (f : PlainField) → tokens_of (marked_field f) ≡ flat_field f
tokens-field f = simp (tokens-outermost_type f.2)

tokens-output : (o : PlainOutput) → tokens_of (marked_output o) ≡ flat_output o
tokens-output o = simp (tokens-outermost_type o.1)

tokens-angled : {A : Type 0} (mark : A → List Marked) (flat : A → List Token) → Keeps mark flat → (n : ℕ) (a : Angled A) → tokens_of (marked_angled mark n a) ≡ flat_angled flat a
tokens-angled mark flat keeps n a = simp (tokens-append, keeps a.list.first, tokens-members mark flat keeps n a.list.more)

tokens-struct : (s : PlainStruct) → tokens_of (marked_struct s) ≡ flat_struct s
tokens-struct s = simp (
  tokens-append,
  tokens-option (marked_angled marked_name 15) (flat_angled flat_name) (tokens-angled marked_name flat_name (λ n. refl) 15) s.generics,
  tokens-option (marked_commas marked_field 63) (flat_commas flat_field) (tokens-commas marked_field flat_field tokens-field 63) s.fields,
)

tokens-head : (f : PlainFn) → tokens_of (marked_head f) ≡ flat_head f
tokens-head f = simp (
  tokens-append,
  tokens-unmarked (flat_attributes f.attributes),
  tokens-option (marked_angled marked_generic 15) (flat_angled flat_generic) (tokens-angled marked_generic flat_generic (λ g. tokens-unmarked (flat_generic g)) 15) f.generics,
  tokens-option (marked_commas marked_field 15) (flat_commas flat_field) (tokens-commas marked_field flat_field tokens-field 15) f.params,
  tokens-option marked_output flat_output tokens-output f.output,
)

mutual
  tokens-item : (n : ℕ) (i : PlainItem) → tokens_of (marked_item n i) ≡ flat_item i
  tokens-item n (module_item at name from is to) = simp (tokens-append, tokens-over, tokens-items (n - 1) is)
  tokens-item n (struct_item s) = tokens-struct s
  tokens-item n (const_item c) = tokens-unmarked (flat_const c)
  tokens-item n (fn_item f) =
      let body = marked_block n f.body in
      tokens-append (marked_head f) body ∙ ap (λ ts. ts ++ tokens_of body) (tokens-head f) ∙ ap (λ ts. flat_head f ++ ts) (tokens-block n f.body)

  pub tokens-items : (n : ℕ) (is : PlainItems) → tokens_of (marked_items n is) ≡ flat_items is
  tokens-items n no_items = refl
  tokens-items n (items i is) = simp (tokens-append, tokens-item n i, tokens-items n is)

-- what a tree spells are its tokens
pub spelled : (p : PlainItems) (ts : List Token) → Spells p ts → flat_items p ≡ ts
spelled p ts s = sym (tokens-items 64 p) ∙ ap tokens_of s.1 ∙ tokens-unmarked ts
