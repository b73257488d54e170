-- A tree none of whose tokens is marked keeps each limit.
use Rattle.std.proofs.Common.{◌≡◌, ℕ, zero, suc, ◌+◌, ◌-◌, ◌≤◌, false, List, [], ◌∷◌, ◌++◌, length, map, Option, Some, None, subst, refl, sym, ap, ◌∙◌, arith}
use Rattle.std.proofs.lemmas.List.{length-map}
use Rattle.lar_tree.specs.declared.commas.Commas.{Commas}
use Rattle.lar_tree.specs.declared.commas.Member.{Member}
use Rattle.lar_tree.specs.declared.item.Angled.{Angled}
use Rattle.lar_tree.specs.declared.item.Generic.{Generic}
use Rattle.lar_tree.specs.declared.item.Generic.TheVariants as generic
use Rattle.lar_source.specs.declared.file.Span.{Span}
use Rattle.lar_tree.specs.declared.sign.Sign.TheVariants as sign
use Rattle.lar_tree.specs.declared.token.Token.{Token}
use Rattle.lar_tree.specs.PlainLists.{further_types, further_args, parts_in, further_parts, inits_in, further_inits}
use Rattle.lar_tree.specs.Spelling.{sign_token, name_token, flat_path, flat_minus}
use Rattle.lar_tree.specs.Types.{PlainTy, int_type, bool_type, unit_type, tuple_type, named_type, generic_type, MoreTypes, last_type, next_type, PlainArgs, angle_args, PlainArg, type_arg, number_arg, MoreArgs, last_arg, next_arg, flat_type}
use Rattle.lar_tree.specs.Exprs.{PlainTurbofish, PlainExpr, number, truth, untruth, paren, new_struct, path, call, field, unary_of, binary_of, PlainParts, no_parts, parts, MoreParts, last_part, next_part, PlainInits, no_inits, inits, MoreInits, last_init, next_init, flat_expr}
use Rattle.lar_tree.specs.Stmts.{PlainSetting, PlainStmt, let_stmt, if_stmt, while_stmt, return_stmt, print_stmt, assert_stmt, expr_stmt, PlainBlock, block, PlainStmts, no_stmts, stmts, PlainIf, fork, PlainElse, no_else, else_block, else_if, IfThere}
use Rattle.lar_tree.specs.Items.{PlainField, PlainStruct, PlainOutput, PlainFn, PlainItem, module_item, struct_item, const_item, fn_item, PlainItems, no_items, items, flat_attributes}
use Rattle.lar_tree.specs.Marks.{Marked, un, unmarked, tokens_of, over, cut, marked_option, marked_members, marked_commas, marked_type, marked_types, marked_args, marked_arg, marked_more_args, outermost_type, marked_turbofish, marked_expr, marked_parts, marked_more_parts, marked_inits, marked_more_inits, outermost, marked_setting, marked_stmt, marked_block, marked_stmts, marked_if, marked_else, marked_name, marked_generic, marked_angled, marked_field, marked_output, marked_struct, marked_head, marked_item, marked_items}
use Rattle.lar_tree.specs.Programs.{Spells}
use Rattle.lar_tree.specs.Lawful.{LimitedType, LimitedTypes, LimitedArgs, LimitedArg, LimitedMoreArgs, LimitedTurbofish, LimitedExpr, LimitedParts, LimitedMoreParts, LimitedInits, LimitedMoreInits, OuterType, OuterExpr, OuterSetting, LimitedStmt, LimitedBlock, LimitedStmts, LimitedIf, LimitedElse, Every, AtMost, LimitedAngled, LimitedField, LimitedOutput, LimitedStruct, LimitedFn, LimitedItem, LimitedItems, Lawful}
use Rattle.lar_tree.proofs.MarkedTokens.{tokens-type, tokens-expr}

-- no token is marked
abbrev Clean : List Marked → Type 0
Clean [] = Unit {0}
Clean (m ∷ ms) = (m.1 ≡ false) × Clean ms

clean-unmarked : (ts : List Token) → Clean (unmarked ts)
clean-unmarked [] = tt
clean-unmarked (t ∷ ts) = (refl, clean-unmarked ts)

clean-left : (xs ys : List Marked) → Clean (xs ++ ys) → Clean xs
clean-left [] ys c = tt
clean-left (x ∷ xs) ys c = (c.0, clean-left xs ys c.1)

clean-right : (xs ys : List Marked) → Clean (xs ++ ys) → Clean ys
clean-right [] ys c = c
clean-right (x ∷ xs) ys c = clean-right xs ys c.1

-- a member or level whose first token is not marked may come
clean-over : (n : ℕ) (ms : List Marked) → 1 ≤ length ms → Clean (over n ms) → (1 ≤ n) × Clean ms
clean-over zero [] long c = absurd (omega arith)
clean-over zero (m ∷ ms) long c = absurd (cc c.0)
clean-over (suc n) ms long c = (omega arith, c)

clean-cut : (n : ℕ) (ms : List Marked) → Clean (cut n ms) → (length ms ≤ n) × Clean ms
clean-cut n [] c = (omega arith, tt)
clean-cut zero (m ∷ ms) c = absurd (cc c.0)
clean-cut (suc n) (m ∷ ms) c = let r = clean-cut n ms c.1 in (omega arith, (c.0, r.1))

longer : (xs ys : List Marked) → 1 ≤ length xs → 1 ≤ length (xs ++ ys)
longer (x ∷ xs) ys long = omega arith
longer [] ys long = absurd (omega arith)

type-long : (t : PlainTy) → 1 ≤ length (marked_type t)
type-long (int_type at) = omega arith
type-long (bool_type at) = omega arith
type-long (unit_type from to) = omega arith
type-long (tuple_type from first comma second others to) = omega arith
type-long (named_type p) = omega arith
type-long (generic_type p args) = omega arith

signed-long : (minus : Option Span) (t : Token) → 1 ≤ length (unmarked (flat_minus minus ++ t ∷ []))
signed-long None t = omega arith
signed-long (Some at) t = omega arith

arg-long : (a : PlainArg) → 1 ≤ length (marked_arg a)
arg-long (type_arg t) = type-long t
arg-long (number_arg n) = signed-long n.minus _

expr-long : (e : PlainExpr) → 1 ≤ length (marked_expr e)
expr-long (number n at) = omega arith
expr-long (truth at) = omega arith
expr-long (untruth at) = omega arith
expr-long (paren from ps to) = omega arith
expr-long (new_struct at p generics from is to) = omega arith
expr-long (path p) = omega arith
expr-long (call p generics from ps to) = omega arith
expr-long (field inner dot s) = longer (marked_expr inner) _ (expr-long inner)
expr-long (unary_of op at inner) = omega arith
expr-long (binary_of left op at right) = longer (marked_expr left) _ (expr-long left)

mutual
  type-limited : (t : PlainTy) → Clean (marked_type t) → LimitedType t
  type-limited (int_type at) c = tt
  type-limited (bool_type at) c = tt
  type-limited (unit_type from to) c = tt
  type-limited (tuple_type from first comma second others to) c =
      let d = clean-right (marked_type first) _ c.1 in
      let e = clean-right (marked_type second) _ d.1 in
      let o = types-limited 6 others (clean-left (marked_types 6 others) _ e) in
      (omega (arith, o.0), type-limited first (clean-left (marked_type first) _ c.1), type-limited second (clean-left (marked_type second) _ d.1), o.1)
  type-limited (named_type p) c = tt
  type-limited (generic_type p args) c = args-limited args (clean-right (unmarked (flat_path p)) (marked_args args) c)

  types-limited : (n : ℕ) (ts : MoreTypes) → Clean (marked_types n ts) → (length (further_types ts) ≤ n) × LimitedTypes ts
  types-limited n last_type c = (omega arith, tt)
  types-limited n (next_type comma t others) c =
      let a = clean-over n (marked_type t) (type-long t) (clean-left (over n (marked_type t)) _ c.1) in
      let b = types-limited (n - 1) others (clean-right (over n (marked_type t)) _ c.1) in
      (omega (arith, a.0, b.0), (type-limited t a.1, b.1))

  args-limited : (a : PlainArgs) → Clean (marked_args a) → LimitedArgs a
  args-limited (angle_args from first others to) c =
      let d = clean-right (marked_arg first) _ c.1 in
      let o = more_args-limited 15 others (clean-left (marked_more_args 15 others) _ d) in
      (omega (arith, o.0), arg-limited first (clean-left (marked_arg first) _ c.1), o.1)

  arg-limited : (a : PlainArg) → Clean (marked_arg a) → LimitedArg a
  arg-limited (type_arg t) c = type-limited t c
  arg-limited (number_arg n) c = tt

  more_args-limited : (n : ℕ) (ms : MoreArgs) → Clean (marked_more_args n ms) → (length (further_args ms) ≤ n) × LimitedMoreArgs ms
  more_args-limited n last_arg c = (omega arith, tt)
  more_args-limited n (next_arg comma m others) c =
      let a = clean-over n (marked_arg m) (arg-long m) (clean-left (over n (marked_arg m)) _ c.1) in
      let b = more_args-limited (n - 1) others (clean-right (over n (marked_arg m)) _ c.1) in
      (omega (arith, a.0, b.0), (arg-limited m a.1, b.1))

option-limited : {A : Type 0} (mark : A → List Marked) (P : A → Type 0) → ((x : A) → Clean (mark x) → P x) → (o : Option A) → Clean (marked_option mark o) → IfThere P o
option-limited mark P one None c = tt
option-limited mark P one (Some x) c = one x c

turbofish-limited : (t : PlainTurbofish) → Clean (marked_turbofish t) → LimitedTurbofish t
turbofish-limited t c = args-limited t.1 c.1

mutual
  expr-limited : (e : PlainExpr) → Clean (marked_expr e) → LimitedExpr e
  expr-limited (number n at) c = tt
  expr-limited (truth at) c = tt
  expr-limited (untruth at) c = tt
  expr-limited (paren from ps to) c =
      let o = parts-limited 7 ps (clean-left (marked_parts 7 ps) _ c.1) in
      (omega (arith, o.0), o.1)
  expr-limited (new_struct at p generics from is to) c =
      let d = clean-right (unmarked (flat_path p)) _ c.1 in
      let e = clean-right (marked_option marked_turbofish generics) _ d in
      let o = inits-limited is (clean-left (marked_inits is) _ e.1) in
      (o.0, option-limited marked_turbofish LimitedTurbofish turbofish-limited generics (clean-left (marked_option marked_turbofish generics) _ d), o.1)
  expr-limited (path p) c = tt
  expr-limited (call p generics from ps to) c =
      let d = clean-right (unmarked (flat_path p)) _ c in
      let e = clean-right (marked_option marked_turbofish generics) _ d in
      let o = parts-limited 15 ps (clean-left (marked_parts 15 ps) _ e.1) in
      (omega (arith, o.0), option-limited marked_turbofish LimitedTurbofish turbofish-limited generics (clean-left (marked_option marked_turbofish generics) _ d), o.1)
  expr-limited (field inner dot s) c = expr-limited inner (clean-left (marked_expr inner) _ c)
  expr-limited (unary_of op at inner) c = expr-limited inner c.1
  expr-limited (binary_of left op at right) c =
      (expr-limited left (clean-left (marked_expr left) _ c), expr-limited right (clean-right (marked_expr left) _ c).1)

  parts-limited : (n : ℕ) (ps : PlainParts) → Clean (marked_parts n ps) → (length (parts_in ps) ≤ n + 1) × LimitedParts ps
  parts-limited n no_parts c = (omega arith, tt)
  parts-limited n (parts first others) c =
      let o = more_parts-limited n others (clean-right (marked_expr first) _ c) in
      (omega (arith, o.0), (expr-limited first (clean-left (marked_expr first) _ c), o.1))

  more_parts-limited : (n : ℕ) (ps : MoreParts) → Clean (marked_more_parts n ps) → (length (further_parts ps) ≤ n) × LimitedMoreParts ps
  more_parts-limited n last_part c = (omega arith, tt)
  more_parts-limited n (next_part comma e others) c =
      let a = clean-over n (marked_expr e) (expr-long e) (clean-left (over n (marked_expr e)) _ c.1) in
      let b = more_parts-limited (n - 1) others (clean-right (over n (marked_expr e)) _ c.1) in
      (omega (arith, a.0, b.0), (expr-limited e a.1, b.1))

  inits-limited : (is : PlainInits) → Clean (marked_inits is) → (length (inits_in is) ≤ 64) × LimitedInits is
  inits-limited no_inits c = (omega arith, tt)
  inits-limited (inits n colon e others) c =
      let o = more_inits-limited 63 others (clean-right (marked_expr e) _ c.1.1) in
      (omega (arith, o.0), (expr-limited e (clean-left (marked_expr e) _ c.1.1), o.1))

  more_inits-limited : (k : ℕ) (is : MoreInits) → Clean (marked_more_inits k is) → (length (further_inits is) ≤ k) × LimitedMoreInits is
  more_inits-limited k last_init c = (omega arith, tt)
  more_inits-limited k (next_init comma n colon e others) c =
      let ms : List Marked = un (name_token n) ∷ un (sign_token sign.Colon colon) ∷ marked_expr e in
      let a = clean-over k ms (omega arith) (clean-left (over k ms) _ c.1) in
      let b = more_inits-limited (k - 1) others (clean-right (over k ms) _ c.1) in
      (omega (arith, a.0, b.0), (expr-limited e a.1.1.1, b.1))

same-length : (ms : List Marked) (ts : List Token) → tokens_of ms ≡ ts → length ts ≡ length ms
same-length ms ts e = sym (ap length e) ∙ length-map ms (λ (m : Marked). m.0)

type-outer : (t : PlainTy) → Clean (outermost_type t) → OuterType t
type-outer t c =
    let d = clean-cut 512 (marked_type t) c in
    let k = same-length (marked_type t) (flat_type t) (tokens-type t) in
    (omega (arith, k, d.0), type-limited t d.1)

expr-outer : (e : PlainExpr) → Clean (outermost e) → OuterExpr e
expr-outer e c =
    let d = clean-cut 512 (marked_expr e) c in
    let k = same-length (marked_expr e) (flat_expr e) (tokens-expr e) in
    (omega (arith, k, d.0), expr-limited e d.1)

assigned-outer : (a : PlainSetting) → Clean (marked_setting a) → OuterSetting a
assigned-outer a c = expr-outer a.1 c.1

if-long : (n : ℕ) (f : PlainIf) → 1 ≤ length (marked_if n f)
if-long n (fork at test body other) = omega arith

mutual
  stmt-limited : (n : ℕ) (s : PlainStmt) → Clean (marked_stmt n s) → LimitedStmt n s
  stmt-limited n (let_stmt l) c =
      let c3 = c.1.1.1 in
      let d = clean-right (outermost_type l.ty) _ c3 in
      (type-outer l.ty (clean-left (outermost_type l.ty) _ c3), expr-outer l.value (clean-left (outermost l.value) _ d.1))
  stmt-limited n (if_stmt f) c = if-limited n f c
  stmt-limited n (while_stmt at test body) c =
      (expr-outer test (clean-left (outermost test) _ c.1), block-limited n body (clean-right (outermost test) _ c.1))
  stmt-limited n (return_stmt at value end) c = option-limited outermost OuterExpr expr-outer value (clean-left (marked_option outermost value) _ c.1)
  stmt-limited n (print_stmt a) c = expr-outer a.value (clean-left (outermost a.value) _ c.1.1)
  stmt-limited n (assert_stmt a) c = expr-outer a.value (clean-left (outermost a.value) _ c.1.1)
  stmt-limited n (expr_stmt e assigned end) c =
      let d = clean-right (outermost e) _ c in
      (expr-outer e (clean-left (outermost e) _ c), option-limited marked_setting OuterSetting assigned-outer assigned (clean-left (marked_option marked_setting assigned) _ d))

  block-limited : (n : ℕ) (b : PlainBlock) → Clean (marked_block n b) → LimitedBlock n b
  block-limited n (block from ss to) c =
      let brace : List Marked = un (sign_token sign.OpenBrace from) ∷ [] in
      let a = clean-over n brace (omega arith) (clean-left (over n brace) _ c) in
      (a.0, stmts-limited (n - 1) ss (clean-left (marked_stmts (n - 1) ss) _ (clean-right (over n brace) _ c)))

  stmts-limited : (n : ℕ) (ss : PlainStmts) → Clean (marked_stmts n ss) → LimitedStmts n ss
  stmts-limited n no_stmts c = tt
  stmts-limited n (stmts s ss) c = (stmt-limited n s (clean-left (marked_stmt n s) _ c), stmts-limited n ss (clean-right (marked_stmt n s) _ c))

  if-limited : (n : ℕ) (f : PlainIf) → Clean (marked_if n f) → LimitedIf n f
  if-limited n (fork at test body other) c =
      let d = clean-right (outermost test) _ c.1 in
      (expr-outer test (clean-left (outermost test) _ c.1), block-limited n body (clean-left (marked_block n body) _ d), else-limited n other (clean-right (marked_block n body) _ d))

  else-limited : (n : ℕ) (e : PlainElse) → Clean (marked_else n e) → LimitedElse n e
  else-limited n no_else c = tt
  else-limited n (else_block at body) c = block-limited n body c.1
  else-limited n (else_if at f) c =
      let a = clean-over n (marked_if (n - 1) f) (if-long (n - 1) f) c.1 in
      (a.0, if-limited (n - 1) f a.1)

-- the members of a list
members-limited : {A : Type 0} (mark : A → List Marked) (P : A → Type 0) → ((x : A) → 1 ≤ length (mark x)) → ((x : A) → Clean (mark x) → P x) → (n : ℕ) (ms : List (Member A)) → Clean (marked_members mark n ms)
    → (length (map (λ (m : Member A). m.value) ms) ≤ n) × Every P (map (λ (m : Member A). m.value) ms)
members-limited mark P long one n [] c = (omega arith, tt)
members-limited mark P long one n (m ∷ ms) c =
    let a = clean-over n (mark m.value) (long m.value) (clean-left (over n (mark m.value)) _ c.1) in
    let b = members-limited mark P long one (n - 1) ms (clean-right (over n (mark m.value)) _ c.1) in
    (omega (arith, a.0, b.0), (one m.value a.1, b.1))

commas-limited : {A : Type 0} (mark : A → List Marked) (P : A → Type 0) → ((x : A) → 1 ≤ length (mark x)) → ((x : A) → Clean (mark x) → P x) → (n : ℕ) (l : Commas A) → Clean (marked_commas mark n l) → AtMost (n + 1) P l
commas-limited mark P long one n l c =
    let b = members-limited mark P long one n l.more (clean-right (mark l.first) _ c) in
    (omega (arith, b.0), (one l.first (clean-left (mark l.first) _ c), b.1))

angled-limited : {A : Type 0} (mark : A → List Marked) → ((x : A) → 1 ≤ length (mark x)) → (a : Angled A) → Clean (marked_angled mark 15 a) → LimitedAngled a
angled-limited {A} mark long a c =
    let b = commas-limited mark (λ (x : A). Unit {0}) long (λ x k. tt) 15 a.list (clean-left (marked_commas mark 15 a.list) _ c.1) in
    b.0

generic-long : (g : Generic) → 1 ≤ length (marked_generic g)
generic-long (generic.Ty n) = omega arith
generic-long (generic.Const k) = omega arith

field-limited : (f : PlainField) → Clean (marked_field f) → LimitedField f
field-limited f c = type-outer f.2 c.1.1

output-limited : (o : PlainOutput) → Clean (marked_output o) → LimitedOutput o
output-limited o c = type-outer o.1 c.1

struct-limited : (s : PlainStruct) → Clean (marked_struct s) → LimitedStruct s
struct-limited s c =
    let names = marked_option (marked_angled marked_name 15) s.generics in
    let fields = marked_option (marked_commas marked_field 63) s.fields in
    let d = clean-right names _ c.1.1 in (
      option-limited (marked_angled marked_name 15) LimitedAngled (angled-limited marked_name (λ n. omega arith)) s.generics (clean-left names _ c.1.1),
      option-limited (marked_commas marked_field 63) (AtMost 64 LimitedField) (commas-limited marked_field LimitedField (λ f. omega arith) field-limited 63) s.fields (clean-left fields _ d.1),
    )

function-limited : (n : ℕ) (f : PlainFn) → Clean (marked_head f ++ marked_block n f.body) → LimitedFn n f
function-limited n f c =
    let generics = marked_option (marked_angled marked_generic 15) f.generics in
    let params = marked_option (marked_commas marked_field 15) f.params in
    let h = clean-right (unmarked (flat_attributes f.attributes)) _ (clean-left (marked_head f) _ c) in
    let d = clean-right generics _ h.1.1 in
    let e = clean-right params _ d.1 in (
      option-limited (marked_angled marked_generic 15) LimitedAngled (angled-limited marked_generic generic-long) f.generics (clean-left generics _ h.1.1),
      option-limited (marked_commas marked_field 15) (AtMost 16 LimitedField) (commas-limited marked_field LimitedField (λ x. omega arith) field-limited 15) f.params (clean-left params _ d.1),
      option-limited marked_output LimitedOutput output-limited f.output e.1,
      block-limited n f.body (clean-right (marked_head f) _ c),
    )

mutual
  item-limited : (n : ℕ) (i : PlainItem) → Clean (marked_item n i) → LimitedItem n i
  item-limited n (module_item at name from is to) c =
      let brace : List Marked = un (sign_token sign.OpenBrace from) ∷ [] in
      let a = clean-over n brace (omega arith) (clean-left (over n brace) _ c.1.1) in
      (a.0, items-limited (n - 1) is (clean-left (marked_items (n - 1) is) _ (clean-right (over n brace) _ c.1.1)))
  item-limited n (struct_item s) c = struct-limited s c
  item-limited n (const_item k) c = tt
  item-limited n (fn_item f) c = function-limited n f c

  items-limited : (n : ℕ) (is : PlainItems) → Clean (marked_items n is) → LimitedItems n is
  items-limited n no_items c = tt
  items-limited n (items i is) c = (item-limited n i (clean-left (marked_item n i) _ c), items-limited n is (clean-right (marked_item n i) _ c))

-- a tree that is spelled keeps the grammar's limits
pub lawful : (p : PlainItems) (ts : List Token) → Spells p ts → Lawful p
lawful p ts s = record {
  grouped = s.0;
  limited = items-limited 64 p (subst Clean (sym s.1) (clean-unmarked ts));
}
