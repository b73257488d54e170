-- What becomes of an expression keeps the rules, and gives as many words as the expression's type has.
use Rattle.std.proofs.Common.{inl, inr, ◌≡◌, ℕ, zero, suc, ◌+◌, ◌<◌, ◌≤◌, ◌^◌, List, [], ◌∷◌, ◌++◌, length, map, take, get_or, refl, sym, ap, ◌∙◌, subst as transport, arith, true, Some, option_map}
use Rattle.std.specs.Prelude.{◌&&◌, ◌||◌, ◌==◌, nat_lt, nat_le, slice_get, slice_index}
use Rattle.std.proofs.lemmas.Bool.{lt-ltb, le-leb, eq-eqb, leb-true, cases_lt, or_left, or_right}
use Rattle.std.proofs.lemmas.List.{length-map}
use Rattle.std.proofs.lemmas.Option.{slice_get_within, get_or_from_slice_get, slice_get-map}
use Rattle.type_table.specs.declared.sort.Sort.{Sort}
use Rattle.type_table.specs.declared.sort.Sort.TheVariants.{Ty as of_type}
use Rattle.type_table.specs.TypeOf.{TypeOf, int, bool, param, number, end, more, tuple, struct}
use Rattle.type_table.specs.Substitution.{subst, count}
use Rattle.type_table.specs.Lawful.{one, these, some_types, is_tuple_count, fits}
use Rattle.type_table.specs.Depth.{fields_of}
use Rattle.lar_typed.specs.declared.op.UnaryOp.{UnaryOp}
use Rattle.lar_typed.specs.declared.op.UnaryOp.TheVariants as unary_op
use Rattle.lar_typed.specs.declared.op.BinaryOp.{BinaryOp}
use Rattle.lar_typed.specs.declared.op.BinaryOp.TheVariants as binary_op
use Rattle.lar_typed.specs.Exprs.{PlainExpr, PlainExprs, truth, local, constant, generic, tuple_of, made, part, unary, binary, call, no_exprs, exprs, label_of}
use Rattle.lar_typed.specs.Exprs as expr
use Rattle.lar_typed.specs.Calls.{CallOf, expr_calls, exprs_calls}
use Rattle.lar_typed.specs.SameType.{same_type, list_of}
use Rattle.lar_typed.specs.Trees.{PlainFunction}
use Rattle.lar_typed.specs.TreeView.{Contents, plain, IsTypedTree}
use Rattle.lar_typed.specs.Lawful.{Signature, type_generics, struct_sorts, is_scalar, unary_fits, binary_fits, types_of, lawful, all_lawful}
use Rattle.lar_typed.specs.IsTyped.{frame_of, IsFunction}
use Rattle.lar_typed.specs.Parts.{TupleParts, MadeParts, CallParts}
use Rattle.lar_typed.proofs.SameTypes.{and_true, both_true, same_means}
use Rattle.lar_typed.proofs.ExprParts.{int_parts, truth_parts, local_parts, constant_parts, generic_parts, tuple_parts, made_parts, field_parts, unary_parts, binary_parts, call_parts, list_parts}
use Rattle.mono_graph.specs.Instances.{PlainInstance}
use Rattle.unit_input.specs.Exprs.{expr_count}
use Rattle.unit_input.specs.Widths.{Scope, Signature as Widths, no_words, width, total_width, callee, cut}
use Rattle.unit_input.specs.Rules.{is_width, is_part, is_expr, are_exprs}
use Rattle.closed_input.specs.Places.{words_under, width_under, words_before}
use Rattle.closed_input.specs.Bodies.{Setting, number_in, callee_of, closed_expr, closed_exprs}
use Rattle.closed_input.specs.Unit.{setting_of}
use Rattle.closed_input.specs.Held.{expr_words, exprs_words}
use Rattle.closed_input.proofs.Fitting.{fields_are, struct_is_typed, function_is_typed, struct_fits, Signed, signed, first_fit, label_fits}
use Rattle.closed_input.proofs.Words.{cut_sum, cut_twice, cut_low, words_composed, struct_words, part_within, words_more, words_tuple, words_end, width_int, width_bool}
use Rattle.closed_input.proofs.Callees.{IsNumbered, AreNumbered, signature_at, signature_by, called_signature}

-- ---- calls of the parts
pub front_calls : (us : List PlainInstance) (args : TypeOf) (cs ds : List (CallOf TypeOf)) → AreNumbered us args (cs ++ ds) → AreNumbered us args cs
front_calls us args [] ds h = tt
front_calls us args (c ∷ cs) ds h = (h.0, front_calls us args cs ds h.1)

pub back_calls : (us : List PlainInstance) (args : TypeOf) (cs ds : List (CallOf TypeOf)) → AreNumbered us args (cs ++ ds) → AreNumbered us args ds
back_calls us args [] ds h = h
back_calls us args (c ∷ cs) ds h = back_calls us args cs ds h.1

-- ---- widths
pub part_keeps : (a b c : ℕ) → a + b ≤ c → is_part (cut a) (cut b) (cut c) ≡ true
part_keeps a b c h =
    both_true (is_width (cut a) && is_width (cut b)) (nat_le 256 (cut c) || nat_le (cut a + cut b) (cut c))
    (both_true (is_width (cut a)) (is_width (cut b)) (le-leb (cut a) 256 (cut_low a)) (le-leb (cut b) 256 (cut_low b)))
    (elim (cases_lt c 256) as (λ _. (nat_le 256 (cut c) || nat_le (cut a + cut b) (cut c)) ≡ true) [
      | inl l ↦ or_right (nat_le 256 (cut c)) (nat_le (cut a + cut b) (cut c)) (le-leb (cut a + cut b) (cut c) (grind arith))
      | inr g ↦ or_left (nat_le 256 (cut c)) (nat_le (cut a + cut b) (cut c)) (le-leb 256 (cut c) (grind arith))
    ])

count_subst : (structs : List (List Sort)) (generics : List Sort) (gs ts : TypeOf) → fits structs generics ts some_types ≡ true → count (subst gs ts) ≡ count ts
count_subst structs generics gs (more t ts) h = ap suc (count_subst structs generics gs ts (and_true (fits structs generics t (one of_type)) (fits structs generics ts some_types) h).1)
count_subst structs generics gs end h = refl
count_subst structs generics gs int h = cc
count_subst structs generics gs bool h = cc
count_subst structs generics gs (param k) h = cc
count_subst structs generics gs (number v) h = cc
count_subst structs generics gs (tuple ts) h = cc
count_subst structs generics gs (struct n ts) h = cc

count_listed : (gs : TypeOf) (k : ℕ) (ts : List TypeOf) → count (subst gs (list_of (take k ts))) ≤ k
count_listed gs zero ts = omega arith
count_listed gs (suc k) [] = omega arith
count_listed gs (suc k) (t ∷ ts) = let h : count (subst gs (list_of (take k ts))) ≤ k = count_listed gs k ts in omega arith

expr_count_is : (x : Setting) (es : PlainExprs) → expr_count (closed_exprs x es) ≡ count (types_of es)
expr_count_is x no_exprs = refl
expr_count_is x (exprs e es) = ap suc (expr_count_is x es)

tuple_few : (n : ℕ) → is_tuple_count n ≡ true → n < 256
tuple_few zero h = omega arith
tuple_few (suc n) h = let p : n ≤ 7 = leb-true n 7 (and_true (nat_le 1 n) (nat_le n 7) h).1 in omega arith

-- what a scope has for the body of a function under these arguments
pub record Fitted (tree : Contents) (args : TypeOf) (us : List PlainInstance) (f : PlainFunction) (s : Scope) : Type 0 where
  pub locals : s.locals ≡ map (width_under tree args) f.locals
  pub callees : s.callees ≡ map (signature_at tree) us
  pub few : length us < 2 ^ 32
  pub «result» : s.«result» ≡ width_under tree args f.outcome

module _ (tree : Contents) (typed : IsTypedTree tree) (f : PlainFunction) (function : IsFunction (plain tree) f) (args : TypeOf) (fit : fits (struct_sorts (plain tree).structs) [] args (these f.generics) ≡ true) (us : List PlainInstance) (s : Scope) (fitted : Fitted tree args us f s) where
  abbrev Sorts : List (List Sort)
  Sorts = struct_sorts (plain tree).structs

  abbrev In : Setting
  In = setting_of tree us args f

  is_int : (t : TypeOf) → t ≡ int → 1 ≡ width_under tree args t
  is_int t e = sym (ap (width_under tree args) e ∙ width_int tree args)

  is_bool : (t : TypeOf) → t ≡ bool → 1 ≡ width_under tree args t
  is_bool t e = sym (ap (width_under tree args) e ∙ width_bool tree args)

  -- an operator gives one word, and takes operands of one word
  one_word : (op : UnaryOp) (t a : TypeOf) → unary_fits op t a ≡ true → (1 ≡ width_under tree args t) × (1 ≡ width_under tree args a)
  one_word unary_op.Minus t a h = let p = and_true (same_type t int) (same_type a int) h in (is_int t (same_means t int p.0), is_int a (same_means a int p.1))
  one_word unary_op.Not t a h = let p = and_true (same_type t bool) (same_type a bool) h in (is_bool t (same_means t bool p.0), is_bool a (same_means a bool p.1))

  abbrev Words : TypeOf → TypeOf → TypeOf → Type 0
  Words t a b = (1 ≡ width_under tree args t) × (1 ≡ width_under tree args a) × (1 ≡ width_under tree args b)

  truths : (t a b : TypeOf) → (same_type t bool && (same_type a bool && same_type b bool)) ≡ true → Words t a b
  truths t a b h =
      let p = and_true (same_type t bool) (same_type a bool && same_type b bool) h in
      let q = and_true (same_type a bool) (same_type b bool) p.1 in
      (is_bool t (same_means t bool p.0), is_bool a (same_means a bool q.0), is_bool b (same_means b bool q.1))

  compared : (t a b : TypeOf) → (same_type t bool && (same_type a int && same_type b int)) ≡ true → Words t a b
  compared t a b h =
      let p = and_true (same_type t bool) (same_type a int && same_type b int) h in
      let q = and_true (same_type a int) (same_type b int) p.1 in
      (is_bool t (same_means t bool p.0), is_int a (same_means a int q.0), is_int b (same_means b int q.1))

  numbers : (t a b : TypeOf) → (same_type t int && (same_type a int && same_type b int)) ≡ true → Words t a b
  numbers t a b h =
      let p = and_true (same_type t int) (same_type a int && same_type b int) h in
      let q = and_true (same_type a int) (same_type b int) p.1 in
      (is_int t (same_means t int p.0), is_int a (same_means a int q.0), is_int b (same_means b int q.1))

  scalar_word : (a : TypeOf) → is_scalar a ≡ true → 1 ≡ width_under tree args a
  scalar_word int h = is_int int refl
  scalar_word bool h = is_bool bool refl
  scalar_word (param k) h = cc
  scalar_word (number v) h = cc
  scalar_word end h = cc
  scalar_word (more t ts) h = cc
  scalar_word (tuple ts) h = cc
  scalar_word (struct n ts) h = cc

  equated : (t a b : TypeOf) → (same_type t bool && (is_scalar a && same_type b a)) ≡ true → Words t a b
  equated t a b h =
      let p = and_true (same_type t bool) (is_scalar a && same_type b a) h in
      let q = and_true (is_scalar a) (same_type b a) p.1 in
      (is_bool t (same_means t bool p.0), scalar_word a q.0, scalar_word a q.0 ∙ sym (ap (width_under tree args) (same_means b a q.1)))

  two_words : (op : BinaryOp) (t a b : TypeOf) → binary_fits op t a b ≡ true → Words t a b
  two_words binary_op.Or t a b h = truths t a b h
  two_words binary_op.And t a b h = truths t a b h
  two_words binary_op.Equal t a b h = equated t a b h
  two_words binary_op.NotEqual t a b h = equated t a b h
  two_words binary_op.Less t a b h = compared t a b h
  two_words binary_op.AtMost t a b h = compared t a b h
  two_words binary_op.Greater t a b h = compared t a b h
  two_words binary_op.AtLeast t a b h = compared t a b h
  two_words binary_op.Plus t a b h = numbers t a b h
  two_words binary_op.Minus t a b h = numbers t a b h
  two_words binary_op.Star t a b h = numbers t a b h
  two_words binary_op.Slash t a b h = numbers t a b h
  two_words binary_op.Percent t a b h = numbers t a b h

  pub local_width : (t : TypeOf) (n : ℕ) → slice_get f.locals n ≡ Some t → slice_index s.locals n ≡ width_under tree args t
  local_width t n h = ap (λ (ws : List ℕ). slice_index ws n) fitted.locals ∙ get_or_from_slice_get (map (width_under tree args) f.locals) n (width_under tree args t) 0 (slice_get-map (width_under tree args) f.locals n ∙ ap (option_map (width_under tree args)) h)

  -- what a call takes and gives
  record CallWords (t : TypeOf) (n : ℕ) (gs : TypeOf) (es : PlainExprs) : Type 0 where
    gives : (callee s (number_in us (callee_of In n gs))).«result» ≡ width_under tree args t
    takes : (callee s (number_in us (callee_of In n gs))).params ≡ width_under tree args (types_of es)
    few : count (types_of es) < 256

  call_words : (t : TypeOf) (n : ℕ) (gs : TypeOf) (es : PlainExprs) → CallParts (frame_of (plain tree) f) t n gs es → IsNumbered us (callee_of In n gs) → CallWords t n gs es
  call_words t n gs es p known =
      let g : Signed (plain tree) n p.signature = signed (plain tree) n p.signature p.signature_there in
      let gf : PlainFunction = g.function in
      let is : IsFunction (plain tree) gf = function_is_typed (plain tree) n gf typed.typed g.there in
      let fg : fits Sorts f.generics gs (these gf.generics) ≡ true = transport (λ (y : Signature). fits Sorts f.generics gs (these y.generics) ≡ true) g.is p.generics_fit in
      let of : t ≡ subst gs gf.outcome = p.of ∙ ap (λ (y : Signature). subst gs y.outcome) g.is in
      let are : types_of es ≡ subst gs (list_of (take gf.params gf.locals)) = p.args_are ∙ ap (λ (y : Signature). subst gs y.params) g.is in
      let sign : callee s (number_in us (callee_of In n gs)) ≡ signature_by tree (subst args gs) (Some gf) = ap (λ (ws : List Widths). get_or ws (number_in us (callee_of In n gs)) no_words) fitted.callees ∙ called_signature tree us (callee_of In n gs) gf known g.there in
      let counted : count (subst gs (list_of (take gf.params gf.locals))) ≤ gf.params = count_listed gs gf.params gf.locals in
      let low : gf.params ≤ 16 = is.few_params in
      let same : count (types_of es) ≡ count (subst gs (list_of (take gf.params gf.locals))) = ap count are in
      record {
        gives = ap (λ (w : Widths). w.«result») sign ∙ sym (ap (width_under tree args) of ∙ ap cut (words_composed tree args gs gf.outcome f.generics gf.generics (one of_type) fg is.lawful_outcome));
        takes = ap (λ (w : Widths). w.params) sign ∙ sym (ap (width_under tree args) are ∙ ap cut (words_composed tree args gs (list_of (take gf.params gf.locals)) f.generics gf.generics some_types fg (first_fit Sorts gf.generics gf.params gf.locals is.lawful_locals)));
        few = omega arith;
      }

  made_words : (t : TypeOf) (es : PlainExprs) → MadeParts (frame_of (plain tree) f) t es → (width_under tree args (types_of es) ≡ width_under tree args t) × (count (types_of es) < 256)
  made_words t es p =
      let fg : fits Sorts f.generics p.generics (these (type_generics (p.struct_decl).generics)) ≡ true = struct_fits (plain tree).structs f.generics p.number p.struct_decl p.generics p.decl_there (transport (λ (u : TypeOf). fits Sorts f.generics u (one of_type) ≡ true) p.of p.fits) in
      let e : words_under tree args (struct p.number p.generics) ≡ words_under tree args (subst p.generics (fields_of tree.rows tree.structs p.number)) = struct_words tree args p.generics p.number p.struct_decl f.generics typed fit p.decl_there fg in
      let same : types_of es ≡ subst p.generics (fields_of tree.rows tree.structs p.number) = p.fields_are ∙ ap (subst p.generics) (sym (fields_are tree p.number p.struct_decl p.decl_there)) in
      let is = struct_is_typed (plain tree) p.number p.struct_decl typed.typed p.decl_there in
      let c : count (types_of es) ≡ count (p.struct_decl).fields = ap count p.fields_are ∙ count_subst Sorts (type_generics (p.struct_decl).generics) p.generics (p.struct_decl).fields is.lawful_fields in
      let low : count (p.struct_decl).fields ≤ 64 = is.few_fields in
      (ap (width_under tree args) same ∙ sym (ap cut e) ∙ sym (ap (width_under tree args) p.of), omega arith)

  mutual
    -- it gives as many words as its type has
    pub expr_width : (e : PlainExpr) → lawful (frame_of (plain tree) f) e ≡ true → AreNumbered us args (expr_calls e) → width s (closed_expr In e) ≡ width_under tree args (label_of e)
    expr_width (expr.int t v) h c = is_int t (int_parts (frame_of (plain tree) f) t v h)
    expr_width (truth t b) h c = is_bool t (truth_parts (frame_of (plain tree) f) t b h)
    expr_width (local t n) h c = local_width t n (local_parts (frame_of (plain tree) f) t n h).of
    expr_width (constant t n) h c = is_int t (constant_parts (frame_of (plain tree) f) t n h).of
    expr_width (generic t k) h c = is_int t (generic_parts (frame_of (plain tree) f) t k h).of
    expr_width (tuple_of t es) h c =
        let p : TupleParts (frame_of (plain tree) f) t es = tuple_parts (frame_of (plain tree) f) t es h in
        exprs_width es p.lawful_parts c ∙ sym (ap (width_under tree args) p.of ∙ ap cut (words_tuple tree args (types_of es)))
    expr_width (made t es) h c =
        let p : MadeParts (frame_of (plain tree) f) t es = made_parts (frame_of (plain tree) f) t es h in
        exprs_width es p.lawful_fields c ∙ (made_words t es p).0
    expr_width (part t e k) h c = refl
    expr_width (unary t op e) h c = (one_word op t (label_of e) (unary_parts (frame_of (plain tree) f) t op e h).0).0
    expr_width (binary t op a b) h c = (two_words op t (label_of a) (label_of b) (binary_parts (frame_of (plain tree) f) t op a b h).0).0
    expr_width (call t n gs es at) h c = (call_words t n gs es (call_parts (frame_of (plain tree) f) t n gs es at h) c.0).gives

    pub exprs_width : (es : PlainExprs) → all_lawful (frame_of (plain tree) f) es ≡ true → AreNumbered us args (exprs_calls es) → cut (total_width s (closed_exprs In es)) ≡ width_under tree args (types_of es)
    exprs_width no_exprs h c = ap cut (sym (words_end tree args))
    exprs_width (exprs e es) h c =
        let p = list_parts (frame_of (plain tree) f) e es h in
        let first : width s (closed_expr In e) ≡ width_under tree args (label_of e) = expr_width e p.0 (front_calls us args (expr_calls e) (exprs_calls es) c) in
        let others : cut (total_width s (closed_exprs In es)) ≡ width_under tree args (types_of es) = exprs_width es p.1 (back_calls us args (expr_calls e) (exprs_calls es) c) in
        cut_sum (width s (closed_expr In e)) (total_width s (closed_exprs In es)) (words_under tree args (label_of e)) (words_under tree args (types_of es)) (ap cut first ∙ cut_twice (words_under tree args (label_of e))) others
        ∙ sym (ap cut (words_more tree args (label_of e) (types_of es)))

  number_low : (x : PlainInstance) → IsNumbered us x → (nat_lt (number_in us x) (2 ^ 32) ≡ true) × (nat_lt (number_in us x) (length s.callees) ≡ true)
  number_low x known =
      let room : number_in us x < length us = slice_get_within us (number_in us x) x known in
      let few : length us < 2 ^ 32 = fitted.few in
      let len : length s.callees ≡ length us = ap length fitted.callees ∙ length-map us (signature_at tree) in
      (lt-ltb (number_in us x) (2 ^ 32) (omega arith), lt-ltb (number_in us x) (length s.callees) (omega arith))

  mutual
    -- it keeps the rules
    pub expr_keeps : (e : PlainExpr) → lawful (frame_of (plain tree) f) e ≡ true → AreNumbered us args (expr_calls e) → expr_words (closed_expr In e) ≡ true → is_expr s (closed_expr In e) ≡ true
    expr_keeps (expr.int t v) h c w = w
    expr_keeps (truth t b) h c w = refl
    expr_keeps (local t n) h c w =
        let room : n < length f.locals = (local_parts (frame_of (plain tree) f) t n h).there in
        let len : length s.locals ≡ length f.locals = ap length fitted.locals ∙ length-map f.locals (width_under tree args) in
        lt-ltb n (length s.locals) (omega arith)
    expr_keeps (constant t n) h c w = w
    expr_keeps (generic t k) h c w = w
    expr_keeps (tuple_of t es) h c w =
        let p : TupleParts (frame_of (plain tree) f) t es = tuple_parts (frame_of (plain tree) f) t es h in
        let n : count (types_of es) < 256 = tuple_few (count (types_of es)) p.counted in
        let m : expr_count (closed_exprs In es) ≡ count (types_of es) = expr_count_is In es in
        both_true (nat_lt (expr_count (closed_exprs In es)) 256) (are_exprs s (closed_exprs In es)) (lt-ltb (expr_count (closed_exprs In es)) 256 (omega arith)) (exprs_keep es p.lawful_parts c w)
    expr_keeps (made t es) h c w =
        let p : MadeParts (frame_of (plain tree) f) t es = made_parts (frame_of (plain tree) f) t es h in
        let n : count (types_of es) < 256 = (made_words t es p).1 in
        let m : expr_count (closed_exprs In es) ≡ count (types_of es) = expr_count_is In es in
        both_true (nat_lt (expr_count (closed_exprs In es)) 256) (are_exprs s (closed_exprs In es)) (lt-ltb (expr_count (closed_exprs In es)) 256 (omega arith)) (exprs_keep es p.lawful_fields c w)
    expr_keeps (part t e k) h c w =
        let p = field_parts (frame_of (plain tree) f) t e k h in
        let low : words_before tree args (label_of e) k + words_under tree args t ≤ words_under tree args (label_of e) = part_within tree args (label_of e) t k f.generics typed fit (label_fits (plain tree) typed.typed f function e p.1) p.0 in
        let part_is : is_part (cut (words_before tree args (label_of e) k)) (width_under tree args t) (width s (closed_expr In e)) ≡ true =
        ap (is_part (cut (words_before tree args (label_of e) k)) (width_under tree args t)) (expr_width e p.1 c) ∙ part_keeps (words_before tree args (label_of e) k) (words_under tree args t) (words_under tree args (label_of e)) low in
        both_true (is_part (cut (words_before tree args (label_of e) k)) (width_under tree args t) (width s (closed_expr In e))) (is_expr s (closed_expr In e)) part_is (expr_keeps e p.1 c w)
    expr_keeps (unary t op e) h c w =
        let p = unary_parts (frame_of (plain tree) f) t op e h in
        both_true (width s (closed_expr In e) == 1) (is_expr s (closed_expr In e)) (eq-eqb (width s (closed_expr In e)) 1 (expr_width e p.1 c ∙ sym (one_word op t (label_of e) p.0).1)) (expr_keeps e p.1 c w)
    expr_keeps (binary t op a b) h c w =
        let p = binary_parts (frame_of (plain tree) f) t op a b h in
        let q = two_words op t (label_of a) (label_of b) p.0 in
        let ca : AreNumbered us args (expr_calls a) = front_calls us args (expr_calls a) (expr_calls b) c in
        let cb : AreNumbered us args (expr_calls b) = back_calls us args (expr_calls a) (expr_calls b) c in
        let v = and_true (expr_words (closed_expr In a)) (expr_words (closed_expr In b)) w in
        both_true ((width s (closed_expr In a) == 1) && (width s (closed_expr In b) == 1) && is_expr s (closed_expr In a)) (is_expr s (closed_expr In b))
        (both_true ((width s (closed_expr In a) == 1) && (width s (closed_expr In b) == 1)) (is_expr s (closed_expr In a))
        (both_true (width s (closed_expr In a) == 1) (width s (closed_expr In b) == 1) (eq-eqb (width s (closed_expr In a)) 1 (expr_width a p.1 ca ∙ sym q.1)) (eq-eqb (width s (closed_expr In b)) 1 (expr_width b p.2 cb ∙ sym q.2)))
        (expr_keeps a p.1 ca v.0))
        (expr_keeps b p.2 cb v.1)
    expr_keeps (call t n gs es at) h c w =
        let p : CallParts (frame_of (plain tree) f) t n gs es = call_parts (frame_of (plain tree) f) t n gs es at h in
        let q : CallWords t n gs es = call_words t n gs es p c.0 in
        let k : ℕ = number_in us (callee_of In n gs) in
        let low = number_low (callee_of In n gs) c.0 in
        let m : expr_count (closed_exprs In es) ≡ count (types_of es) = expr_count_is In es in
        let few : count (types_of es) < 256 = q.few in
        let takes : cut (total_width s (closed_exprs In es)) ≡ (callee s k).params = exprs_width es p.lawful_args c.1 ∙ sym q.takes in
        both_true (nat_lt k (2 ^ 32) && nat_lt k (length s.callees) && nat_lt (expr_count (closed_exprs In es)) 256 && (cut (total_width s (closed_exprs In es)) == (callee s k).params)) (are_exprs s (closed_exprs In es))
        (both_true (nat_lt k (2 ^ 32) && nat_lt k (length s.callees) && nat_lt (expr_count (closed_exprs In es)) 256) (cut (total_width s (closed_exprs In es)) == (callee s k).params)
        (both_true (nat_lt k (2 ^ 32) && nat_lt k (length s.callees)) (nat_lt (expr_count (closed_exprs In es)) 256)
        (both_true (nat_lt k (2 ^ 32)) (nat_lt k (length s.callees)) low.0 low.1)
        (lt-ltb (expr_count (closed_exprs In es)) 256 (omega arith)))
        (eq-eqb (cut (total_width s (closed_exprs In es))) ((callee s k).params) takes))
        (exprs_keep es p.lawful_args c.1 w)

    pub exprs_keep : (es : PlainExprs) → all_lawful (frame_of (plain tree) f) es ≡ true → AreNumbered us args (exprs_calls es) → exprs_words (closed_exprs In es) ≡ true → are_exprs s (closed_exprs In es) ≡ true
    exprs_keep no_exprs h c w = refl
    exprs_keep (exprs e es) h c w =
        let p = list_parts (frame_of (plain tree) f) e es h in
        let v = and_true (expr_words (closed_expr In e)) (exprs_words (closed_exprs In es)) w in
        both_true (is_expr s (closed_expr In e)) (are_exprs s (closed_exprs In es)) (expr_keeps e p.0 (front_calls us args (expr_calls e) (exprs_calls es) c) v.0) (exprs_keep es p.1 (back_calls us args (expr_calls e) (exprs_calls es) c) v.1)
