-- What is made of an expression is what it is closed to.
use Rattle.std.proofs.Common.{◌≡◌, ℕ, zero, suc, ◌+◌, ◌<◌, ◌≤◌, ◌^◌, List, [], length, map, get_or, refl, sym, ap, ◌∙◌, subst as transport, arith, true, Option, Some, None, option_map}
use Rattle.std.specs.Prelude.{ℤ, pos, slice_get}
use Rattle.std.proofs.lemmas.List.{length-map}
use Rattle.std.proofs.lemmas.Option.{slice_get-map}
use Rattle.type_table.specs.declared.sort.Sort.{Sort}
use Rattle.type_table.specs.declared.sort.Sort.TheVariants.{Ty as of_type}
use Rattle.type_table.specs.TypeOf.{TypeOf, int, bool, param, number, end, more, tuple, struct}
use Rattle.type_table.specs.Rows.{type_at}
use Rattle.type_table.specs.Substitution.{argument, count, Below}
use Rattle.type_table.specs.Lawful.{one, these, fits, fits_struct}
use Rattle.lar_typed.specs.Calls.{CallOf, expr_calls, exprs_calls}
use Rattle.lar_typed.specs.Exprs.{ExprOf, ExprsOf, label_of, expr_map, exprs_map}
use Rattle.lar_typed.specs.Exprs as expr
use Rattle.lar_typed.specs.Lawful.{Frame, type_generics, struct_sorts, lawful, all_lawful}
use Rattle.lar_typed.specs.IsTyped.{frame_of, IsFunction, IsStruct}
use Rattle.lar_typed.specs.Parts.{GenericParts}
use Rattle.lar_typed.specs.Trees.{FunctionOf, PlainFunction, PlainStruct, function_map}
use Rattle.lar_typed.specs.TreeView.{Contents, plain, IsTypedTree}
use Rattle.lar_typed.specs.Within.{ExprWithin, ExprsWithin}
use Rattle.lar_typed.proofs.ExprParts.{local_parts, constant_parts, generic_parts, tuple_parts, made_parts, field_parts, unary_parts, binary_parts, call_parts, list_parts}
use Rattle.lar_typed.proofs.Falling.{fits_below}
use Rattle.mono_graph.specs.Instances.{PlainInstance}
use Rattle.unit_input.specs.Exprs.{PlainExpr as UnitExpr, PlainExprs as UnitExprs}
use Rattle.unit_input.specs.Exprs as unit
use Rattle.unit_input.specs.Widths.{cut}
use Rattle.closed_input.specs.Places.{width_under, words_before}
use Rattle.closed_input.specs.Bodies.{Setting, number_in, callee_of, number_value, unary_of, binary_of, closed_expr, closed_exprs}
use Rattle.closed_input.specs.Unit.{setting_of}
use Rattle.closed_input.proofs.Fitting.{label_fits, struct_is_typed, struct_fits, count_fits}
use Rattle.unit_close.specs.Measures.{IsRow, IsPlace, argument_count, list_widths}
use Rattle.unit_close.specs.Sight.{Sight}
use Rattle.unit_close.specs.Made.{width_at, until, made_expr, made_exprs}
use Rattle.unit_close.specs.Ready.{Ready, AllReady}
use Rattle.unit_close.proofs.Agreeing.{width_agrees, until_agrees}
use Rattle.unit_close.proofs.Ahead.{Ahead, ahead_front, ahead_past, expr_count_same}

pub label_map : (g : ℕ → TypeOf) (e : ExprOf ℕ) → label_of (expr_map g e) ≡ g (label_of e)
label_map g (expr.int t v) = refl
label_map g (expr.truth t b) = refl
label_map g (expr.local t n) = refl
label_map g (expr.constant t n) = refl
label_map g (expr.generic t k) = refl
label_map g (expr.tuple_of t es) = refl
label_map g (expr.made t es) = refl
label_map g (expr.part t e k) = refl
label_map g (expr.unary t op e) = refl
label_map g (expr.binary t op a b) = refl
label_map g (expr.call t n gs es at) = refl

pub label_within : (n : ℕ) (e : ExprOf ℕ) → ExprWithin n e → label_of e < n
label_within n (expr.int t v) w = w
label_within n (expr.truth t b) w = w
label_within n (expr.local t k) w = w
label_within n (expr.constant t k) w = w
label_within n (expr.generic t k) w = w
label_within n (expr.tuple_of t es) w = w.0
label_within n (expr.made t es) w = w.0
label_within n (expr.part t e k) w = w.0
label_within n (expr.unary t op e) w = w.0
label_within n (expr.binary t op a b) w = w.0
label_within n (expr.call t k gs es at) w = w.0

pub below_more : (n m : ℕ) (t : TypeOf) → n ≤ m → Below n t → Below m t
below_more n m int l b = tt
below_more n m bool l b = tt
below_more n m (number v) l b = tt
below_more n m end l b = tt
below_more n m (param k) l b = (let h : k < n = b in omega arith)
below_more n m (more t ts) l b = (below_more n m t l b.0, below_more n m ts l b.1)
below_more n m (tuple ts) l b = below_more n m ts l b
below_more n m (struct k ts) l b = below_more n m ts l b

generics_length : (n : ℕ) → length (type_generics n) ≡ n
generics_length zero = refl
generics_length (suc n) = let h : length (type_generics n) ≡ n = generics_length n in omega arith

-- what the code has at hand of a tree, where these are the widths of the arguments, the numbers of the const generics, and those of the calls
abbrev pub sight_in : Contents → List ℕ → List ℕ → List ℤ → List ℕ → Sight
sight_in tree locals ws ns cs = record { rows = tree.rows; structs = tree.structs; consts = tree.consts; widths = ws; numbers = ns; locals = locals; calls = cs }

-- what the code knows of the arguments of an instance
pub record Known (tree : Contents) (args : TypeOf) (ws : List ℕ) (ns : List ℤ) : Type 0 where
  pub widths : ws ≡ list_widths tree.rows tree.structs [] args
  pub count_is : length ns ≡ count args
  pub numbers : (k : ℕ) → get_or ns k (pos 0) ≡ number_value (argument args k)

module _ (tree : Contents) (typed : IsTypedTree tree) (g : FunctionOf ℕ) (function : IsFunction (plain tree) (function_map (type_at tree.rows) g)) (args : TypeOf) (fit : fits (struct_sorts (plain tree).structs) [] args (these g.generics) ≡ true) (us : List PlainInstance) (ws : List ℕ) (ns : List ℤ) (cs : List ℕ) (known : Known tree args ws ns) (small : length g.locals < 2 ^ 32) where
  abbrev T : ℕ → TypeOf
  T = type_at tree.rows

  abbrev F : PlainFunction
  F = function_map (type_at tree.rows) g

  abbrev Sorts : List (List Sort)
  Sorts = struct_sorts (plain tree).structs

  abbrev In : Setting
  In = setting_of tree us args (function_map (type_at tree.rows) g)

  abbrev X : Sight
  X = sight_in tree g.locals ws ns cs

  abbrev Fr : Frame
  Fr = frame_of (plain tree) (function_map (type_at tree.rows) g)

  abbrev Fit : TypeOf → Type 0
  Fit t = fits Sorts g.generics t (one of_type) ≡ true

  pub row_of : (r : ℕ) → r < length tree.rows → Fit (T r) → IsRow tree.rows r
  row_of r l f = record { there = l; few = below_more (length g.generics) 16 (T r) function.few_generics (fits_below Sorts g.generics (T r) (one of_type) f) }

  few_arguments : (t : TypeOf) → Fit t → argument_count t ≤ 16
  few_arguments (struct n gs) f = by (slice_get (plain tree).structs n) refl (slice_get Sorts n) (slice_get-map (λ (s : PlainStruct). type_generics s.generics) (plain tree).structs n) f
    where
      by : (o : Option PlainStruct) → slice_get (plain tree).structs n ≡ o → (q : Option (List Sort)) → q ≡ option_map (λ (s : PlainStruct). type_generics s.generics) (slice_get (plain tree).structs n) → fits_struct (fits Sorts g.generics gs) q ≡ true → count gs ≤ 16
      by None e None m h = cc
      by None e (Some ss) m h = absurd (none_some (m ∙ ap (option_map (λ (s : PlainStruct). type_generics s.generics)) e))
        where
          none_some : {A : Type 0} {x : A} → Some x ≡ None → ⊥
          none_some z = cc
      by (Some d) e q m h =
          let same : count gs ≡ length (type_generics d.generics) = count_fits Sorts g.generics (type_generics d.generics) gs (struct_fits (plain tree).structs g.generics n d gs e f) in
          let len : length (type_generics d.generics) ≡ d.generics = generics_length d.generics in
          let is : IsStruct (plain tree) d = struct_is_typed (plain tree) n d typed.typed e in
          let low : d.generics ≤ 16 = is.few_generics in
          omega arith
  few_arguments int f = omega arith
  few_arguments bool f = omega arith
  few_arguments (param k) f = omega arith
  few_arguments (number v) f = omega arith
  few_arguments end f = omega arith
  few_arguments (more t ts) f = omega arith
  few_arguments (tuple ts) f = omega arith

  pub place_of : (r : ℕ) → r < length tree.rows → Fit (T r) → IsPlace tree.rows r
  place_of r l f = record { row = row_of r l f; arguments = few_arguments (T r) f }

  pub width_same : (r : ℕ) → Fit (T r) → width_at X r ≡ width_under tree args (T r)
  width_same r f = width_agrees tree args g.generics typed fit ws known.widths (T r) (one of_type) f

  pub until_same : (r k : ℕ) → Fit (T r) → cut (until X r k) ≡ cut (words_before tree args (T r) k)
  until_same r k f = until_agrees tree args g.generics typed fit ws known.widths (T r) k f

  pub label_fit : (e : ExprOf ℕ) → lawful Fr (expr_map T e) ≡ true → Fit (T (label_of e))
  label_fit e h = transport Fit (label_map T e) (label_fits (plain tree) typed.typed F function (expr_map T e) h)

  numbers_there : length ns ≡ length g.generics
  numbers_there = known.count_is ∙ count_fits Sorts [] g.generics args fit

  abbrev Calls : ℕ → List (CallOf TypeOf) → Type 0
  Calls i ds = Ahead cs us args i ds

  mutual
    pub expr_closes : (i : ℕ) (e : ExprOf ℕ) → ExprWithin (length tree.rows) e → lawful Fr (expr_map T e) ≡ true → Calls i (expr_calls (expr_map T e)) → (made_expr X i e ≡ closed_expr In (expr_map T e)) × Ready X i e
    expr_closes i (expr.int t v) w h c = (refl, tt)
    expr_closes i (expr.truth t b) w h c = (refl, tt)
    expr_closes i (expr.local t n) w h c =
        let room : n < length (map T g.locals) = (local_parts Fr (T t) n h).there in
        let len : length (map T g.locals) ≡ length g.locals = length-map g.locals T in
        (refl, omega arith)
    expr_closes i (expr.constant t n) w h c = (refl, (constant_parts Fr (T t) n h).there)
    expr_closes i (expr.generic t k) w h c =
        let p : GenericParts Fr (T t) k = generic_parts Fr (T t) k h in
        let room : k < length g.generics = p.there in
        let len : length ns ≡ length g.generics = numbers_there in
        (ap unit.int (known.numbers k), omega arith)
    expr_closes i (expr.tuple_of t es) w h c = let p = exprs_close i es w.1 (tuple_parts Fr (T t) (exprs_map T es) h).lawful_parts c in (ap unit.tuple p.0, p.1)
    expr_closes i (expr.made t es) w h c = let p = exprs_close i es w.1 (made_parts Fr (T t) (exprs_map T es) h).lawful_fields c in (ap unit.tuple p.0, p.1)
    expr_closes i (expr.part t e k) w h c =
        let q = field_parts Fr (T t) (expr_map T e) k h in
        let p = expr_closes i e w.1 q.1 c in
        let ft : Fit (T t) = label_fit (expr.part t e k) h in
        let fe : Fit (T (label_of e)) = label_fit e q.1 in (
          ap (λ (y : UnitExpr). unit.field y (cut (until X (label_of e) k)) (width_at X t)) p.0
              ∙ ap (λ (o : ℕ). unit.field (closed_expr In (expr_map T e)) o (width_at X t)) (until_same (label_of e) k fe ∙ ap (λ (u : TypeOf). cut (words_before tree args u k)) (sym (label_map T e)))
              ∙ ap (λ (o : ℕ). unit.field (closed_expr In (expr_map T e)) (cut (words_before tree args (label_of (expr_map T e)) k)) o) (width_same t ft),
          (row_of t w.0 ft, place_of (label_of e) (label_within (length tree.rows) e w.1) fe, p.1),
        )
    expr_closes i (expr.unary t op e) w h c = let p = expr_closes i e w.1 (unary_parts Fr (T t) op (expr_map T e) h).1 c in (ap (unit.unary (unary_of op)) p.0, p.1)
    expr_closes i (expr.binary t op a b) w h c =
        let q = binary_parts Fr (T t) op (expr_map T a) (expr_map T b) h in
        let p = expr_closes i a w.1 q.1 (ahead_front cs us args i (expr_calls (expr_map T a)) (expr_calls (expr_map T b)) c) in
        let r = expr_closes (i + length (expr_calls a)) b w.2 q.2 (ahead_past cs us args i (length (expr_calls a)) (expr_calls (expr_map T a)) (expr_calls (expr_map T b)) (expr_count_same T a) c) in
        (ap (λ (y : UnitExpr). unit.binary (binary_of op) y (made_expr X (i + length (expr_calls a)) b)) p.0 ∙ ap (unit.binary (binary_of op) (closed_expr In (expr_map T a))) r.0, (p.1, r.1))
    expr_closes i (expr.call t n gs es at) w h c =
        let q = call_parts Fr (T t) n (T gs) (exprs_map T es) at h in
        let p = exprs_close (i + 1) es w.2 q.lawful_args c.2 in
        (ap (λ (k : ℕ). unit.call k (made_exprs X (i + 1) es)) c.1 ∙ ap (unit.call (number_in us (callee_of In n (T gs)))) p.0, (c.0, p.1))

    pub exprs_close : (i : ℕ) (es : ExprsOf ℕ) → ExprsWithin (length tree.rows) es → all_lawful Fr (exprs_map T es) ≡ true → Calls i (exprs_calls (exprs_map T es)) → (made_exprs X i es ≡ closed_exprs In (exprs_map T es)) × AllReady X i es
    exprs_close i expr.no_exprs w h c = (refl, tt)
    exprs_close i (expr.exprs e es) w h c =
        let q = list_parts Fr (expr_map T e) (exprs_map T es) h in
        let p = expr_closes i e w.0 q.0 (ahead_front cs us args i (expr_calls (expr_map T e)) (exprs_calls (exprs_map T es)) c) in
        let r = exprs_close (i + length (expr_calls e)) es w.1 q.1 (ahead_past cs us args i (length (expr_calls e)) (expr_calls (expr_map T e)) (exprs_calls (exprs_map T es)) (expr_count_same T e) c) in
        (ap (λ (y : UnitExpr). unit.exprs y (made_exprs X (i + length (expr_calls e)) es)) p.0 ∙ ap (unit.exprs (closed_expr In (expr_map T e))) r.0, (p.1, r.1))
