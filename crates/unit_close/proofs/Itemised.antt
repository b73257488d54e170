-- What becomes of an item is what it is closed to.
use Rattle.std.proofs.Common.{◌≡◌, ℕ, zero, suc, ◌+◌, ◌<◌, ◌≤◌, ◌^◌, List, [], ◌∷◌, ◌++◌, length, map, get_or, refl, sym, take, ap, ◌∙◌, subst as transport, arith, Bool, true, Option, Some, option_map, append_assoc}
use Rattle.std.specs.Prelude.{ℤ, slice_get}
use Rattle.std.specs.List.{AllByRecursion}
use Rattle.std.proofs.lemmas.List.{length-append, length-map}
use Rattle.std.proofs.lemmas.Option.{slice_get-map, slice_get-get_or, slice_get_read}
use Rattle.type_table.specs.declared.sort.Sort.{Sort}
use Rattle.type_table.specs.declared.sort.Sort.TheVariants.{Ty as of_type}
use Rattle.type_table.specs.declared.row.Row.{Row}
use Rattle.type_table.specs.declared.decl.StructDecl.{StructDecl}
use Rattle.type_table.specs.Depth.{AreFalling}
use Rattle.type_table.specs.TypeOf.{TypeOf}
use Rattle.type_table.specs.Rows.{type_at}
use Rattle.type_table.specs.Substitution.{count}
use Rattle.type_table.specs.Lawful.{one, these, some_types, fits}
use Rattle.lar_typed.specs.declared.tree.TypedConst.{TypedConst}
use Rattle.lar_typed.specs.declared.tree.TypedFunction.{TypedFunction}
use Rattle.lar_typed.specs.Calls.{CallOf, stmts_calls}
use Rattle.lar_typed.specs.SameType.{list_of}
use Rattle.lar_typed.specs.Stmts.{stmts_map}
use Rattle.lar_typed.specs.Lawful.{struct_sorts}
use Rattle.lar_typed.specs.IsTyped.{IsFunction}
use Rattle.lar_typed.specs.Trees.{FunctionOf, PlainFunction, function_map}
use Rattle.lar_typed.specs.TreeView.{Contents, function_view, plain, IsTypedTree}
use Rattle.lar_typed.specs.Within.{AllBelow, FunctionWithin, FunctionsWithin}
use Rattle.lar_typed.proofs.SameTypes.{and_true}
use Rattle.mono_items.specs.declared.items.MonoItem.{MonoItem}
use Rattle.mono_items.specs.Symbols.{symbol_of}
use Rattle.mono_graph.specs.Instances.{PlainInstance, instance_view, target, call_under, calls_of}
use Rattle.unit_input.specs.Inputs.{PlainFn, PlainExternal}
use Rattle.unit_input.specs.Widths.{cut}
use Rattle.closed_input.specs.Places.{width_under}
use Rattle.closed_input.specs.Bodies.{number_in}
use Rattle.closed_input.specs.Unit.{symbol_if, instance_if, instance_at, function_in, closed_function, closed_item, known_function, known_item}
use Rattle.closed_input.proofs.Distinct.{all_at}
use Rattle.closed_input.proofs.Fitting.{function_is_typed, count_fits, first_fit}
use Rattle.closed_input.specs.Lawful.{IsLawful}
use Rattle.closed_input.proofs.Found.{calls_of_function}
use Rattle.unit_close.specs.declared.items.Closing.{Closing}
use Rattle.type_widths.specs.Form.{AreForms}
use Rattle.lar_typed.proofs.Falling.{falling, fits_below}
use Rattle.unit_close.specs.declared.measure.Measure.{Measure}
use Rattle.unit_close.specs.Measures.{IsMeasure, IsRow, list_widths, words_at}
use Rattle.unit_close.specs.Sight.{Sight}
use Rattle.unit_close.specs.Made.{width_at, made_stmts}
use Rattle.unit_close.specs.Functions.{numbers_of, made_fn, FnReady}
use Rattle.unit_close.specs.Items.{named_in, IsClosing, AreNumbers}
use Rattle.unit_close.proofs.Agreeing.{width_agrees}
use Rattle.unit_close.proofs.Ahead.{Ahead}
use Rattle.unit_close.proofs.Numbered.{numbers_count, number_is}
use Rattle.unit_close.proofs.ExprsClose.{below_more, sight_in, Known, row_of, width_same}
use Rattle.unit_close.proofs.StmtsClose.{stmts_close}

-- ---- the numbers of all calls
seam : (pre post : List ℕ) (x : ℕ) → get_or (pre ++ x ∷ post) (length pre) 0 ≡ x
seam [] post x = refl
seam (y ∷ pre) post x = seam pre post x

ahead_from : (us : List PlainInstance) (args : TypeOf) (pre : List ℕ) (cs : List (CallOf TypeOf)) → Ahead (pre ++ map (λ c. number_in us (target (call_under args c))) cs) us args (length pre) cs
ahead_from us args pre [] = tt
ahead_from us args pre (c ∷ cs) =
    let n : ℕ = number_in us (target (call_under args c)) in
    let len : length (pre ++ n ∷ map (λ d. number_in us (target (call_under args d))) cs) ≡ length pre + length (n ∷ map (λ d. number_in us (target (call_under args d))) cs) = length-append pre (n ∷ map (λ d. number_in us (target (call_under args d))) cs) in
    let one : length (pre ++ n ∷ []) ≡ length pre + 1 = length-append pre (n ∷ []) in (
      omega arith,
      seam pre (map (λ d. number_in us (target (call_under args d))) cs) n,
      transport (λ (xs : List ℕ). Ahead xs us args (length pre + 1) cs) (append_assoc pre (n ∷ []) (map (λ d. number_in us (target (call_under args d))) cs))
          (transport (λ (k : ℕ). Ahead ((pre ++ n ∷ []) ++ map (λ d. number_in us (target (call_under args d))) cs) us args k cs) one (ahead_from us args (pre ++ n ∷ []) cs)),
    )

map_twice : {A B C : Type 0} (h : B → C) (g : A → B) (xs : List A) → map h (map g xs) ≡ map (λ x. h (g x)) xs
map_twice h g [] = refl
map_twice h g (x ∷ xs) = ap (λ ys. h (g x) ∷ ys) (map_twice h g xs)

-- ---- one function
listed_types : (structs : List (List Sort)) (generics : List Sort) (rows : ℕ → TypeOf) (n : ℕ) (ls : List ℕ) (P : ℕ → Type 0) → ((r : ℕ) → r < n → fits structs generics (rows r) (one of_type) ≡ true → P r) → AllBelow n ls → fits structs generics (list_of (map rows ls)) some_types ≡ true → AllByRecursion P ls
listed_types structs generics rows n [] P f w h = tt
listed_types structs generics rows n (l ∷ ls) P f w h =
    let p = and_true (fits structs generics (rows l) (one of_type)) (fits structs generics (list_of (map rows ls)) some_types) h in
    (f l w.0 p.0, listed_types structs generics rows n ls P f w.1 p.1)

listed_widths : (structs : List (List Sort)) (generics : List Sort) (rows : ℕ → TypeOf) (ls : List ℕ) (g : ℕ → ℕ) (k : TypeOf → ℕ) → ((r : ℕ) → fits structs generics (rows r) (one of_type) ≡ true → g r ≡ k (rows r)) → fits structs generics (list_of (map rows ls)) some_types ≡ true → map g ls ≡ map k (map rows ls)
listed_widths structs generics rows [] g k f h = refl
listed_widths structs generics rows (l ∷ ls) g k f h =
    let p = and_true (fits structs generics (rows l) (one of_type)) (fits structs generics (list_of (map rows ls)) some_types) h in
    ap (λ (n : ℕ). n ∷ map g ls) (f l p.0) ∙ ap (λ (ns : List ℕ). k (rows l) ∷ ns) (listed_widths structs generics rows ls g k f p.1)

pub record FnCloses (tree : Contents) (us : List PlainInstance) (args : TypeOf) (x : Sight) (g : FunctionOf ℕ) : Type 0 where
  pub ready : FnReady x g
  pub same : (symbol : List ℕ) (b : Bool) → made_fn x symbol b g ≡ closed_function tree us symbol b args (Some (function_map (type_at tree.rows) g))

fn_closes : (tree : Contents) (us : List PlainInstance) (args : TypeOf) (g : FunctionOf ℕ) (cs : List ℕ) → IsTypedTree tree → IsFunction (plain tree) (function_map (type_at tree.rows) g) → FunctionWithin (length tree.rows) g → fits (struct_sorts (plain tree).structs) [] args (these g.generics) ≡ true → length g.locals < 2 ^ 32
    → cs ≡ map (λ c. number_in us (target (call_under args c))) (stmts_calls (stmts_map (type_at tree.rows) g.body))
    → FnCloses tree us args (sight_in tree g.locals (list_widths tree.rows tree.structs [] args) (numbers_of args) cs) g
fn_closes tree us args g cs typed function within fit small numbers =
    let ws : List ℕ = list_widths tree.rows tree.structs [] args in
    let ns : List ℤ = numbers_of args in
    let known : Known tree args (list_widths tree.rows tree.structs [] args) (numbers_of args) = record { widths = refl; count_is = numbers_count args; numbers = number_is args } in
    let ahead : Ahead cs us args 0 (stmts_calls (stmts_map (type_at tree.rows) g.body)) = transport (λ (xs : List ℕ). Ahead xs us args 0 (stmts_calls (stmts_map (type_at tree.rows) g.body))) (sym numbers) (ahead_from us args [] (stmts_calls (stmts_map (type_at tree.rows) g.body))) in
    let body = stmts_close tree typed g function within.0 args fit us ws ns cs known small 0 g.body within.2 function.lawful_body ahead in
    let low : g.params ≤ 16 = function.few_params in
    record {
      ready = record {
        outcome = row_of tree typed g function args fit us ws ns cs known small g.outcome within.1 function.lawful_outcome;
        locals = listed_types (struct_sorts (plain tree).structs) g.generics (type_at tree.rows) (length tree.rows) g.locals (IsRow tree.rows) (λ r l f. row_of tree typed g function args fit us ws ns cs known small r l f) within.0 function.lawful_locals;
        params = omega arith;
        body = body.1;
      };
      same = λ symbol b.
          ap (λ (n : ℕ). record { symbol = symbol; external = b; «result» = n; params = g.params; locals = map (width_at (sight_in tree g.locals ws ns cs)) g.locals; body = made_stmts (sight_in tree g.locals ws ns cs) 0 g.body }) (width_same tree typed g function args fit us ws ns cs known small g.outcome function.lawful_outcome)
          ∙ ap (λ (ls : List ℕ). record { symbol = symbol; external = b; «result» = width_under tree args (type_at tree.rows g.outcome); params = g.params; locals = ls; body = made_stmts (sight_in tree g.locals ws ns cs) 0 g.body }) (listed_widths (struct_sorts (plain tree).structs) g.generics (type_at tree.rows) g.locals (width_at (sight_in tree g.locals ws ns cs)) (width_under tree args) (λ r f. width_same tree typed g function args fit us ws ns cs known small r f) function.lawful_locals)
          ∙ ap (λ y. record { symbol = symbol; external = b; «result» = width_under tree args (type_at tree.rows g.outcome); params = g.params; locals = map (width_under tree args) (map (type_at tree.rows) g.locals); body = y }) body.0;
    }

-- ---- an item
within_at : (n : ℕ) (fs : List TypedFunction) (k : ℕ) (f : TypedFunction) → FunctionsWithin n (map function_view fs) → slice_get fs k ≡ Some f → FunctionWithin n (function_view f)
within_at n [] k f w h = cc
within_at n (x ∷ fs) zero f w h = let same : x ≡ f = cc in transport (λ (y : TypedFunction). FunctionWithin n (function_view y)) same w.0
within_at n (x ∷ fs) (suc k) f w h = within_at n fs k f w.1 h

pub record ItemCloses (u : Closing) (p : ℕ) (x : MonoItem) (g : TypedFunction) (calls : List ℕ) : Type 0 where
  pub row : IsRow (u.tree.now).rows x.instance.arguments
  pub few : count (type_at (u.tree.now).rows x.instance.arguments) ≤ 16
  pub closes : FnCloses u.tree.now (named_in u) (type_at (u.tree.now).rows x.instance.arguments) (sight_in u.tree.now g.locals (list_widths (u.tree.now).rows (u.tree.now).structs [] (type_at (u.tree.now).rows x.instance.arguments)) (numbers_of (type_at (u.tree.now).rows x.instance.arguments)) calls) (function_view g)
  pub item : (b : Bool) → closed_item u.tree.now u.items.now (named_in u) b p ≡ closed_function u.tree.now (named_in u) (symbol_of u.tree.now x.instance) b (type_at (u.tree.now).rows x.instance.arguments) (Some (function_map (type_at (u.tree.now).rows) (function_view g)))

pub item_closes : (u : Closing) (p : ℕ) (x : MonoItem) (g : TypedFunction) (calls : List ℕ) → IsTypedTree u.tree.now → IsClosing u → p < length u.items.now → slice_get u.items.now p ≡ Some x → slice_get (u.tree.now).functions x.instance.function ≡ Some g → AreNumbers u p calls → length g.locals < 2 ^ 32 → ItemCloses u p x g calls
item_closes u p x g calls typed is l at there numbers small =
    let tree : Contents = u.tree.now in
    let T : ℕ → TypeOf = type_at (u.tree.now).rows in
    let args : TypeOf = type_at (u.tree.now).rows x.instance.arguments in
    let f : PlainFunction = function_map (type_at (u.tree.now).rows) (function_view g) in
    let view : instance_at u.tree.now u.items.now p ≡ instance_view (u.tree.now).rows x.instance = ap (instance_if u.tree.now) at in
    let found : slice_get (plain u.tree.now).functions x.instance.function ≡ Some f =
    slice_get-map (function_map T) (map function_view (u.tree.now).functions) x.instance.function ∙ ap (option_map (function_map T)) (slice_get-map function_view (u.tree.now).functions x.instance.function ∙ ap (option_map function_view) there) in
    let q : IsLawful (plain u.tree.now) (instance_view (u.tree.now).rows x.instance) = transport (IsLawful (plain u.tree.now)) view (is.lawful_items p l) in
    let same : q.function ≡ f = some_same (sym q.there ∙ found) in
    let fit : fits (struct_sorts (plain u.tree.now).structs) [] args (these (function_view g).generics) ≡ true = transport (λ (h : PlainFunction). fits (struct_sorts (plain u.tree.now).structs) [] args (these h.generics) ≡ true) same q.fit in
    let function : IsFunction (plain u.tree.now) f = function_is_typed (plain u.tree.now) x.instance.function f typed.typed found in
    let counted : count args ≡ length (function_view g).generics = count_fits (struct_sorts (plain u.tree.now).structs) [] (function_view g).generics args fit in
    let few : length (function_view g).generics ≤ 16 = function.few_generics in
    let calls_are : calls_of (plain u.tree.now) (instance_view (u.tree.now).rows x.instance) ≡ map (call_under args) (stmts_calls (stmts_map T (function_view g).body)) = calls_of_function (plain u.tree.now) (instance_view (u.tree.now).rows x.instance) f found in
    record {
      row = record { there = all_at (λ (y : MonoItem). y.instance.arguments < length (u.tree.now).rows) u.items.now p x is.arguments at; few = below_more 0 16 args (omega arith) (fits_below (struct_sorts (plain u.tree.now).structs) [] args (these (function_view g).generics) fit) };
      few = omega arith;
      closes = fn_closes u.tree.now (named_in u) args (function_view g) calls typed function (within_at (length (u.tree.now).rows) (u.tree.now).functions x.instance.function g (typed.within).1 there) fit small
          (numbers ∙ ap (λ (y : PlainInstance). map (λ (c : CallOf TypeOf). number_in (named_in u) (target c)) (calls_of (plain u.tree.now) y)) view ∙ ap (map (λ (c : CallOf TypeOf). number_in (named_in u) (target c))) calls_are ∙ map_twice (λ (c : CallOf TypeOf). number_in (named_in u) (target c)) (call_under args) (stmts_calls (stmts_map T (function_view g).body)));
      item = λ b.
          ap (λ (o : Option MonoItem). closed_function u.tree.now (named_in u) (symbol_if u.tree.now o) b (instance_if u.tree.now o).arguments (function_in u.tree.now (instance_if u.tree.now o))) at
          ∙ ap (closed_function u.tree.now (named_in u) (symbol_of u.tree.now x.instance) b args) found;
    }
  where
    some_same : {A : Type 0} {y z : A} → Some y ≡ Some z → y ≡ z
    some_same e = cc

-- ---- in the code
pub measure_of : (m : Measure) (tree : Contents) → IsTypedTree tree → m.types.now ≡ tree.rows → m.structs.now ≡ tree.structs → AreForms tree.rows tree.structs m.forms.now → IsMeasure m
measure_of m tree typed p q forms =
    let a = transport (λ rows. AreFalling rows tree.structs) (sym p) (falling tree typed) in
    let b = transport (λ rows. AreForms rows tree.structs m.forms.now) (sym p) forms in
    record {
      falling = transport (λ structs. AreFalling m.types.now structs) (sym q) a;
      forms = transport (λ structs. AreForms m.types.now structs m.forms.now) (sym q) b;
    }

pub item_facts : (u : Closing) (p n : ℕ) (d : MonoItem) (fs : List TypedFunction) (g : TypedFunction) (calls : List ℕ) → IsTypedTree u.tree.now → IsClosing u → p < length u.items.now → fs ≡ (u.tree.now).functions → g ≡ get_or fs (get_or u.items.now p d).instance.function g → AreNumbers u p calls → n ≡ length g.locals → n < 2 ^ 32 → ItemCloses u p (get_or u.items.now p d) g calls
item_facts u p n d fs g calls typed is l same got numbers len low =
    let at : slice_get u.items.now p ≡ Some (get_or u.items.now p d) = slice_get-get_or u.items.now p d l in
    let room : (get_or u.items.now p d).instance.function < length (u.tree.now).functions = all_at (λ (y : MonoItem). y.instance.function < length (u.tree.now).functions) u.items.now p (get_or u.items.now p d) is.functions at in
    let read : g ≡ get_or (u.tree.now).functions (get_or u.items.now p d).instance.function g = got ∙ ap (λ (xs : List TypedFunction). get_or xs (get_or u.items.now p d).instance.function g) same in
    item_closes u p (get_or u.items.now p d) g calls typed is l at (slice_get_read (u.tree.now).functions (length (u.tree.now).functions) (get_or u.items.now p d).instance.function g refl room read) numbers (transport (λ (k : ℕ). k < 2 ^ 32) len low)

pub sight_same : (tree : Contents) (locals ws cs : List ℕ) (ns : List ℤ) (rows : List Row) (structs : List StructDecl) (consts : List TypedConst) (w l c : List ℕ) (n : List ℤ)
    → rows ≡ tree.rows → structs ≡ tree.structs → consts ≡ tree.consts → w ≡ ws → n ≡ ns → l ≡ locals → c ≡ cs
    → record { rows = rows; structs = structs; consts = consts; widths = w; numbers = n; locals = l; calls = c } ≡ sight_in tree locals ws ns cs
sight_same tree locals ws cs ns rows structs consts w l c n p q r s t u v = cc

-- the widths of the arguments, where they were made from the tables of the tree
pub widths_made : (tree : Contents) (rows : List Row) (structs : List StructDecl) (r : ℕ) (xs ys : List ℕ) → rows ≡ tree.rows → structs ≡ tree.structs → ys ≡ xs → xs ≡ list_widths rows structs [] (type_at rows r) → ys ≡ list_widths tree.rows tree.structs [] (type_at tree.rows r)
widths_made tree rows structs r xs ys p q e f = e ∙ f ∙ ap (λ (rs : List Row). list_widths rs structs [] (type_at rs r)) p ∙ ap (λ (ss : List StructDecl). list_widths tree.rows ss [] (type_at tree.rows r)) q

pub numbers_made : (tree : Contents) (rows : List Row) (r : ℕ) (xs ys : List ℤ) → rows ≡ tree.rows → ys ≡ xs → xs ≡ numbers_of (type_at rows r) → ys ≡ numbers_of (type_at tree.rows r)
numbers_made tree rows r xs ys p e f = e ∙ f ∙ ap (λ (rs : List Row). numbers_of (type_at rs r)) p

-- the whole of it
pub function_made : (a : Sight) (b : Sight) (u : Closing) (p : ℕ) (x : MonoItem) (g : TypedFunction) (calls : List ℕ) (symbol : List ℕ) (external : Bool) (r : PlainFn) → a ≡ b
    → (c : ItemCloses u p x g calls) → b ≡ sight_in u.tree.now g.locals (list_widths (u.tree.now).rows (u.tree.now).structs [] (type_at (u.tree.now).rows x.instance.arguments)) (numbers_of (type_at (u.tree.now).rows x.instance.arguments)) calls
    → symbol ≡ symbol_of u.tree.now x.instance → r ≡ made_fn a symbol external (function_view g) → r ≡ closed_item u.tree.now u.items.now (named_in u) external p
function_made a b u p x g calls symbol external r e c f s m =
    m ∙ ap (λ (y : Sight). made_fn y symbol external (function_view g)) (e ∙ f) ∙ (c.closes).same symbol external
    ∙ ap (λ (t : List ℕ). closed_function u.tree.now (named_in u) t external (type_at (u.tree.now).rows x.instance.arguments) (Some (function_map (type_at (u.tree.now).rows) (function_view g)))) s
    ∙ sym (c.item external)

-- ---- what is known of an item of another unit
take_map : {A B : Type 0} (g : A → B) (k : ℕ) (xs : List A) → map g (take k xs) ≡ take k (map g xs)
take_map g zero xs = refl
take_map g (suc k) [] = refl
take_map g (suc k) (x ∷ xs) = ap (λ ys. g x ∷ ys) (take_map g k xs)

pub record ItemKnown (u : Closing) (p : ℕ) (x : MonoItem) (g : TypedFunction) : Type 0 where
  pub row : IsRow (u.tree.now).rows x.instance.arguments
  pub few : count (type_at (u.tree.now).rows x.instance.arguments) ≤ 16
  pub outcome : IsRow (u.tree.now).rows g.outcome
  pub locals : AllByRecursion (IsRow (u.tree.now).rows) g.locals
  pub params : g.params ≤ length g.locals
  pub params_words : cut (words_at (u.tree.now).rows (u.tree.now).structs (list_widths (u.tree.now).rows (u.tree.now).structs [] (type_at (u.tree.now).rows x.instance.arguments)) (list_of (map (type_at (u.tree.now).rows) (take g.params g.locals)))) ≡ width_under u.tree.now (type_at (u.tree.now).rows x.instance.arguments) (list_of (take g.params (map (type_at (u.tree.now).rows) g.locals)))
  pub outcome_words : cut (words_at (u.tree.now).rows (u.tree.now).structs (list_widths (u.tree.now).rows (u.tree.now).structs [] (type_at (u.tree.now).rows x.instance.arguments)) (type_at (u.tree.now).rows g.outcome)) ≡ width_under u.tree.now (type_at (u.tree.now).rows x.instance.arguments) (type_at (u.tree.now).rows g.outcome)
  pub item : known_item u.tree.now u.items.now p ≡ known_function u.tree.now (symbol_of u.tree.now x.instance) (type_at (u.tree.now).rows x.instance.arguments) (Some (function_map (type_at (u.tree.now).rows) (function_view g)))

item_known : (u : Closing) (p : ℕ) (x : MonoItem) (g : TypedFunction) → IsTypedTree u.tree.now → IsClosing u → p < length u.items.now → slice_get u.items.now p ≡ Some x → slice_get (u.tree.now).functions x.instance.function ≡ Some g → length g.locals < 2 ^ 32 → ItemKnown u p x g
item_known u p x g typed is l at there small =
    let T : ℕ → TypeOf = type_at (u.tree.now).rows in
    let args : TypeOf = type_at (u.tree.now).rows x.instance.arguments in
    let f : PlainFunction = function_map (type_at (u.tree.now).rows) (function_view g) in
    let c : ItemCloses u p x g (map (λ (d : CallOf TypeOf). number_in (named_in u) (target d)) (calls_of (plain u.tree.now) (instance_at u.tree.now u.items.now p))) = item_closes u p x g _ typed is l at there refl small in
    let view : instance_at u.tree.now u.items.now p ≡ instance_view (u.tree.now).rows x.instance = ap (instance_if u.tree.now) at in
    let found : slice_get (plain u.tree.now).functions x.instance.function ≡ Some f =
    slice_get-map (function_map T) (map function_view (u.tree.now).functions) x.instance.function ∙ ap (option_map (function_map T)) (slice_get-map function_view (u.tree.now).functions x.instance.function ∙ ap (option_map function_view) there) in
    let q : IsLawful (plain u.tree.now) (instance_view (u.tree.now).rows x.instance) = transport (IsLawful (plain u.tree.now)) view (is.lawful_items p l) in
    let same : q.function ≡ f = some_same (sym q.there ∙ found) in
    let fit : fits (struct_sorts (plain u.tree.now).structs) [] args (these (function_view g).generics) ≡ true = transport (λ (h : PlainFunction). fits (struct_sorts (plain u.tree.now).structs) [] args (these h.generics) ≡ true) same q.fit in
    let function : IsFunction (plain u.tree.now) f = function_is_typed (plain u.tree.now) x.instance.function f typed.typed found in
    record {
      row = c.row;
      few = c.few;
      outcome = ((c.closes).ready).outcome;
      locals = ((c.closes).ready).locals;
      params = transport (λ (n : ℕ). g.params ≤ n) (length-map g.locals T) function.params_are_locals;
      params_words =
          ap (λ (ts : List TypeOf). cut (words_at (u.tree.now).rows (u.tree.now).structs (list_widths (u.tree.now).rows (u.tree.now).structs [] args) (list_of ts))) (take_map T g.params g.locals)
          ∙ width_agrees u.tree.now args (function_view g).generics typed fit (list_widths (u.tree.now).rows (u.tree.now).structs [] args) refl (list_of (take g.params (map T g.locals))) some_types (first_fit (struct_sorts (plain u.tree.now).structs) (function_view g).generics g.params (map T g.locals) function.lawful_locals);
      outcome_words = width_agrees u.tree.now args (function_view g).generics typed fit (list_widths (u.tree.now).rows (u.tree.now).structs [] args) refl (T g.outcome) (one of_type) function.lawful_outcome;
      item =
          ap (λ (o : Option MonoItem). known_function u.tree.now (symbol_if u.tree.now o) (instance_if u.tree.now o).arguments (function_in u.tree.now (instance_if u.tree.now o))) at
          ∙ ap (known_function u.tree.now (symbol_of u.tree.now x.instance) args) found;
    }
  where
    some_same : {A : Type 0} {y z : A} → Some y ≡ Some z → y ≡ z
    some_same e = cc

pub known_facts : (u : Closing) (p n : ℕ) (d : MonoItem) (fs : List TypedFunction) (g : TypedFunction) → IsTypedTree u.tree.now → IsClosing u → p < length u.items.now → fs ≡ (u.tree.now).functions → g ≡ get_or fs (get_or u.items.now p d).instance.function g → n ≡ length g.locals → n < 2 ^ 32 → ItemKnown u p (get_or u.items.now p d) g
known_facts u p n d fs g typed is l same got len low =
    let at : slice_get u.items.now p ≡ Some (get_or u.items.now p d) = slice_get-get_or u.items.now p d l in
    let room : (get_or u.items.now p d).instance.function < length (u.tree.now).functions = all_at (λ (y : MonoItem). y.instance.function < length (u.tree.now).functions) u.items.now p (get_or u.items.now p d) is.functions at in
    let read : g ≡ get_or (u.tree.now).functions (get_or u.items.now p d).instance.function g = got ∙ ap (λ (xs : List TypedFunction). get_or xs (get_or u.items.now p d).instance.function g) same in
    item_known u p (get_or u.items.now p d) g typed is l at (slice_get_read (u.tree.now).functions (length (u.tree.now).functions) (get_or u.items.now p d).instance.function g refl room read) (transport (λ (k : ℕ). k < 2 ^ 32) len low)

pub row_moved : (tree : Contents) (rows : List Row) (r : ℕ) → rows ≡ tree.rows → IsRow tree.rows r → IsRow rows r
row_moved tree rows r e h = transport (λ (rs : List Row). IsRow rs r) (sym e) h

pub rows_moved : (tree : Contents) (rows : List Row) (ls : List ℕ) → rows ≡ tree.rows → AllByRecursion (IsRow tree.rows) ls → AllByRecursion (IsRow rows) ls
rows_moved tree rows ls e h = transport (λ (rs : List Row). AllByRecursion (IsRow rs) ls) (sym e) h

abbrev the_external : List ℕ → ℕ → ℕ → PlainExternal
the_external symbol a b = record { symbol = symbol; params = a; «result» = b }

pub item_made : (u : Closing) (p : ℕ) (x : MonoItem) (g : TypedFunction) (rows : List Row) (structs : List StructDecl) (ws ls : List ℕ) (symbol : List ℕ) (a b : ℕ) → ItemKnown u p x g → rows ≡ (u.tree.now).rows → structs ≡ (u.tree.now).structs → ws ≡ list_widths (u.tree.now).rows (u.tree.now).structs [] (type_at (u.tree.now).rows x.instance.arguments) → ls ≡ g.locals → symbol ≡ symbol_of u.tree.now x.instance
    → a ≡ cut (words_at rows structs ws (list_of (map (type_at rows) (take g.params ls)))) → b ≡ cut (words_at rows structs ws (type_at rows g.outcome))
    → the_external symbol a b ≡ known_item u.tree.now u.items.now p
item_made u p x g rows structs ws ls symbol a b k e f w v s ma mb =
    let pa : a ≡ width_under u.tree.now (type_at (u.tree.now).rows x.instance.arguments) (list_of (take g.params (map (type_at (u.tree.now).rows) g.locals))) =
    ma ∙ ap (λ (rs : List Row). cut (words_at rs structs ws (list_of (map (type_at rs) (take g.params ls))))) e ∙ ap (λ (ss : List StructDecl). cut (words_at (u.tree.now).rows ss ws (list_of (map (type_at (u.tree.now).rows) (take g.params ls))))) f
    ∙ ap (λ (ns : List ℕ). cut (words_at (u.tree.now).rows (u.tree.now).structs ns (list_of (map (type_at (u.tree.now).rows) (take g.params ls))))) w ∙ ap (λ (ns : List ℕ). cut (words_at (u.tree.now).rows (u.tree.now).structs (list_widths (u.tree.now).rows (u.tree.now).structs [] (type_at (u.tree.now).rows x.instance.arguments)) (list_of (map (type_at (u.tree.now).rows) (take g.params ns))))) v ∙ k.params_words in
    let pb : b ≡ width_under u.tree.now (type_at (u.tree.now).rows x.instance.arguments) (type_at (u.tree.now).rows g.outcome) =
    mb ∙ ap (λ (rs : List Row). cut (words_at rs structs ws (type_at rs g.outcome))) e ∙ ap (λ (ss : List StructDecl). cut (words_at (u.tree.now).rows ss ws (type_at (u.tree.now).rows g.outcome))) f ∙ ap (λ (ns : List ℕ). cut (words_at (u.tree.now).rows (u.tree.now).structs ns (type_at (u.tree.now).rows g.outcome))) w ∙ k.outcome_words in
    ap (λ (t : List ℕ). record { symbol = t; params = a; «result» = b }) s
    ∙ ap (λ (n : ℕ). record { symbol = symbol_of u.tree.now x.instance; params = n; «result» = b }) pa
    ∙ ap (λ (n : ℕ). record { symbol = symbol_of u.tree.now x.instance; params = width_under u.tree.now (type_at (u.tree.now).rows x.instance.arguments) (list_of (take g.params (map (type_at (u.tree.now).rows) g.locals))); «result» = n }) pb
    ∙ sym k.item
