-- The input of a unit keeps the rules of inputs.
use Rattle.std.proofs.Common.{◌≡◌, ℕ, zero, suc, ◌+◌, ◌<◌, ◌≤◌, ◌^◌, List, [], ◌∷◌, ◌++◌, length, map, take, refl, sym, ap, ◌∙◌, subst as transport, arith, Bool, true, false, Option, Some, None}
use Rattle.std.specs.Prelude.{slice_get, sum}
use Rattle.std.specs.List.{list_all, AllByRecursion, IsDistinct}
use Rattle.std.specs.Str.{bytes_eq}
use Rattle.std.proofs.lemmas.Bool.{le-leb}
use Rattle.std.proofs.lemmas.List.{length-map, length-append}
use Rattle.std.proofs.lemmas.List.Sums.{sum_by-cons}
use Rattle.std.proofs.lemmas.List.Elements.{recursion_from_All}
use Rattle.std.proofs.lemmas.Option.{slice_get-get_or}
use Rattle.type_table.specs.TypeOf.{TypeOf}
use Rattle.type_table.specs.Lawful.{these, fits}
use Rattle.lar_typed.specs.Lawful.{struct_sorts}
use Rattle.lar_typed.specs.SameType.{list_of}
use Rattle.lar_typed.specs.declared.tree.TypedFunction.{TypedFunction}
use Rattle.lar_typed.specs.Size.{stmts_size}
use Rattle.lar_typed.specs.Trees.{PlainFunction}
use Rattle.lar_typed.specs.TreeView.{Contents, plain, IsTypedTree}
use Rattle.lar_typed.specs.IsTyped.{IsFunction}
use Rattle.lar_typed.proofs.SameTypes.{both_true}
use Rattle.mono_items.specs.declared.items.MonoItem.{MonoItem}
use Rattle.mono_items.specs.declared.items.MonoGraph.{MonoGraph}
use Rattle.mono_items.specs.declared.items.UnitPlan.{UnitPlan}
use Rattle.mono_items.specs.Units.{IsGraph}
use Rattle.mono_graph.specs.Instances.{PlainInstance}
use Rattle.mono_graph.specs.Graphs.{IsGraphOf}
use Rattle.mono_graph.proofs.Read.{get_before, get_behind}
use Rattle.unit_input.specs.Stmts.{stmts_total}
use Rattle.unit_input.specs.Inputs.{PlainFn, PlainExternal, PlainInput}
use Rattle.unit_input.specs.Widths.{Signature, cut, fn_signature, external_signature, callees_of, scope_of}
use Rattle.unit_input.specs.Rules.{is_width, IsSymbol, IsFn, IsExternal, symbols_of, IsInput}
use Rattle.closed_input.specs.Places.{words_under, width_under}
use Rattle.closed_input.specs.Bodies.{closed_stmts}
use Rattle.closed_input.specs.Unit.{symbol_if, symbol_at, instance_at, own, externals, callees, setting_of, closed_function, function_in, closed_item, known_function, known_item, IsPlanned, input}
use Rattle.closed_input.specs.Held.{IsHeldFn, IsHeldExternal, IsHeld}
use Rattle.closed_input.proofs.Fitting.{function_is_typed}
use Rattle.closed_input.proofs.Words.{cut_sum, cut_twice, cut_low, words_more, words_end}
use Rattle.closed_input.proofs.Callees.{signature_by, signature_at}
use Rattle.closed_input.proofs.Stated.{stmts_total_low, stmts_keep}
use Rattle.closed_input.proofs.Distinct.{all_append, all_front, all_back, all_at}
use Rattle.closed_input.proofs.Listed.{own_inside, named_inside, named_few, symbols_once}
use Rattle.closed_input.specs.Lawful.{IsLawful}
use Rattle.closed_input.proofs.Numbered.{item_lawful, calls_numbered}
use Rattle.closed_input.proofs.Signed.{symbol_signs, symbol_some}

-- ---- lists
map_append : {A B : Type 0} (g : A → B) (xs ys : List A) → map g (xs ++ ys) ≡ map g xs ++ map g ys
map_append g [] ys = refl
map_append g (x ∷ xs) ys = ap (λ zs. g x ∷ zs) (map_append g xs ys)

map_map : {A B C : Type 0} (h : B → C) (g : A → B) (k : A → C) (xs : List A) → ((x : A) → h (g x) ≡ k x) → map h (map g xs) ≡ map k xs
map_map h g k [] e = refl
map_map h g k (x ∷ xs) e = ap (λ y. y ∷ map h (map g xs)) (e x) ∙ ap (λ ys. k x ∷ ys) (map_map h g k xs e)

-- what is told of three lists is told of them as one
map_three : {A B C : Type 0} (h : B → C) (g1 g2 : A → B) (k : A → C) (xs ys : List A) → ((x : A) → h (g1 x) ≡ k x) → ((x : A) → h (g2 x) ≡ k x) → map h (map g1 xs ++ map g2 ys) ≡ map k (xs ++ ys)
map_three h g1 g2 k xs ys p q = map_append h (map g1 xs) (map g2 ys) ∙ ap (λ zs. zs ++ map h (map g2 ys)) (map_map h g1 k xs p) ∙ ap (λ zs. map k xs ++ zs) (map_map h g2 k ys q) ∙ sym (map_append k xs ys)

-- ---- one function
sum_words : (tree : Contents) (args : TypeOf) (k : ℕ) (ts : List TypeOf) → cut (sum (take k (map (width_under tree args) ts))) ≡ width_under tree args (list_of (take k ts))
sum_words tree args zero ts = ap cut (sym (words_end tree args))
sum_words tree args (suc k) [] = ap cut (sym (words_end tree args))
sum_words tree args (suc k) (t ∷ ts) =
    let rest : cut (sum (take k (map (width_under tree args) ts))) ≡ width_under tree args (list_of (take k ts)) = sum_words tree args k ts in
    ap cut (sum_by-cons (λ (n : ℕ). n) (width_under tree args t) (take k (map (width_under tree args) ts)))
    ∙ cut_sum (width_under tree args t) (sum (take k (map (width_under tree args) ts))) (words_under tree args t) (words_under tree args (list_of (take k ts))) (cut_twice (words_under tree args t)) rest
    ∙ sym (ap cut (words_more tree args t (list_of (take k ts))))

widths_low : (tree : Contents) (args : TypeOf) (ts : List TypeOf) → list_all is_width (map (width_under tree args) ts) ≡ true
widths_low tree args [] = refl
widths_low tree args (t ∷ ts) = both_true (is_width (width_under tree args t)) (list_all is_width (map (width_under tree args) ts)) (le-leb (width_under tree args t) 256 (cut_low (words_under tree args t))) (widths_low tree args ts)

signed_function : (tree : Contents) (us : List PlainInstance) (symbol : List ℕ) (b : Bool) (args : TypeOf) (o : Option PlainFunction) → fn_signature (closed_function tree us symbol b args o) ≡ signature_by tree args o
signed_function tree us symbol b args None = refl
signed_function tree us symbol b args (Some f) = ap (λ (n : ℕ). record { params = n; «result» = width_under tree args f.outcome }) (sum_words tree args f.params f.locals)

signed_known : (tree : Contents) (symbol : List ℕ) (args : TypeOf) (o : Option PlainFunction) → external_signature (known_function tree symbol args o) ≡ signature_by tree args o
signed_known tree symbol args None = refl
signed_known tree symbol args (Some f) = refl

symbol_of_function : (tree : Contents) (us : List PlainInstance) (symbol : List ℕ) (b : Bool) (args : TypeOf) (o : Option PlainFunction) → (closed_function tree us symbol b args o).symbol ≡ symbol
symbol_of_function tree us symbol b args None = refl
symbol_of_function tree us symbol b args (Some f) = refl

symbol_of_known : (tree : Contents) (symbol : List ℕ) (args : TypeOf) (o : Option PlainFunction) → (known_function tree symbol args o).symbol ≡ symbol
symbol_of_known tree symbol args None = refl
symbol_of_known tree symbol args (Some f) = refl

known_low : (tree : Contents) (symbol : List ℕ) (args : TypeOf) (o : Option PlainFunction) → ((known_function tree symbol args o).params ≤ 256) × ((known_function tree symbol args o).«result» ≤ 256)
known_low tree symbol args None = (omega arith, omega arith)
known_low tree symbol args (Some f) = (cut_low (words_under tree args (list_of (take f.params f.locals))), cut_low (words_under tree args f.outcome))

module _ (tree : Contents) (graph : MonoGraph) (plan : UnitPlan) (level : ℕ) (low : level ≤ 2) (typed : IsTypedTree tree) (is : IsGraph tree graph) (of : IsGraphOf tree graph) (planned : IsPlanned graph plan) where
  abbrev Items : List MonoItem
  Items = graph.items.items

  abbrev Us : List PlainInstance
  Us = callees tree graph plan

  abbrev Ext : List ℕ
  Ext = externals tree graph plan

  abbrev Item : Bool → ℕ → PlainFn
  Item b p = closed_item tree graph.items.items (callees tree graph plan) b p

  abbrev Known : ℕ → PlainExternal
  Known p = known_item tree graph.items.items p

  abbrev Symbol : ℕ → List ℕ
  Symbol p = symbol_at tree graph.items.items p

  -- the input, as its definition has it
  abbrev X : PlainInput
  X = record { level = level; functions = map (Item true) plan.home.items ++ map (Item false) plan.copies.items; externals = map Known Ext }

  -- ---- symbols
  symbol_there : (p : ℕ) (o : Option MonoItem) → slice_get Items p ≡ o → p < length Items → length (symbol_if tree o) < 2 ^ 32 → IsSymbol (symbol_if tree o)
  symbol_there p None e l short = absurd (absent e)
    where
      absent : slice_get Items p ≡ None → ⊥
      absent g = none_some (sym (slice_get-get_or Items p (get_default Items p l) l) ∙ g)
        where
          none_some : {A : Type 0} {x : A} → Some x ≡ None → ⊥
          none_some z = cc

          get_default : (xs : List MonoItem) (k : ℕ) → k < length xs → MonoItem
          get_default [] k r = absurd (omega arith)
          get_default (y ∷ ys) k r = y
  symbol_there p (Some x) e l short =
      let there : x.instance.function < length tree.functions = all_at (λ (y : MonoItem). y.instance.function < length tree.functions) Items p x (recursion_from_All (λ (y : MonoItem). y.instance.function < length tree.functions) Items is.functions) e in
      record {
        some = some_by tree.functions refl there;
        short = short;
        signs = symbol_signs tree x.instance typed;
      }
    where
      some_by : (fs : List TypedFunction) → fs ≡ tree.functions → x.instance.function < length tree.functions → 0 < length (symbol_if tree (Some x))
      some_by [] g r = absurd (let n : 0 ≡ length tree.functions = ap length g in omega arith)
      some_by (f ∷ fs) g r = symbol_some tree x.instance _ (slice_get-get_or tree.functions x.instance.function f r)

  item_symbol : (p : ℕ) → p < length Items → length (Symbol p) < 2 ^ 32 → IsSymbol (Symbol p)
  item_symbol p l short = symbol_there p (slice_get Items p) refl l short

  same_symbols : symbols_of X ≡ map Symbol (own plan ++ Ext)
  same_symbols =
      ap (λ (ss : List (List ℕ)). ss ++ map (λ (e : PlainExternal). e.symbol) (map Known Ext)) (map_three (λ (f : PlainFn). f.symbol) (Item true) (Item false) Symbol plan.home.items plan.copies.items
      (λ p. symbol_of_function tree Us (Symbol p) true (instance_at tree Items p).arguments (function_in tree (instance_at tree Items p)))
      (λ p. symbol_of_function tree Us (Symbol p) false (instance_at tree Items p).arguments (function_in tree (instance_at tree Items p))))
      ∙ ap (λ (ss : List (List ℕ)). map Symbol (own plan) ++ ss) (map_map (λ (e : PlainExternal). e.symbol) Known Symbol Ext (λ p. symbol_of_known tree (Symbol p) (instance_at tree Items p).arguments (function_in tree (instance_at tree Items p))))
      ∙ sym (map_append Symbol (own plan) Ext)

  -- ---- signatures
  same_callees : callees_of X ≡ map (signature_at tree) Us
  same_callees =
      ap (λ (ss : List Signature). ss ++ map external_signature (map Known Ext)) (map_three fn_signature (Item true) (Item false) (λ p. signature_at tree (instance_at tree Items p)) plan.home.items plan.copies.items
      (λ p. signed_function tree Us (Symbol p) true (instance_at tree Items p).arguments (function_in tree (instance_at tree Items p)))
      (λ p. signed_function tree Us (Symbol p) false (instance_at tree Items p).arguments (function_in tree (instance_at tree Items p))))
      ∙ ap (λ (ss : List Signature). map (λ p. signature_at tree (instance_at tree Items p)) (own plan) ++ ss) (map_map external_signature Known (λ p. signature_at tree (instance_at tree Items p)) Ext (λ p. signed_known tree (Symbol p) (instance_at tree Items p).arguments (function_in tree (instance_at tree Items p))))
      ∙ sym (map_append (λ p. signature_at tree (instance_at tree Items p)) (own plan) Ext)
      ∙ sym (map_map (signature_at tree) (instance_at tree Items) (λ p. signature_at tree (instance_at tree Items p)) (own plan ++ Ext) (λ p. refl))

  us_few : length Us < 2 ^ 32
  us_few =
      let few : length (own plan ++ Ext) ≤ 65536 = named_few tree graph plan is planned in
      let len : length Us ≡ length (own plan ++ Ext) = length-map (own plan ++ Ext) (instance_at tree Items) in
      omega arith

  -- ---- functions
  fn_keeps : (b : Bool) (i p : ℕ) (o : Option PlainFunction) → slice_get (own plan) i ≡ Some p → p < length Items → function_in tree (instance_at tree Items p) ≡ o
      → IsHeldFn (closed_function tree Us (Symbol p) b (instance_at tree Items p).arguments o)
      → IsFn (scope_of X (closed_function tree Us (Symbol p) b (instance_at tree Items p).arguments o)) (closed_function tree Us (Symbol p) b (instance_at tree Items p).arguments o)
  fn_keeps b i p None at l e held = absurd (absent (item_lawful tree graph p typed of l))
    where
      absent : IsLawful (plain tree) (instance_at tree Items p) → ⊥
      absent q = none_some (sym q.there ∙ e)
        where
          none_some : {A : Type 0} {x : A} → Some x ≡ None → ⊥
          none_some z = cc
  fn_keeps b i p (Some f) at l e held =
      let q : IsLawful (plain tree) (instance_at tree Items p) = item_lawful tree graph p typed of l in
      let args : TypeOf = (instance_at tree Items p).arguments in
      let same : q.function ≡ f = some_same (sym q.there ∙ e) in
      let is_f : IsFunction (plain tree) f = function_is_typed (plain tree) (instance_at tree Items p).function f typed.typed e in
      let few : f.params ≤ 16 = is_f.few_params in
      let total : stmts_total (closed_stmts (setting_of tree Us args f) f.body) ≤ stmts_size f.body = stmts_total_low (setting_of tree Us args f) f.body in
      let small : stmts_size f.body ≤ 16777216 = is_f.small in
      record {
        symbol = item_symbol p l held.symbol;
        «result» = cut_low (words_under tree args f.outcome);
        params = omega arith;
        params_are_locals = transport (λ (n : ℕ). f.params ≤ n) (sym (length-map f.locals (width_under tree args))) is_f.params_are_locals;
        local_count = held.locals;
        locals = widths_low tree args f.locals;
        statements = omega arith;
        body = stmts_keep tree typed f is_f args (transport (λ (g : PlainFunction). fits (struct_sorts (plain tree).structs) [] args (these g.generics) ≡ true) same q.fit) Us (scope_of X (closed_function tree Us (Symbol p) b args (Some f)))
            (record { locals = refl; callees = same_callees; few = us_few; «result» = refl }) f.body is_f.lawful_body (calls_numbered tree graph plan is of planned i p f at l e) held.body;
      }
    where
      some_same : {A : Type 0} {x y : A} → Some x ≡ Some y → x ≡ y
      some_same z = cc

  fns_keep : (b : Bool) (ps : List ℕ) → ((j p : ℕ) → slice_get ps j ≡ Some p → (i : ℕ) × (slice_get (own plan) i ≡ Some p)) → AllByRecursion IsHeldFn (map (Item b) ps) → AllByRecursion (λ f. IsFn (scope_of X f) f) (map (Item b) ps)
  fns_keep b [] at held = tt
  fns_keep b (p ∷ ps) at held =
      let i : (i : ℕ) × (slice_get (own plan) i ≡ Some p) = at 0 p refl in
      (fn_keeps b i.0 p (function_in tree (instance_at tree Items p)) i.1 (all_at (λ (q : ℕ). q < length Items) (own plan) i.0 p (own_inside tree graph plan is planned) i.1) refl held.0, fns_keep b ps (λ j q e. at (suc j) q e) held.1)

  externals_keep : (ps : List ℕ) → AllByRecursion (λ p. p < length Items) ps → AllByRecursion IsHeldExternal (map Known ps) → AllByRecursion IsExternal (map Known ps)
  externals_keep [] l held = tt
  externals_keep (p ∷ ps) l held =
      let args : TypeOf = (instance_at tree Items p).arguments in
      let o : Option PlainFunction = function_in tree (instance_at tree Items p) in
      let low_by = known_low tree (Symbol p) args o in
      let same : (known_function tree (Symbol p) args o).symbol ≡ Symbol p = symbol_of_known tree (Symbol p) args o in (
        record {
          symbol = transport IsSymbol (sym same) (item_symbol p l.0 (transport (λ (s : List ℕ). length s < 2 ^ 32) same (held.0).symbol));
          params = low_by.0;
          «result» = low_by.1;
        },
        externals_keep ps l.1 held.1,
      )

  input_keeps : IsHeld X → IsInput X
  input_keeps held =
      let few : length (own plan ++ Ext) ≤ 65536 = named_few tree graph plan is planned in
      let len : length (own plan ++ Ext) ≡ length (own plan) + length Ext = length-append (own plan) Ext in
      let count : length X.functions ≡ length (own plan) = counted in
      let count_ext : length X.externals ≡ length Ext = length-map Ext Known in
      record {
        level = low;
        function_count = omega arith;
        external_count = omega arith;
        distinct = transport (IsDistinct bytes_eq) (sym same_symbols) (symbols_once tree graph plan is planned);
        functions = all_append (λ (f : PlainFn). IsFn (scope_of X f) f) (map (Item true) plan.home.items) (map (Item false) plan.copies.items)
            (fns_keep true plan.home.items (λ j p e. (j, get_before plan.home.items plan.copies.items j p e)) (all_front IsHeldFn (map (Item true) plan.home.items) (map (Item false) plan.copies.items) held.functions))
            (fns_keep false plan.copies.items (λ j p e. (length plan.home.items + j, get_behind plan.home.items plan.copies.items j ∙ e)) (all_back IsHeldFn (map (Item true) plan.home.items) (map (Item false) plan.copies.items) held.functions));
        externals = externals_keep Ext (all_back (λ (p : ℕ). p < length Items) (own plan) Ext (named_inside tree graph plan is planned)) held.externals;
      }
    where
      counted : length X.functions ≡ length (own plan)
      counted =
          let a : length (map (Item true) plan.home.items ++ map (Item false) plan.copies.items) ≡ length (map (Item true) plan.home.items) + length (map (Item false) plan.copies.items) = length-append (map (Item true) plan.home.items) (map (Item false) plan.copies.items) in
          let b : length (map (Item true) plan.home.items) ≡ length plan.home.items = length-map plan.home.items (Item true) in
          let c : length (map (Item false) plan.copies.items) ≡ length plan.copies.items = length-map plan.copies.items (Item false) in
          let d : length (plan.home.items ++ plan.copies.items) ≡ length plan.home.items + length plan.copies.items = length-append plan.home.items plan.copies.items in
          omega arith

-- The input of a unit that a machine holds keeps the rules.
pub kept : (tree : Contents) (graph : MonoGraph) (plan : UnitPlan) (level : ℕ) → level ≤ 2 → IsTypedTree tree → IsGraph tree graph → IsGraphOf tree graph → IsPlanned graph plan → IsHeld (input tree graph plan level) → IsInput (input tree graph plan level)
unfolding input
kept tree graph plan level low typed is of planned held = input_keeps tree graph plan level low typed is of planned held
