-- A program's graph can be placed in units.
use Rattle.std.proofs.Common.{◌≡◌, ℕ, zero, suc, ◌<◌, ◌≤◌, List, [], ◌∷◌, length, map, get_or, refl, sym, ap, ◌∙◌, subst as transport, arith, Bool, true, false, ◌&&◌, ⊎_elim, Option, Some, None, option_map}
use Rattle.std.specs.Prelude.{slice_get, nat_eq, All, Vec}
use Rattle.std.specs.Global.{Global}
use Rattle.std.specs.List.{AllByRecursion, IsDistinct}
use Rattle.std.proofs.lemmas.Bool.{cases_lt}
use Rattle.std.proofs.lemmas.List.{length-map}
use Rattle.std.proofs.lemmas.List.Elements.{All-from_recursion}
use Rattle.std.proofs.lemmas.Map.Keys.{apart_from_distinct}
use Rattle.std.proofs.lemmas.Option.{slice_get-map, slice_get_within, get_or_from_slice_get}
use Rattle.type_table.specs.declared.row.Row.{Row}
use Rattle.type_table.specs.declared.row.Row.TheVariants.{Int, Bool as Boolean, Param, Number, End, More, Tuple, Struct}
use Rattle.type_table.specs.TypeOf.{TypeOf}
use Rattle.type_table.specs.Rows.{IsTable, Names, row_at, type_at, type_of, types}
use Rattle.type_table.proofs.Views.{row_stands, equal_numbers}
use Rattle.text_order.specs.TextOrder.{text_at, AreApart}
use Rattle.lar_typed.specs.Calls.{CallOf}
use Rattle.lar_typed.specs.IsTyped.{IsFunction}
use Rattle.lar_typed.specs.Lawful.{struct_sorts, type_generics}
use Rattle.lar_typed.specs.Trees.{PlainTree, PlainStruct, PlainFunction}
use Rattle.lar_typed.specs.TreeView.{Contents, IsTypedTree, plain}
use Rattle.mono_items.specs.declared.items.Instance.{Instance}
use Rattle.mono_items.specs.declared.items.MonoItem.{MonoItem}
use Rattle.mono_items.specs.declared.items.MonoGraph.{MonoGraph}
use Rattle.mono_items.specs.Symbols.{symbol_of}
use Rattle.mono_items.specs.Units.{symbols_of, IsGraph}
use Rattle.mono_graph.specs.Instances.{PlainInstance, same_instance, instance_view, target, calls_of, plain_instance, root_places, roots}
use Rattle.mono_graph.specs.Graphs.{max_instances, SaysIf, IsItem, instances, targets, placed, IsGraphOf}
use Rattle.mono_graph.proofs.RootPlaces.{few_places, places_once}
use Rattle.graph_laws.specs.Closed.{IsClosed}
use Rattle.graph_laws.specs.Numbers.{SmallRow, AreSmall, SmallType}
use Rattle.graph_laws.proofs.Bytes.{IsPart, module_parts}
use Rattle.graph_laws.proofs.Closing.{closed_found}
use Rattle.graph_laws.proofs.Fitting.{arguments_are}
use Rattle.graph_laws.proofs.Reading.{found_few, found_distinct}
use Rattle.graph_laws.proofs.Same.{is_same}
use Rattle.graph_laws.proofs.Symbols.{symbols_tell}
use Rattle.graph_laws.proofs.Texts.{AreItems}
use Rattle.graph_laws.proofs.TreeParts.{paths_are, FunctionAt, function_at, functions_length, structs_length, some_at}

-- ---- numbers
small_by : (rows : List Row) (i : ℕ) (r : Row) → ((k : ℕ) → k < i → SmallType (type_at rows k)) → Names i r → SmallRow r → SmallType (type_of (types rows) r)
unfolding type_at
small_by rows i Int h n s = tt
small_by rows i Boolean h n s = tt
small_by rows i (Param k) h n s = tt
small_by rows i (Number v) h n s = s
small_by rows i End h n s = tt
small_by rows i (More a b) h n s = (h a n.0, h b n.1)
small_by rows i (Tuple a) h n s = h a n
small_by rows i (Struct k a) h n s = h a n

small_below : (rows : List Row) → IsTable rows → AreSmall rows → (n i : ℕ) → i < n → i < length rows → SmallType (type_at rows i)
small_below rows table small zero i l room = absurd (omega arith)
small_below rows table small (suc n) i l room = transport SmallType (sym (row_stands rows i table room)) (small_by rows i (row_at rows i) (λ k lt. small_below rows table small n k (omega arith) (omega arith)) (table.earlier i room) (small.each i room))

pub small_type : (rows : List Row) → IsTable rows → AreSmall rows → (i : ℕ) → i < length rows → SmallType (type_at rows i)
small_type rows table small i room = small_below rows table small (suc i) i (omega arith) room

-- ---- roots
roots_distinct : (ks : List ℕ) → IsDistinct nat_eq ks → IsDistinct same_instance (map plain_instance ks)
unfolding IsDistinct
roots_distinct [] h = h
roots_distinct (k ∷ ks) h = (apart ks h.0, roots_distinct ks h.1)
  where
    and_false : (b : Bool) → b ≡ false → (b && true) ≡ false
    and_false true e = cc
    and_false false e = refl

    apart : (js : List ℕ) → AllByRecursion (λ j. nat_eq k j ≡ false) js → AllByRecursion (λ y. same_instance (plain_instance k) y ≡ false) (map plain_instance js)
    apart [] g = tt
    apart (j ∷ js) g = (and_false (nat_eq k j) g.0, apart js g.1)

pub roots_once : (tree : PlainTree) → IsDistinct same_instance (roots tree)
unfolding roots
roots_once tree = roots_distinct (root_places tree.functions) (places_once tree.functions)

pub roots_few : (tree : PlainTree) → length tree.functions ≤ 65535 → length (roots tree) ≤ max_instances
unfolding roots
roots_few tree h =
    let a : length (map plain_instance (root_places tree.functions)) ≡ length (root_places tree.functions) = length-map (root_places tree.functions) plain_instance in
    let b = few_places tree.functions in
    omega arith

-- ---- the graph
all_from : {A : Type 0} (P Q : A → Type 0) → ((x : A) → P x → Q x) → (xs : List A) → AllByRecursion P xs → AllByRecursion Q xs
all_from P Q f [] h = tt
all_from P Q f (x ∷ xs) h = (f x h.0, all_from P Q f xs h.1)

all_got : {A : Type 0} (P : A → Type 0) (xs : List A) (i : ℕ) (x : A) → AllByRecursion P xs → slice_get xs i ≡ Some x → P x
all_got P [] i x h e = cc
all_got P (y ∷ xs) zero x h e = let same : y ≡ x = cc in transport P same h.0
all_got P (y ∷ xs) (suc i) x h e = all_got P xs i x h.1 e

says_there : (o : Option PlainFunction) (fs : List PlainFunction) (k : ℕ) (x : MonoItem) → slice_get fs k ≡ o → SaysIf o x → k < length fs
says_there None fs k x at h = absurd h
says_there (Some f) fs k x at h = slice_get_within fs k f at

row_inside : (us : List PlainInstance) (row : List ℕ) (cs : List (CallOf TypeOf)) → map (slice_get us) row ≡ map (λ c. Some (target c)) cs → AllByRecursion (λ p. p < length us) row
row_inside us [] cs e = tt
row_inside us (p ∷ row) [] e = cc
row_inside us (p ∷ row) (c ∷ cs) e =
    let first : slice_get us p ≡ Some (target c) = cc in
    let rest : map (slice_get us) row ≡ map (λ c. Some (target c)) cs = cc in
    (slice_get_within us p (target c) first, row_inside us row cs rest)

rows_inside : (tree : PlainTree) (us : List PlainInstance) (rows : List (Vec ℕ Global)) (xs : List PlainInstance) (n : ℕ) → length us ≡ n → placed us rows ≡ targets tree xs → AllByRecursion (λ (row : Vec ℕ Global). All (λ t. t < n) row.items) rows
rows_inside tree us [] xs n l e = tt
rows_inside tree us (r ∷ rows) [] n l e = cc
rows_inside tree us (r ∷ rows) (x ∷ xs) n l e =
    let first : map (slice_get us) r.items ≡ map (λ c. Some (target c)) (calls_of tree x) = cc in
    let rest : placed us rows ≡ targets tree xs = cc in
    (transport (λ (m : ℕ). All (λ t. t < m) r.items) l (All-from_recursion (λ t. t < length us) r.items (row_inside us r.items (calls_of tree x) first)), rows_inside tree us rows xs n l rest)

module _ (tree : Contents) (typed : IsTypedTree tree) (table : IsTable tree.rows) (small : AreSmall tree.rows) (graph : MonoGraph) (g : IsGraphOf tree graph) where
  few_roots : length (roots (plain tree)) ≤ max_instances
  few_roots = roots_few (plain tree) (typed.typed).few_functions

  count : length (instances tree graph.items.items) ≡ length graph.items.items
  count = length-map graph.items.items (λ x. instance_view tree.rows x.instance)

  closed : AllByRecursion (λ x. IsClosed (plain tree) x) (instances tree graph.items.items)
  closed = closed_found (plain tree) typed.typed max_instances (g.found).count (instances tree graph.items.items) (g.found).read

  sorts_length : length (struct_sorts (plain tree).structs) ≡ length tree.structs
  sorts_length = length-map (plain tree).structs (λ (s : PlainStruct). type_generics s.generics) ∙ structs_length tree typed

  -- an item at a place, and what is known of it
  record At (i : ℕ) : Type 0 where
    x : MonoItem
    there : slice_get graph.items.items i ≡ Some x
    view_there : slice_get (instances tree graph.items.items) i ≡ Some (instance_view tree.rows x.instance)
    function : x.instance.function < length tree.functions
    arguments : AreItems tree.structs (paths_are tree typed) (type_at tree.rows x.instance.arguments)

  at : (i : ℕ) → i < length graph.items.items → At i
  at i l =
      let x = some_at graph.items.items i l in
      let view : slice_get (instances tree graph.items.items) i ≡ Some (instance_view tree.rows x.0.instance) = slice_get-map (λ (y : MonoItem). instance_view tree.rows y.instance) graph.items.items i ∙ ap (λ (o : Option MonoItem). option_map (λ (y : MonoItem). instance_view tree.rows y.instance) o) x.1 in
      let c : IsClosed (plain tree) (instance_view tree.rows x.0.instance) = all_got (λ y. IsClosed (plain tree) y) (instances tree graph.items.items) i (instance_view tree.rows x.0.instance) closed view in
      let here : x.0.instance.function < length tree.functions = transport (λ (n : ℕ). x.0.instance.function < n) (functions_length tree typed) c.there in
      let f : FunctionAt tree typed x.0.instance.function = function_at tree typed x.0.instance.function here in
      let row : x.0.instance.arguments < length tree.rows = all_got (λ (y : MonoItem). y.instance.arguments < length tree.rows) graph.items.items i x.0 g.arguments x.1 in
      record {
        x = x.0;
        there = x.1;
        view_there = view;
        function = here;
        arguments = arguments_are tree.structs (paths_are tree typed) (struct_sorts (plain tree).structs) sorts_length (type_at tree.rows x.0.instance.arguments) _ (c.arguments _ f.plain_there) (small_type tree.rows table small x.0.instance.arguments row);
      }

  symbol_at : (i : ℕ) (a : At i) → text_at (symbols_of tree graph.items.items) i ≡ symbol_of tree a.x.instance
  symbol_at i a = get_or_from_slice_get (symbols_of tree graph.items.items) i (symbol_of tree a.x.instance) [] (slice_get-map (λ (y : MonoItem). symbol_of tree y.instance) graph.items.items i ∙ ap (λ (o : Option MonoItem). option_map (λ (y : MonoItem). symbol_of tree y.instance) o) a.there)

  once : IsDistinct same_instance (instances tree graph.items.items)
  once = found_distinct (calls_of (plain tree)) max_instances (roots (plain tree)) few_roots (roots_once (plain tree)) (instances tree graph.items.items) g.found

  one_view : (i j : ℕ) (a : At i) (b : At j) → text_at (symbols_of tree graph.items.items) i ≡ text_at (symbols_of tree graph.items.items) j → instance_view tree.rows a.x.instance ≡ instance_view tree.rows b.x.instance
  one_view i j a b e =
      let s = symbols_tell tree typed a.x.instance b.x.instance a.function b.function a.arguments b.arguments (sym (symbol_at i a) ∙ e ∙ symbol_at j b) in
      ap (λ (n : ℕ). let y : PlainInstance = record { function = n; arguments = type_at tree.rows a.x.instance.arguments } in y) s.0 ∙ ap (λ (t : TypeOf). let y : PlainInstance = record { function = b.x.instance.function; arguments = t } in y) s.1

  not_before : (i j : ℕ) → i < j → j < length graph.items.items → text_at (symbols_of tree graph.items.items) i ≡ text_at (symbols_of tree graph.items.items) j → ⊥
  not_before i j lt l e =
      let a = at i (omega arith) in
      let b = at j l in
      let u : PlainInstance = instance_view tree.rows a.x.instance in
      let left : get_or (instances tree graph.items.items) i u ≡ instance_view tree.rows a.x.instance = get_or_from_slice_get (instances tree graph.items.items) i (instance_view tree.rows a.x.instance) u a.view_there in
      let right : get_or (instances tree graph.items.items) j u ≡ instance_view tree.rows b.x.instance = get_or_from_slice_get (instances tree graph.items.items) j (instance_view tree.rows b.x.instance) u b.view_there in
      let no : same_instance (get_or (instances tree graph.items.items) i u) (get_or (instances tree graph.items.items) j u) ≡ false = apart_from_distinct same_instance (instances tree graph.items.items) i j u once lt (omega (arith, count)) in
      let yes : same_instance (get_or (instances tree graph.items.items) i u) (get_or (instances tree graph.items.items) j u) ≡ true = is_same (get_or (instances tree graph.items.items) i u) (get_or (instances tree graph.items.items) j u) (left ∙ one_view i j a b e ∙ sym right) in
      cc

  symbols_length : length (symbols_of tree graph.items.items) ≡ length graph.items.items
  symbols_length = length-map graph.items.items (λ x. symbol_of tree x.instance)

  symbols_apart : AreApart (symbols_of tree graph.items.items)
  symbols_apart = record { each = λ i j p q e. ⊎_elim (λ lt. absurd (not_before i j lt (omega (arith, symbols_length)) e)) (λ ge. ⊎_elim (λ lt. absurd (not_before j i lt (omega (arith, symbols_length)) (sym e))) (λ le. omega arith) (cases_lt j i)) (cases_lt i j) }

  above : (x : MonoItem) → IsItem (plain tree) x → AllByRecursion (λ c. 43 < c) x.place
  above x h = by (slice_get (plain tree).functions x.instance.function) refl h
    where
      by : (o : Option PlainFunction) → slice_get (plain tree).functions x.instance.function ≡ o → SaysIf o x → AllByRecursion (λ c. 43 < c) x.place
      by None is says = absurd says
      by (Some f) is says =
          let lawful : IsFunction (plain tree) f = transport (IsFunction (plain tree)) (get_or_from_slice_get (plain tree).functions x.instance.function f f is) ((typed.typed).functions x.instance.function f (slice_get_within (plain tree).functions x.instance.function f is)) in
          transport (AllByRecursion (λ c. 43 < c)) (sym says.place) (all_from IsPart (λ c. 43 < c) (λ c p. p.above) f.module_path (module_parts f.module_path lawful.path))

  there : (x : MonoItem) → IsItem (plain tree) x → x.instance.function < length tree.functions
  there x h = transport (λ (n : ℕ). x.instance.function < n) (functions_length tree typed) (says_there (slice_get (plain tree).functions x.instance.function) (plain tree).functions x.instance.function x refl h)

  pub can_be_placed : IsGraph tree graph
  can_be_placed = record {
    few = (let f = found_few (calls_of (plain tree)) max_instances (roots (plain tree)) few_roots (instances tree graph.items.items) g.found in omega (arith, count));
    functions = All-from_recursion (λ x. x.instance.function < length tree.functions) graph.items.items (all_from (IsItem (plain tree)) (λ x. x.instance.function < length tree.functions) there graph.items.items g.items);
    arguments = All-from_recursion (λ x. x.instance.arguments < length tree.rows) graph.items.items g.arguments;
    apart = symbols_apart;
    places = All-from_recursion (λ x. AllByRecursion (λ c. 43 < c) x.place) graph.items.items (all_from (IsItem (plain tree)) (λ x. AllByRecursion (λ c. 43 < c) x.place) above graph.items.items g.items);
    rows = sym (length-map graph.callees.items (λ row. map (slice_get (instances tree graph.items.items)) row.items)) ∙ ap length g.callees ∙ length-map (instances tree graph.items.items) (λ x. map (λ c. Some (target c)) (calls_of (plain tree) x)) ∙ count;
    inside = All-from_recursion (λ (row : Vec ℕ Global). All (λ t. t < length graph.items.items) row.items) graph.callees.items (rows_inside (plain tree) (instances tree graph.items.items) graph.callees.items (instances tree graph.items.items) (length graph.items.items) count g.callees);
  }

-- ---- symbols
module _ (tree : Contents) (typed : IsTypedTree tree) (table : IsTable tree.rows) (small : AreSmall tree.rows) where
  items_of : (x : Instance) → x.arguments < length tree.rows → IsClosed (plain tree) (instance_view tree.rows x) → (x.function < length tree.functions) × AreItems tree.structs (paths_are tree typed) (type_at tree.rows x.arguments)
  items_of x row c =
      let here : x.function < length tree.functions = transport (λ (n : ℕ). x.function < n) (functions_length tree typed) c.there in
      let f : FunctionAt tree typed x.function = function_at tree typed x.function here in
      let sorts : length (struct_sorts (plain tree).structs) ≡ length tree.structs = length-map (plain tree).structs (λ (s : PlainStruct). type_generics s.generics) ∙ structs_length tree typed in
      (here, arguments_are tree.structs (paths_are tree typed) (struct_sorts (plain tree).structs) sorts (type_at tree.rows x.arguments) _ (c.arguments _ f.plain_there) (small_type tree.rows table small x.arguments row))

  one_symbol_by : (x y : Instance) → x.arguments < length tree.rows → y.arguments < length tree.rows → IsClosed (plain tree) (instance_view tree.rows x) → IsClosed (plain tree) (instance_view tree.rows y) → symbol_of tree x ≡ symbol_of tree y → x ≡ y
  one_symbol_by x y l k c d e =
      let a = items_of x l c in
      let b = items_of y k d in
      let s = symbols_tell tree typed x y a.0 b.0 a.1 b.1 e in
      let r : x.arguments ≡ y.arguments = equal_numbers tree.rows x.arguments y.arguments table l k s.1 in
      ap (λ (n : ℕ). let z : Instance = record { function = n; arguments = x.arguments } in z) s.0 ∙ ap (λ (n : ℕ). let z : Instance = record { function = y.function; arguments = n } in z) r

pub one_symbol : (tree : Contents) (x y : Instance) → IsTypedTree tree → IsTable tree.rows → AreSmall tree.rows → x.arguments < length tree.rows → y.arguments < length tree.rows → IsClosed (plain tree) (instance_view tree.rows x) → IsClosed (plain tree) (instance_view tree.rows y) → symbol_of tree x ≡ symbol_of tree y → x ≡ y
one_symbol tree x y typed table small l k c d e = one_symbol_by tree typed table small x y l k c d e
