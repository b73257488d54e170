-- Instances are read in order.
use Rattle.std.proofs.Common.{◌≡◌, ℕ, ◌+◌, ◌<◌, ◌≤◌, List, [], ◌∷◌, ◌++◌, length, map, take, refl, sym, ap, ◌∙◌, subst as transport, arith, Option, Some, Ok, option_map, length-append}
use Rattle.std.specs.Prelude.{slice_get, Vec}
use Rattle.std.specs.Global.{Global}
use Rattle.std.specs.List.{AllByRecursion, flat_map}
use Rattle.std.proofs.lemmas.List.{length-map, take_more, take_all, map_push, take-append-le}
use Rattle.std.proofs.lemmas.Option.{slice_get-map, slice_get_within, get_or_from_slice_get}
use Rattle.lar_typed.specs.Trees.{PlainTree}
use Rattle.lar_typed.specs.TreeView.{Contents, IsTypedTree, contents, plain}
use Rattle.lar_typed.proofs.ContentsKept.{typed_kept}
use Rattle.type_table.specs.Rows.{Keeps}
use Rattle.type_table.proofs.Grown.{keeps_all, keeps_trans}
use Rattle.mono_items.specs.declared.items.Instance.{Instance}
use Rattle.mono_items.specs.declared.items.MonoItem.{MonoItem}
use Rattle.mono_items.specs.declared.items.MonoGraph.{MonoGraph}
use Rattle.mono_graph.specs.Instances.{PlainInstance, instance_view, target, calls_of, roots}
use Rattle.mono_graph.specs.Reading.{IsAll}
use Rattle.mono_graph.specs.Graphs.{max_instances, IsItem, instances, placed, targets, IsGraphOf}
use Rattle.mono_graph.proofs.Read.{before, Extends}
use Rattle.mono_collect.specs.States.{views, AreInside, ReadBefore, RowRead, AllRead}
use Rattle.mono_collect.proofs.Itemised.{all_at}
use Rattle.mono_collect.proofs.OneRow.{row_kept}

rows_kept : (tree : PlainTree) (us ws : List PlainInstance) (rows : List (Vec ℕ Global)) (xs : List PlainInstance) → Extends us ws → placed us rows ≡ targets tree xs → placed ws rows ≡ targets tree xs
rows_kept tree us ws [] [] e h = refl
rows_kept tree us ws [] (x ∷ xs) e h = cc
rows_kept tree us ws (r ∷ rows) [] e h = cc
rows_kept tree us ws (r ∷ rows) (x ∷ xs) e h =
    let first : map (slice_get us) r.items ≡ map (λ c. Some (target c)) (calls_of tree x) = cc in
    let others : placed us rows ≡ targets tree xs = cc in
    let now : map (slice_get ws) r.items ≡ map (λ c. Some (target c)) (calls_of tree x) = row_kept us ws r.items (calls_of tree x) e first in
    let rest : placed ws rows ≡ targets tree xs = rows_kept tree us ws rows xs e others in
    cc

-- the calls of the instances before place i are read, and their rows are there
pub record Walking (start cur : Contents) (limit i : ℕ) (us : List Instance) (callees : List (Vec ℕ Global)) : Type 0 where
  pub kept : Keeps start.rows cur.rows
  pub rest : cur ≡ contents cur.rows start.structs start.consts start.functions
  pub program : plain cur ≡ plain start
  pub read : ReadBefore cur limit i us
  pub few : i ≤ length us
  pub rows : placed (views cur.rows us) callees ≡ targets (plain cur) (take i (views cur.rows us))

pub walking_none : (start : Contents) (limit : ℕ) (us : List Instance) → length us ≤ limit → AreInside start us → views start.rows us ≡ roots (plain start) → Walking start start limit 0 us []
walking_none start limit us few inside is = record {
  kept = keeps_all start.rows;
  rest = refl;
  program = refl;
  read = record { few = few; inside = inside; read = ap (λ (vs : List PlainInstance). Ok vs) (sym is) };
  few = omega arith;
  rows = refl;
}

module _ (start cur : Contents) (limit i : ℕ) (us : List Instance) (rows : List (Vec ℕ Global)) (w : Walking start cur limit i us rows) where
  pub still_typed : IsTypedTree start → IsTypedTree cur
  still_typed t = transport IsTypedTree (sym w.rest) (typed_kept start.rows cur.rows start.structs start.consts start.functions w.kept t)

  pub walking_more : (new : Contents) (x : Instance) (ws : List Instance) (row : Vec ℕ Global) (now : List (Vec ℕ Global)) → slice_get us i ≡ Some x → Keeps cur.rows new.rows → new ≡ contents new.rows cur.structs cur.consts cur.functions → plain new ≡ plain cur → RowRead cur new limit i x us ws row.items → now ≡ rows ++ row ∷ [] → Walking start new limit (i + 1) ws now
  walking_more new x ws row now there keeps same program got push =
      let us_length : length (views cur.rows us) ≡ length us = length-map us (instance_view cur.rows) in
      let ws_length : length (views new.rows ws) ≡ length ws = length-map ws (instance_view new.rows) in
      let room : i < length us = slice_get_within us i x there in
      let longer : length (views new.rows ws) ≡ length (views cur.rows us ++ (got.extends).more) = ap length (got.extends).is in
      let longer2 : length (views cur.rows us ++ (got.extends).more) ≡ length (views cur.rows us) + length (got.extends).more = length-append (views cur.rows us) (got.extends).more in
      let at : slice_get (views cur.rows us) i ≡ Some (instance_view cur.rows x) = slice_get-map (instance_view cur.rows) us i ∙ ap (λ (o : Option Instance). option_map (instance_view cur.rows) o) there in
      let front : take (i + 1) (views new.rows ws) ≡ take i (views cur.rows us) ++ instance_view cur.rows x ∷ [] = ap (take (i + 1)) (got.extends).is ∙ take-append-le (i + 1) (views cur.rows us) (got.extends).more (omega arith) ∙ take_more (views cur.rows us) i (instance_view cur.rows x) (omega arith) ∙ ap (λ (y : PlainInstance). take i (views cur.rows us) ++ y ∷ []) (get_or_from_slice_get (views cur.rows us) i (instance_view cur.rows x) (instance_view cur.rows x) at) in
      let old : placed (views new.rows ws) rows ≡ targets (plain cur) (take i (views cur.rows us)) = rows_kept (plain cur) (views cur.rows us) (views new.rows ws) rows (take i (views cur.rows us)) got.extends w.rows in
      record {
        kept = keeps_trans start.rows cur.rows new.rows w.kept keeps;
        rest = same ∙ ap (λ (c : Contents). contents new.rows c.structs c.consts c.functions) w.rest;
        program = program ∙ w.program;
        read = got.read;
        few = omega arith;
        rows = ap (placed (views new.rows ws)) push ∙ map_push (λ (r : Vec ℕ Global). map (slice_get (views new.rows ws)) r.items) rows row
            ∙ ap (λ (rs : List (List (Option PlainInstance))). rs ++ map (slice_get (views new.rows ws)) row.items ∷ []) old
            ∙ ap (λ (r : List (Option PlainInstance)). targets (plain cur) (take i (views cur.rows us)) ++ r ∷ []) got.at
            ∙ sym (map_push (λ (y : PlainInstance). map (λ c. Some (target c)) (calls_of (plain cur) y)) (take i (views cur.rows us)) (instance_view cur.rows x))
            ∙ sym (ap (λ (p : PlainTree). targets p (take (i + 1) (views new.rows ws))) program ∙ ap (targets (plain cur)) front);
      }

  pub walking_all : length us ≤ i → AllRead cur limit us rows
  walking_all over =
      let us_length : length (views cur.rows us) ≡ length us = length-map us (instance_view cur.rows) in
      let all : take i (views cur.rows us) ≡ views cur.rows us = take_all i (views cur.rows us) (omega arith) in
      record {
        inside = (w.read).inside;
        all = record { count = before (calls_of (plain cur)) i (views cur.rows us); read = (w.read).read; done = (let e : before (calls_of (plain cur)) i (views cur.rows us) ≡ length (flat_map (calls_of (plain cur)) (views cur.rows us)) = ap (λ (vs : List PlainInstance). length (flat_map (calls_of (plain cur)) vs)) all in omega arith) };
        callees = w.rows ∙ ap (targets (plain cur)) all;
      }

-- the instance at a place names a function that is there
pub function_there : (tree : Contents) (limit i : ℕ) (us : List Instance) (x : Instance) → ReadBefore tree limit i us → slice_get us i ≡ Some x → x.function < length tree.functions
function_there tree limit i us x read at = transport (λ (y : Instance). y.function < length tree.functions) (get_or_from_slice_get us i x x at) (all_at (λ (y : Instance). y.function < length tree.functions) us i x (read.inside).functions (slice_get_within us i x at))

-- ---- the whole graph
views_of_items : (tree : Contents) (items : List MonoItem) → views tree.rows (map (λ (x : MonoItem). x.instance) items) ≡ instances tree items
views_of_items tree [] = refl
views_of_items tree (x ∷ items) = ap (λ (vs : List PlainInstance). instance_view tree.rows x.instance ∷ vs) (views_of_items tree items)

arguments_of_items : (n : ℕ) (items : List MonoItem) → AllByRecursion (λ y. y.arguments < n) (map (λ (x : MonoItem). x.instance) items) → AllByRecursion (λ x. x.instance.arguments < n) items
arguments_of_items n [] h = tt
arguments_of_items n (x ∷ items) h = (h.0, arguments_of_items n items h.1)

pub graph_is : (tree : Contents) (us : List Instance) (graph : MonoGraph) → AllRead tree max_instances us graph.callees.items → map (λ (x : MonoItem). x.instance) graph.items.items ≡ us → AllByRecursion (IsItem (plain tree)) graph.items.items → IsGraphOf tree graph
graph_is tree us graph all are items =
    let same : views tree.rows us ≡ instances tree graph.items.items = ap (views tree.rows) (sym are) ∙ views_of_items tree graph.items.items in
    record {
      arguments = arguments_of_items (length tree.rows) graph.items.items (transport (λ (ys : List Instance). AllByRecursion (λ (y : Instance). y.arguments < length tree.rows) ys) (sym are) (all.inside).arguments);
      found = transport (λ (vs : List PlainInstance). IsAll (calls_of (plain tree)) max_instances (roots (plain tree)) vs) same all.all;
      items = items;
      callees = transport (λ (vs : List PlainInstance). placed vs graph.callees.items ≡ targets (plain tree) vs) same all.callees;
    }
