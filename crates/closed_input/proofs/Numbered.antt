-- The calls of a unit's functions have numbers.
use Rattle.std.proofs.Common.{◌≡◌, ℕ, zero, suc, ◌<◌, List, [], ◌∷◌, ◌++◌, length, map, refl, sym, ap, ◌∙◌, arith, true, Option, Some, None, option_map}
use Rattle.std.specs.Prelude.{slice_get, nat_eq, Vec}
use Rattle.std.specs.Global.{Global}
use Rattle.std.proofs.lemmas.Option.{slice_get-map}
use Rattle.reach.specs.Reach.{has}
use Rattle.type_table.specs.TypeOf.{TypeOf}
use Rattle.lar_typed.specs.Calls.{CallOf, stmts_calls}
use Rattle.lar_typed.specs.Trees.{PlainFunction}
use Rattle.lar_typed.specs.TreeView.{Contents, plain, IsTypedTree}
use Rattle.mono_items.specs.declared.items.MonoItem.{MonoItem}
use Rattle.mono_items.specs.declared.items.MonoGraph.{MonoGraph}
use Rattle.mono_items.specs.declared.items.UnitPlan.{UnitPlan}
use Rattle.mono_items.specs.Units.{IsGraph}
use Rattle.mono_graph.specs.Instances.{PlainInstance, instance_view, target, call_under, calls_of}
use Rattle.mono_graph.specs.Graphs.{max_instances, instances, IsGraphOf}
use Rattle.closed_input.specs.Unit.{instance_if, instance_at, callees_at, callees_if, own, externals, callees, IsPlanned}
use Rattle.closed_input.proofs.Distinct.{all_at, all_from, has_at}
use Rattle.closed_input.proofs.Listed.{callee_named}
use Rattle.closed_input.proofs.Callees.{IsNumbered, AreNumbered, numbered}
use Rattle.closed_input.specs.Lawful.{IsLawful}
use Rattle.closed_input.proofs.Found.{found_lawful, calls_of_function}

instance_got : (tree : Contents) (items : List MonoItem) (p : ℕ) (t : PlainInstance) → slice_get (instances tree items) p ≡ Some t → instance_at tree items p ≡ t
instance_got tree items p t h = by (slice_get items p) (sym (slice_get-map (λ (x : MonoItem). instance_view tree.rows x.instance) items p) ∙ h)
  where
    by : (o : Option MonoItem) → option_map (λ (x : MonoItem). instance_view tree.rows x.instance) o ≡ Some t → instance_if tree o ≡ t
    by None e = cc
    by (Some x) e = cc

instance_there : (tree : Contents) (items : List MonoItem) (p : ℕ) → p < length items → slice_get (instances tree items) p ≡ Some (instance_at tree items p)
instance_there tree [] p l = absurd (omega arith)
instance_there tree (x ∷ xs) zero l = refl
instance_there tree (x ∷ xs) (suc p) l = instance_there tree xs p (omega arith)

-- the instance at a place of an item is lawful
pub item_lawful : (tree : Contents) (graph : MonoGraph) (p : ℕ) → IsTypedTree tree → IsGraphOf tree graph → p < length graph.items.items → IsLawful (plain tree) (instance_at tree graph.items.items p)
item_lawful tree graph p typed is l = all_at (IsLawful (plain tree)) (instances tree graph.items.items) p (instance_at tree graph.items.items p) (found_lawful (plain tree) typed.typed max_instances (instances tree graph.items.items) is.found) (instance_there tree graph.items.items p l)

record RowOf (tree : Contents) (graph : MonoGraph) (p : ℕ) (x : PlainInstance) : Type 0 where
  row : Vec ℕ Global
  there : slice_get graph.callees.items p ≡ Some row
  are : map (slice_get (instances tree graph.items.items)) row.items ≡ map (λ c. Some (target c)) (calls_of (plain tree) x)

row_of : (tree : Contents) (graph : MonoGraph) (p : ℕ) → IsGraphOf tree graph → p < length graph.items.items → RowOf tree graph p (instance_at tree graph.items.items p)
row_of tree graph p is l = by (slice_get graph.callees.items p) refl (sym (slice_get-map (λ (row : Vec ℕ Global). map (slice_get (instances tree graph.items.items)) row.items) graph.callees.items p) ∙ ap (λ (rs : List (List (Option PlainInstance))). slice_get rs p) is.callees ∙ slice_get-map (λ (x : PlainInstance). map (λ (c : CallOf TypeOf). Some (target c)) (calls_of (plain tree) x)) (instances tree graph.items.items) p ∙ ap (option_map (λ (x : PlainInstance). map (λ (c : CallOf TypeOf). Some (target c)) (calls_of (plain tree) x))) (instance_there tree graph.items.items p l))
  where
    by : (o : Option (Vec ℕ Global)) → slice_get graph.callees.items p ≡ o → option_map (λ (row : Vec ℕ Global). map (slice_get (instances tree graph.items.items)) row.items) o ≡ Some (map (λ (c : CallOf TypeOf). Some (target c)) (calls_of (plain tree) (instance_at tree graph.items.items p))) → RowOf tree graph p (instance_at tree graph.items.items p)
    by None e g = cc
    by (Some row) e g = record { row = row; there = e; are = cc }

module _ (tree : Contents) (graph : MonoGraph) (plan : UnitPlan) (is : IsGraph tree graph) (of : IsGraphOf tree graph) (planned : IsPlanned graph plan) where
  abbrev Us : List PlainInstance
  Us = callees tree graph plan

  callee_numbered : (i p q : ℕ) (t : PlainInstance) → slice_get (own plan) i ≡ Some p → has nat_eq q (callees_at graph.callees.items p) ≡ true → slice_get (instances tree graph.items.items) q ≡ Some t → IsNumbered Us t
  callee_numbered i p q t e h g =
      let j : (k : ℕ) × (slice_get (own plan ++ externals tree graph plan) k ≡ Some q) = callee_named tree graph plan is planned i p q e h in
      numbered Us t j.0 (slice_get-map (instance_at tree graph.items.items) (own plan ++ externals tree graph plan) j.0 ∙ ap (option_map (instance_at tree graph.items.items)) j.1 ∙ ap Some (instance_got tree graph.items.items q t g))

  -- the calls of the function at place p of the unit
  pub calls_numbered : (i p : ℕ) (f : PlainFunction) → slice_get (own plan) i ≡ Some p → p < length graph.items.items → slice_get (plain tree).functions (instance_at tree graph.items.items p).function ≡ Some f → AreNumbered Us (instance_at tree graph.items.items p).arguments (stmts_calls f.body)
  calls_numbered i p f e l there =
      let x : PlainInstance = instance_at tree graph.items.items p in
      let r : RowOf tree graph p x = row_of tree graph p of l in
      all_from (λ (c : CallOf TypeOf). IsNumbered Us (target (call_under x.arguments c))) (stmts_calls f.body) (λ j c g. one r j c (r.are ∙ ap (map (λ (d : CallOf TypeOf). Some (target d))) (calls_of_function (plain tree) x f there)) g)
    where
      one : (r : RowOf tree graph p (instance_at tree graph.items.items p)) (j : ℕ) (c : CallOf TypeOf) → map (slice_get (instances tree graph.items.items)) (r.row).items ≡ map (λ d. Some (target d)) (map (call_under (instance_at tree graph.items.items p).arguments) (stmts_calls f.body)) → slice_get (stmts_calls f.body) j ≡ Some c → IsNumbered Us (target (call_under (instance_at tree graph.items.items p).arguments c))
      one r j c are g =
          let args : TypeOf = (instance_at tree graph.items.items p).arguments in
          let there_c : slice_get (map (λ (d : CallOf TypeOf). Some (target d)) (map (call_under args) (stmts_calls f.body))) j ≡ Some (Some (target (call_under args c))) =
          slice_get-map (λ (d : CallOf TypeOf). Some (target d)) (map (call_under args) (stmts_calls f.body)) j ∙ ap (option_map (λ (d : CallOf TypeOf). Some (target d))) (slice_get-map (call_under args) (stmts_calls f.body) j ∙ ap (option_map (call_under args)) g) in
          by (slice_get (r.row).items j) refl (sym (slice_get-map (slice_get (instances tree graph.items.items)) (r.row).items j) ∙ ap (λ (xs : List (Option PlainInstance)). slice_get xs j) are ∙ there_c)
        where
          by : (o : Option ℕ) → slice_get (r.row).items j ≡ o → option_map (slice_get (instances tree graph.items.items)) o ≡ Some (Some (target (call_under (instance_at tree graph.items.items p).arguments c))) → IsNumbered Us (target (call_under (instance_at tree graph.items.items p).arguments c))
          by None at h = cc
          by (Some q) at h =
              callee_numbered i p q (target (call_under (instance_at tree graph.items.items p).arguments c)) e (ap (λ (o : Option (Vec ℕ Global)). has nat_eq q (callees_if o)) r.there ∙ has_at q (r.row).items j at) (cc)
