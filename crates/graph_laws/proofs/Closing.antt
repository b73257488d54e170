-- What is found names no generic.
use Rattle.std.proofs.Common.{◌≡◌, ℕ, ◌<◌, List, [], ◌∷◌, map, get_or, refl, sym, ap, ◌∙◌, subst as transport, Bool, true, false, cond, ◌&&◌, ◌||◌, codes, bytes_eq, Option, Some, None, Ok, option_map}
use Rattle.std.specs.Prelude.{slice_get, filter}
use Rattle.std.specs.List.{AllByRecursion}
use Rattle.std.proofs.lemmas.List.{length-map}
use Rattle.std.proofs.lemmas.Option.{slice_get-map, slice_get_within, get_or_from_slice_get}
use Rattle.std.proofs.lemmas.Slice.Eq.{bytes_eq-Decides}
use Rattle.type_table.specs.declared.sort.Sort.{Sort}
use Rattle.type_table.specs.TypeOf.{TypeOf, end}
use Rattle.type_table.specs.Lawful.{these, fits}
use Rattle.type_table.proofs.Replacing.{lawful_kept}
use Rattle.text_order.specs.TextOrder.{text_order}
use Rattle.lar_typed.specs.Calls.{CallOf, stmts_calls}
use Rattle.lar_typed.specs.IsTyped.{IsTyped, IsFunction, IsMain, signature_of, frame_of}
use Rattle.lar_typed.specs.Lawful.{Signature, struct_sorts}
use Rattle.lar_typed.specs.Paths.{item_path}
use Rattle.lar_typed.specs.Trees.{PlainFunction, PlainTree}
use Rattle.lar_typed.proofs.SameTypes.{and_true}
use Rattle.mono_graph.specs.Instances.{PlainInstance, target, call_under, calls_under, calls_of, is_none, is_root, root_if, plain_instance, paths_of, root_places, roots}
use Rattle.mono_graph.specs.Reading.{after}
use Rattle.mono_graph.proofs.LawfulCalls.{LawfulCall, LawfulCalls, stmts_lawful_calls}
use Rattle.graph_laws.specs.Closed.{IsClosed}
use Rattle.graph_laws.proofs.Reading.{found_keeps}

or_cases : (P : Type 0) (a b : Bool) → (a || b) ≡ true → (a ≡ true → P) → (b ≡ true → P) → P
or_cases P true b h f g = f refl
or_cases P false b h f g = g h

none_means : (ss : List Sort) → is_none ss ≡ true → ss ≡ []
none_means [] h = refl
none_means (s ∷ ss) h = cc

module _ (tree : PlainTree) (typed : IsTyped tree) where
  -- a root has no generics
  root_generics : (k : ℕ) (f : PlainFunction) → slice_get tree.functions k ≡ Some f → is_root f ≡ true → f.generics ≡ []
  root_generics k f at h = or_cases (f.generics ≡ []) (bytes_eq f.module_path (codes "main") && bytes_eq f.name (codes "main")) (f.exported && is_none f.generics) h main exported
    where
      exported : (f.exported && is_none f.generics) ≡ true → f.generics ≡ []
      exported e = none_means f.generics (and_true f.exported (is_none f.generics) e).1

      main : (bytes_eq f.module_path (codes "main") && bytes_eq f.name (codes "main")) ≡ true → f.generics ≡ []
      main e =
          let p : (bytes_eq f.module_path (codes "main") ≡ true) × (bytes_eq f.name (codes "main") ≡ true) = and_true (bytes_eq f.module_path (codes "main")) (bytes_eq f.name (codes "main")) e in
          let path : f.module_path ≡ codes "main" = (bytes_eq-Decides f.module_path (codes "main")).0 p.0 in
          let name : f.name ≡ codes "main" = (bytes_eq-Decides f.name (codes "main")).0 p.1 in
          let here : get_or tree.functions k f ≡ f = get_or_from_slice_get tree.functions k f f at in
          let m : IsMain (get_or tree.functions typed.main f) = typed.main_is f in
          let a : item_path (get_or tree.functions k f).module_path (get_or tree.functions k f).name ≡ item_path (codes "main") (codes "main") = ap (λ (g : PlainFunction). item_path g.module_path g.name) here ∙ ap (λ (x : List ℕ). item_path x f.name) path ∙ ap (item_path (codes "main")) name in
          let b : item_path (get_or tree.functions typed.main f).module_path (get_or tree.functions typed.main f).name ≡ item_path (codes "main") (codes "main") = ap (λ (x : List ℕ). item_path x (get_or tree.functions typed.main f).name) m.in_main ∙ ap (item_path (codes "main")) m.is_main in
          let same : k ≡ typed.main = typed.functions_apart k typed.main f (slice_get_within tree.functions k f at) typed.main_there (a ∙ sym b) in
          sym (ap (λ (g : PlainFunction). g.generics) here) ∙ ap (λ (n : ℕ). (get_or tree.functions n f).generics) same ∙ m.no_generics

  end_fits : (structs : List (List Sort)) (ss : List Sort) → ss ≡ [] → fits structs [] end (these ss) ≡ true
  end_fits structs ss e = rw e refl

  closed_root : (k : ℕ) (o : Option PlainFunction) → slice_get tree.functions k ≡ o → root_if o ≡ true → IsClosed tree (plain_instance k)
  closed_root k None at h = cc
  closed_root k (Some f) at h = record {
    there = slice_get_within tree.functions k f at;
    arguments = λ g is. end_fits (struct_sorts tree.structs) g.generics (root_generics k g is (let same : f ≡ g = (let e : Some f ≡ Some g = sym at ∙ is in cc) in sym (ap is_root same) ∙ h));
  }

  closed_places : (ks : List ℕ) → AllByRecursion (λ x. IsClosed tree x) (map plain_instance (filter (λ k. root_if (slice_get tree.functions k)) ks))
  closed_places [] = tt
  closed_places (k ∷ ks) = by (root_if (slice_get tree.functions k)) refl (closed_places ks)
    where
      by : (b : Bool) → root_if (slice_get tree.functions k) ≡ b → AllByRecursion (λ x. IsClosed tree x) (map plain_instance (filter (λ j. root_if (slice_get tree.functions j)) ks)) → AllByRecursion (λ x. IsClosed tree x) (map plain_instance (cond b (k ∷ filter (λ j. root_if (slice_get tree.functions j)) ks) (filter (λ j. root_if (slice_get tree.functions j)) ks)))
      by true is r = (closed_root k (slice_get tree.functions k) refl is, r)
      by false is r = r

  pub closed_roots : AllByRecursion (λ x. IsClosed tree x) (roots tree)
  unfolding roots root_places
  closed_roots = closed_places (text_order (paths_of tree.functions))

  -- a call of a lawful body, under closed arguments
  closed_call : (f : PlainFunction) (arguments : TypeOf) (c : CallOf TypeOf) → fits (struct_sorts tree.structs) [] arguments (these f.generics) ≡ true → LawfulCall (frame_of tree f) c → IsClosed tree (target (call_under arguments c))
  closed_call f arguments c h l = record {
    there = transport (λ (n : ℕ). c.callee < n) (length-map tree.functions signature_of) l.there;
    arguments = λ g is.
        let sig : l.signature ≡ signature_of g = (let e : Some l.signature ≡ Some (signature_of g) = sym l.signature_there ∙ slice_get-map signature_of tree.functions c.callee ∙ ap (λ (o : Option PlainFunction). option_map signature_of o) is in cc) in
        let own : fits (struct_sorts tree.structs) f.generics c.generics (these g.generics) ≡ true = sym (ap (λ (s : Signature). fits (struct_sorts tree.structs) f.generics c.generics (these s.generics)) sig) ∙ l.generics_fit in
        lawful_kept (struct_sorts tree.structs) f.generics [] arguments c.generics (these g.generics) h own;
  }

  closed_calls : (f : PlainFunction) (arguments : TypeOf) (cs : List (CallOf TypeOf)) → fits (struct_sorts tree.structs) [] arguments (these f.generics) ≡ true → LawfulCalls (frame_of tree f) cs → AllByRecursion (λ c. IsClosed tree (target c)) (map (call_under arguments) cs)
  closed_calls f arguments [] h l = tt
  closed_calls f arguments (c ∷ cs) h l = (closed_call f arguments c h l.0, closed_calls f arguments cs h l.1)

  calls_by : (x : PlainInstance) → IsClosed tree x → (o : Option PlainFunction) → slice_get tree.functions x.function ≡ o → AllByRecursion (λ c. IsClosed tree (target c)) (calls_under x.arguments o)
  calls_by x h None at = tt
  calls_by x h (Some f) at =
      let here : get_or tree.functions x.function f ≡ f = get_or_from_slice_get tree.functions x.function f f at in
      let lawful : IsFunction tree f = transport (IsFunction tree) here (typed.functions x.function f h.there) in
      closed_calls f x.arguments (stmts_calls f.body) (h.arguments f at) (stmts_lawful_calls (frame_of tree f) f.body lawful.lawful_body)

  closed_targets : (x : PlainInstance) → IsClosed tree x → AllByRecursion (λ c. IsClosed tree (target c)) (calls_of tree x)
  unfolding calls_of
  closed_targets x h = calls_by x h (slice_get tree.functions x.function) refl

  -- each instance that is found is closed
  pub closed_found : (limit n : ℕ) (us : List PlainInstance) → after (calls_of tree) limit (roots tree) n ≡ Ok us → AllByRecursion (λ x. IsClosed tree x) us
  closed_found limit n us h = found_keeps (λ x. IsClosed tree x) (calls_of tree) limit (roots tree) closed_roots closed_targets n us h
