-- What is found from the roots of a typed program: each instance has a function that is there, and arguments of the sorts of its generics.
use Rattle.std.proofs.Common.{◌≡◌, ℕ, zero, suc, List, [], ◌∷◌, ◌++◌, length, map, get_or, refl, sym, ap, ◌∙◌, subst as transport, Bool, true, false, cond, ◌&&◌, ◌||◌, Option, Some, None, Result, Ok, Err}
use Rattle.std.specs.Prelude.{slice_get, nat_lt, filter, codes}
use Rattle.std.specs.List.{flat_map, AllByRecursion}
use Rattle.std.specs.Str.{bytes_eq}
use Rattle.std.proofs.lemmas.List.Elements.{recursion_from_All, filter_passes}
use Rattle.std.proofs.lemmas.Option.{slice_get_within, get_or_from_slice_get}
use Rattle.std.proofs.lemmas.Slice.Eq.{bytes_eq-Decides}
use Rattle.reach.specs.Reach.{has}
use Rattle.text_order.specs.TextOrder.{text_order}
use Rattle.type_table.specs.declared.sort.Sort.{Sort}
use Rattle.type_table.specs.TypeOf.{TypeOf, end}
use Rattle.type_table.specs.Lawful.{these, fits}
use Rattle.type_table.proofs.Replacing.{lawful_kept}
use Rattle.lar_typed.specs.Calls.{CallOf, stmts_calls}
use Rattle.lar_typed.specs.Lawful.{struct_sorts}
use Rattle.lar_typed.specs.IsTyped.{frame_of, IsMain, IsTyped}
use Rattle.lar_typed.specs.Paths.{item_path}
use Rattle.lar_typed.specs.Trees.{PlainFunction, PlainTree}
use Rattle.lar_typed.proofs.SameTypes.{and_true}
use Rattle.mono_graph.specs.declared.refused.RefusedCall.{RefusedCall}
use Rattle.mono_graph.specs.Instances.{PlainInstance, same_instance, has_large, target, call_under, calls_under, calls_of, is_none, is_root, root_if, plain_instance, paths_of, root_places, roots}
use Rattle.mono_graph.specs.Reading.{read_next, then_read, after, IsAll}
use Rattle.mono_graph.proofs.LawfulCalls.{LawfulCall, stmts_lawful_calls}
use Rattle.closed_input.specs.Lawful.{IsLawful}
use Rattle.closed_input.proofs.Fitting.{function_is_typed, Signed, signed}
use Rattle.closed_input.proofs.Distinct.{all_append, all_at, all_map, all_with, all_flat}

-- ---- roots
none_means : (ss : List Sort) → is_none ss ≡ true → ss ≡ []
none_means [] h = refl
none_means (s ∷ ss) h = cc

main_plain : (tree : PlainTree) (k : ℕ) (f : PlainFunction) → IsTyped tree → slice_get tree.functions k ≡ Some f → f.module_path ≡ codes "main" → f.name ≡ codes "main" → f.generics ≡ []
main_plain tree k f typed at m n =
    let here : get_or tree.functions k f ≡ f = get_or_from_slice_get tree.functions k f f at in
    let is : IsMain (get_or tree.functions typed.main f) = typed.main_is f in
    let path : item_path f.module_path f.name ≡ item_path (get_or tree.functions typed.main f).module_path (get_or tree.functions typed.main f).name =
    ap (λ (x : List ℕ). item_path x f.name) (m ∙ sym is.in_main) ∙ ap (λ (x : List ℕ). item_path (get_or tree.functions typed.main f).module_path x) (n ∙ sym is.is_main) in
    let same : k ≡ typed.main = typed.functions_apart k typed.main f (slice_get_within tree.functions k f at) typed.main_there (ap (λ (x : PlainFunction). item_path x.module_path x.name) here ∙ path) in
    sym (ap (λ (x : PlainFunction). x.generics) (sym (ap (λ (j : ℕ). get_or tree.functions j f) same) ∙ here)) ∙ is.no_generics

root_plain : (tree : PlainTree) (k : ℕ) (f : PlainFunction) → IsTyped tree → slice_get tree.functions k ≡ Some f → is_root f ≡ true → f.generics ≡ []
root_plain tree k f typed at r = by (bytes_eq f.module_path (codes "main") && bytes_eq f.name (codes "main")) refl (f.exported && is_none f.generics) refl r
  where
    by : (a : Bool) → (bytes_eq f.module_path (codes "main") && bytes_eq f.name (codes "main")) ≡ a → (b : Bool) → (f.exported && is_none f.generics) ≡ b → (a || b) ≡ true → f.generics ≡ []
    by true e b g h =
        let p = and_true (bytes_eq f.module_path (codes "main")) (bytes_eq f.name (codes "main")) e in
        main_plain tree k f typed at ((bytes_eq-Decides f.module_path (codes "main")).0 p.0) ((bytes_eq-Decides f.name (codes "main")).0 p.1)
    by false e true g h = none_means f.generics (and_true f.exported (is_none f.generics) g).1
    by false e false g h = cc

root_lawful : (tree : PlainTree) (k : ℕ) → IsTyped tree → root_if (slice_get tree.functions k) ≡ true → IsLawful tree (plain_instance k)
root_lawful tree k typed h = by (slice_get tree.functions k) refl h
  where
    by : (o : Option PlainFunction) → slice_get tree.functions k ≡ o → root_if o ≡ true → IsLawful tree (plain_instance k)
    by None e r = cc
    by (Some f) e r = record {
      function = f;
      there = e;
      fit = transport (λ (ss : List Sort). fits (struct_sorts tree.structs) [] end (these ss) ≡ true) (sym (root_plain tree k f typed e r)) refl;
    }

roots_lawful : (tree : PlainTree) → IsTyped tree → AllByRecursion (IsLawful tree) (roots tree)
unfolding roots root_places
roots_lawful tree typed =
    all_map (IsLawful tree) plain_instance (filter (λ k. root_if (slice_get tree.functions k)) (text_order (paths_of tree.functions)))
    (all_with (λ k. root_if (slice_get tree.functions k) ≡ true) (λ k. IsLawful tree (plain_instance k)) (filter (λ k. root_if (slice_get tree.functions k)) (text_order (paths_of tree.functions)))
    (λ k h. root_lawful tree k typed h)
    (recursion_from_All (λ k. root_if (slice_get tree.functions k) ≡ true) (filter (λ k. root_if (slice_get tree.functions k)) (text_order (paths_of tree.functions))) (filter_passes (λ k. root_if (slice_get tree.functions k)) (text_order (paths_of tree.functions)))))

-- ---- calls
target_lawful : (tree : PlainTree) (f : PlainFunction) (args : TypeOf) (c : CallOf TypeOf) → fits (struct_sorts tree.structs) [] args (these f.generics) ≡ true → LawfulCall (frame_of tree f) c → IsLawful tree (target (call_under args c))
target_lawful tree f args c fit p =
    let g : Signed tree c.callee p.signature = signed tree c.callee p.signature p.signature_there in
    let is : fits (struct_sorts tree.structs) f.generics c.generics (these (g.function).generics) ≡ true = transport (λ s. fits (struct_sorts tree.structs) f.generics c.generics (these s.generics) ≡ true) g.is p.generics_fit in
    record { function = g.function; there = g.there; fit = lawful_kept (struct_sorts tree.structs) f.generics [] args c.generics (these (g.function).generics) fit is }

calls_are : (tree : PlainTree) (x : PlainInstance) (f : PlainFunction) → slice_get tree.functions x.function ≡ Some f → calls_of tree x ≡ map (call_under x.arguments) (stmts_calls f.body)
unfolding calls_of
calls_are tree x f h = ap (calls_under x.arguments) h

-- the calls of an instance whose function is this one
pub calls_of_function : (tree : PlainTree) (x : PlainInstance) (f : PlainFunction) → slice_get tree.functions x.function ≡ Some f → calls_of tree x ≡ map (call_under x.arguments) (stmts_calls f.body)
calls_of_function tree x f h = calls_are tree x f h

calls_lawful : (tree : PlainTree) (x : PlainInstance) → IsTyped tree → IsLawful tree x → AllByRecursion (λ c. IsLawful tree (target c)) (calls_of tree x)
calls_lawful tree x typed p =
    transport (λ (cs : List (CallOf TypeOf)). AllByRecursion (λ c. IsLawful tree (target c)) cs) (sym (calls_are tree x p.function p.there))
    (all_map (λ c. IsLawful tree (target c)) (call_under x.arguments) (stmts_calls (p.function).body)
    (all_with (LawfulCall (frame_of tree p.function)) (λ c. IsLawful tree (target (call_under x.arguments c))) (stmts_calls (p.function).body) (λ c q. target_lawful tree p.function x.arguments c p.fit q)
    (stmts_lawful_calls (frame_of tree p.function) (p.function).body (function_is_typed tree x.function p.function typed p.there).lawful_body)))

-- ---- reading
module _ (tree : PlainTree) (typed : IsTyped tree) (limit : ℕ) where
  abbrev Found : Type 0
  Found = List PlainInstance

  abbrev AllLawful : Found → Type 0
  AllLawful us = AllByRecursion (IsLawful tree) us

  read_by : (us ws : Found) (c : CallOf TypeOf) (a b d : Bool) (e f : RefusedCall) → AllLawful us → IsLawful tree (target c) → cond a (Err e) (cond b (Ok us) (cond d (Ok (us ++ target c ∷ [])) (Err f))) ≡ Ok ws → AllLawful ws
  read_by us ws c true b d e f p q h = cc
  read_by us ws c false true d e f p q h = let same : us ≡ ws = cc in transport AllLawful same p
  read_by us ws c false false true e f p q h = let same : us ++ target c ∷ [] ≡ ws = cc in transport AllLawful same (all_append (IsLawful tree) us (target c ∷ []) p (q, tt))
  read_by us ws c false false false e f p q h = cc

  next_lawful : (us ws : Found) (n : ℕ) → AllLawful us → read_next limit us (slice_get (flat_map (calls_of tree) us) n) ≡ Ok ws → AllLawful ws
  next_lawful us ws n p h = by (slice_get (flat_map (calls_of tree) us) n) refl h
    where
      by : (o : Option (CallOf TypeOf)) → slice_get (flat_map (calls_of tree) us) n ≡ o → read_next limit us o ≡ Ok ws → AllLawful ws
      by None e g = let same : us ≡ ws = cc in transport AllLawful same p
      by (Some c) e g =
          read_by us ws c (has_large c.generics) (has same_instance (target c) us) (nat_lt (length us) limit) _ _ p
          (all_at (λ (d : CallOf TypeOf). IsLawful tree (target d)) (flat_map (calls_of tree) us) n c (all_flat (λ (d : CallOf TypeOf). IsLawful tree (target d)) (calls_of tree) us (all_with (IsLawful tree) (λ (x : PlainInstance). AllByRecursion (λ d. IsLawful tree (target d)) (calls_of tree x)) us (λ x q. calls_lawful tree x typed q) p)) e)
          g

  after_lawful : (n : ℕ) (us : Found) → after (calls_of tree) limit (roots tree) n ≡ Ok us → AllLawful us
  after_lawful zero us h = let same : roots tree ≡ us = cc in transport AllLawful same (roots_lawful tree typed)
  after_lawful (suc n) ws h = by (after (calls_of tree) limit (roots tree) n) refl h (λ us e. after_lawful n us e)
    where
      by : (r : Result Found RefusedCall) → after (calls_of tree) limit (roots tree) n ≡ r → then_read (λ us. read_next limit us (slice_get (flat_map (calls_of tree) us) n)) r ≡ Ok ws → ((us : Found) → after (calls_of tree) limit (roots tree) n ≡ Ok us → AllLawful us) → AllLawful ws
      by (Err e) at g rest = cc
      by (Ok us) at g rest = next_lawful us ws n (rest us at) g

  -- all that is found is lawful
  pub found_lawful : (us : Found) → IsAll (calls_of tree) limit (roots tree) us → AllByRecursion (IsLawful tree) us
  found_lawful us p = after_lawful p.count us p.read
