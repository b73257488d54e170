-- What the calls of a unit name.
use Rattle.std.proofs.Common.{◌≡◌, ℕ, zero, suc, List, [], ◌∷◌, map, take, get_or, refl, sym, ap, ◌∙◌, Bool, true, false, cond, Option, Some, None, option_map}
use Rattle.std.specs.Prelude.{nat_eq, slice_get}
use Rattle.std.specs.List.{AllByRecursion}
use Rattle.std.proofs.lemmas.Bool.{eqb-true, eq-eqb}
use Rattle.std.proofs.lemmas.Option.{get_or_from_slice_get, slice_get-map}
use Rattle.type_table.specs.TypeOf.{TypeOf}
use Rattle.lar_typed.specs.Calls.{CallOf}
use Rattle.lar_typed.specs.SameType.{same_type, list_of}
use Rattle.lar_typed.specs.Trees.{PlainFunction}
use Rattle.lar_typed.specs.TreeView.{Contents}
use Rattle.lar_typed.proofs.SameTypes.{and_true, both_true, same_means, same_self}
use Rattle.mono_graph.specs.Instances.{PlainInstance, same_instance, target, call_under}
use Rattle.unit_input.specs.Widths.{Signature, no_words}
use Rattle.closed_input.specs.Places.{width_under}
use Rattle.closed_input.specs.Bodies.{number_in}
use Rattle.closed_input.specs.Unit.{function_in}

pub same_instances : (x y : PlainInstance) → same_instance x y ≡ true → x ≡ y
same_instances x y h =
    let p = and_true (nat_eq x.function y.function) (same_type x.arguments y.arguments) h in
    ap (λ (n : ℕ). record { function = n; arguments = x.arguments }) (eqb-true x.function y.function p.0) ∙ ap (λ (t : TypeOf). record { function = y.function; arguments = t }) (same_means x.arguments y.arguments p.1)

-- the instance has a number
abbrev pub IsNumbered : List PlainInstance → PlainInstance → Type 0
IsNumbered us x = slice_get us (number_in us x) ≡ Some x

same_itself : (x y : PlainInstance) → x ≡ y → same_instance x y ≡ false → ⊥
same_itself x y e h = differ (sym (both_true (nat_eq x.function x.function) (same_type x.arguments x.arguments) (eq-eqb x.function x.function refl) (same_self x.arguments)) ∙ ap (λ (z : PlainInstance). same_instance x z) e ∙ h)
  where
    differ : true ≡ false → ⊥
    differ d = cc

-- one that is in the list has a number
pub numbered : (us : List PlainInstance) (x : PlainInstance) (j : ℕ) → slice_get us j ≡ Some x → IsNumbered us x
numbered [] x j h = cc
numbered (u ∷ us) x j h = by (same_instance x u) refl (λ k e. numbered us x k e)
  where
    later : (k : ℕ) → slice_get (u ∷ us) k ≡ Some x → same_instance x u ≡ false → ((i : ℕ) → slice_get us i ≡ Some x → IsNumbered us x) → IsNumbered us x
    later zero e d rest = let same : x ≡ u = cc in absurd (same_itself x u same d)
    later (suc k) e d rest = rest k e

    by : (b : Bool) → same_instance x u ≡ b → ((i : ℕ) → slice_get us i ≡ Some x → IsNumbered us x) → slice_get (u ∷ us) (cond b 0 (suc (number_in us x))) ≡ Some x
    by true e rest = ap Some (sym (same_instances x u e))
    by false e rest = later j h e rest

-- each call of an instance with these arguments has a number
abbrev pub AreNumbered : List PlainInstance → TypeOf → List (CallOf TypeOf) → Type 0
AreNumbered us args cs = AllByRecursion (λ c. IsNumbered us (target (call_under args c))) cs

-- how many words an instance takes and gives
abbrev pub signature_by : Contents → TypeOf → Option PlainFunction → Signature
signature_by tree args None = no_words
signature_by tree args (Some f) = record { params = width_under tree args (list_of (take f.params f.locals)); «result» = width_under tree args f.outcome }

abbrev pub signature_at : Contents → PlainInstance → Signature
signature_at tree x = signature_by tree x.arguments (function_in tree x)

-- that of the number
pub called_signature : (tree : Contents) (us : List PlainInstance) (x : PlainInstance) (f : PlainFunction) → IsNumbered us x → function_in tree x ≡ Some f → get_or (map (signature_at tree) us) (number_in us x) no_words ≡ signature_by tree x.arguments (Some f)
called_signature tree us x f h e =
    get_or_from_slice_get (map (signature_at tree) us) (number_in us x) (signature_at tree x) no_words (slice_get-map (signature_at tree) us (number_in us x) ∙ ap (option_map (signature_at tree)) h)
    ∙ ap (signature_by tree x.arguments) e
