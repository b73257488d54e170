-- Calls are read one after another.
use Rattle.std.proofs.Common.{◌≡◌, ℕ, zero, suc, ◌+◌, ◌<◌, List, [], ◌∷◌, ◌++◌, length, take, sym, ap, ◌∙◌, subst, arith, Bool, true, false, cond, Option, Some, Result, Ok, Err, append_assoc, append-nil}
use Rattle.std.specs.Prelude.{slice_get, nat_lt}
use Rattle.std.specs.List.{flat_map}
use Rattle.std.proofs.lemmas.Grind.{flat_map-append}
use Rattle.std.proofs.lemmas.List.{take_more, length-append}
use Rattle.std.proofs.lemmas.Option.{slice_get_within, get_or_from_slice_get}
use Rattle.reach.specs.Reach.{has}
use Rattle.type_table.specs.TypeOf.{TypeOf}
use Rattle.lar_typed.specs.Calls.{CallOf}
use Rattle.mono_graph.specs.declared.refused.RefusedCall.{RefusedCall}
use Rattle.mono_graph.specs.Instances.{PlainInstance, same_instance, has_large, target}
use Rattle.mono_graph.specs.Reading.{read_call, read_next, then_read, after}

abbrev pub Call : Type 0
Call = CallOf TypeOf

abbrev pub Found : Type 0
Found = List PlainInstance

-- what is found stays found
pub record Extends (us ws : Found) : Type 0 where
  pub more : Found
  pub is : ws ≡ us ++ more

pub extends_itself : (us : Found) → Extends us us
extends_itself us = record { more = []; is = sym (append-nil us) }

pub extends_twice : (us vs ws : Found) → Extends us vs → Extends vs ws → Extends us ws
extends_twice us vs ws p q = record { more = p.more ++ q.more; is = q.is ∙ ap (λ (xs : Found). xs ++ q.more) p.is ∙ append_assoc us p.more q.more }

read_by : (limit : ℕ) (us ws : Found) (c : Call) (a b d : Bool) (e f : RefusedCall) → cond a (Err e) (cond b (Ok us) (cond d (Ok (us ++ target c ∷ [])) (Err f))) ≡ Ok ws → Extends us ws
read_by limit us ws c true b d e f h = cc
read_by limit us ws c false true d e f h = let same : us ≡ ws = cc in subst (Extends us) same (extends_itself us)
read_by limit us ws c false false true e f h = let same : us ++ target c ∷ [] ≡ ws = cc in record { more = target c ∷ []; is = sym same }
read_by limit us ws c false false false e f h = cc

pub read_extends : (limit : ℕ) (us ws : Found) (c : Call) → read_call limit us c ≡ Ok ws → Extends us ws
read_extends limit us ws c h = read_by limit us ws c (has_large c.generics) (has same_instance (target c) us) (nat_lt (length us) limit) _ _ h

-- an element of a list that is put behind another
pub get_behind : {A : Type 0} (xs ys : List A) (j : ℕ) → slice_get (xs ++ ys) (length xs + j) ≡ slice_get ys j
get_behind [] ys j = let e : 0 + j ≡ j = omega arith in ap (λ (n : ℕ). slice_get ys n) e
get_behind (x ∷ xs) ys j = let e : length (x ∷ xs) + j ≡ suc (length xs + j) = omega arith in ap (λ (n : ℕ). slice_get (x ∷ (xs ++ ys)) n) e ∙ get_behind xs ys j

pub get_before : {A : Type 0} (xs ys : List A) (i : ℕ) (x : A) → slice_get xs i ≡ Some x → slice_get (xs ++ ys) i ≡ Some x
get_before [] ys i x h = cc
get_before (y ∷ xs) ys zero x h = h
get_before (y ∷ xs) ys (suc i) x h = get_before xs ys i x h

module _ (calls : PlainInstance → List Call) where
  -- how many calls the first i members have
  abbrev pub before : ℕ → Found → ℕ
  before i us = length (flat_map calls (take i us))

  -- the calls of member u, at place i, are those from number `before i us` on
  pub call_at : (us : Found) (i j : ℕ) (u : PlainInstance) (c : Call) → slice_get us i ≡ Some u → slice_get (calls u) j ≡ Some c → slice_get (flat_map calls us) (before i us + j) ≡ Some c
  call_at [] i j u c at h = cc
  call_at (x ∷ us) zero j u c at h =
      let same : x ≡ u = cc in
      let e : 0 + j ≡ j = omega arith in
      ap (λ (n : ℕ). slice_get (calls x ++ flat_map calls us) n) e ∙ get_before (calls x) (flat_map calls us) j c (ap (λ (y : PlainInstance). slice_get (calls y) j) same ∙ h)
  call_at (x ∷ us) (suc i) j u c at h =
      let len : length (calls x ++ flat_map calls (take i us)) ≡ length (calls x) + length (flat_map calls (take i us)) = length-append (calls x) (flat_map calls (take i us)) in
      let e : before (suc i) (x ∷ us) + j ≡ length (calls x) + (before i us + j) = omega arith in
      ap (λ (n : ℕ). slice_get (calls x ++ flat_map calls us) n) e ∙ get_behind (calls x) (flat_map calls us) (before i us + j) ∙ call_at us i j u c at h

  pub before_more : (us : Found) (i : ℕ) (u : PlainInstance) → slice_get us i ≡ Some u → before (i + 1) us ≡ before i us + length (calls u)
  before_more us i u at =
      let room : i < length us = slice_get_within us i u at in
      ap (λ (xs : Found). length (flat_map calls xs)) (take_more us i u room ∙ ap (λ (x : PlainInstance). take i us ++ x ∷ []) (get_or_from_slice_get us i u u at))
      ∙ ap length (flat_map-append calls (take i us) (u ∷ []) ∙ ap (λ (xs : List Call). flat_map calls (take i us) ++ xs) (append-nil (calls u)))
      ∙ length-append (flat_map calls (take i us)) (calls u)

  module _ (limit : ℕ) (roots : Found) where
    pub after_read : (n : ℕ) (us : Found) (c : Call) → after calls limit roots n ≡ Ok us → slice_get (flat_map calls us) n ≡ Some c → after calls limit roots (suc n) ≡ read_call limit us c
    after_read n us c h at = ap (λ (r : Result Found RefusedCall). then_read (λ vs. read_next limit vs (slice_get (flat_map calls vs) n)) r) h ∙ ap (λ (o : Option Call). read_next limit us o) at
