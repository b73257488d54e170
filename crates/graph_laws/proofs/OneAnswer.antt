-- There is one answer.
use Rattle.std.proofs.Common.{◌≡◌, ℕ, zero, suc, ◌+◌, ◌≤◌, List, length, sym, ap, ◌∙◌, arith, Option, Result, Ok, Err}
use Rattle.std.specs.Prelude.{slice_get}
use Rattle.std.specs.List.{flat_map}
use Rattle.std.proofs.lemmas.Option.{slice_get_past}
use Rattle.type_table.specs.TypeOf.{TypeOf}
use Rattle.lar_typed.specs.Calls.{CallOf}
use Rattle.mono_graph.specs.declared.refused.RefusedCall.{RefusedCall}
use Rattle.mono_graph.specs.Instances.{PlainInstance}
use Rattle.mono_graph.specs.Reading.{read_next, then_read, after, IsAll, IsRefused}

module _ (calls : PlainInstance → List (CallOf TypeOf)) (limit : ℕ) (roots : List PlainInstance) where
  abbrev Answer : Type 0
  Answer = Result (List PlainInstance) RefusedCall

  stays : (n k : ℕ) (us : List PlainInstance) → after calls limit roots n ≡ Ok us → length (flat_map calls us) ≤ n → after calls limit roots (n + k) ≡ Ok us
  stays n zero us h l = let e : n + 0 ≡ n = omega arith in ap (λ (m : ℕ). after calls limit roots m) e ∙ h
  stays n (suc k) us h l =
      let e : n + suc k ≡ suc (n + k) = omega arith in
      ap (λ (m : ℕ). after calls limit roots m) e
      ∙ ap (λ (r : Answer). then_read (λ vs. read_next limit vs (slice_get (flat_map calls vs) (n + k))) r) (stays n k us h l)
      ∙ ap (λ (o : Option (CallOf TypeOf)). read_next limit us o) (slice_get_past (flat_map calls us) (n + k) (omega arith))

  stops : (n k : ℕ) (e : RefusedCall) → after calls limit roots n ≡ Err e → after calls limit roots (n + k) ≡ Err e
  stops n zero x h = let e : n + 0 ≡ n = omega arith in ap (λ (m : ℕ). after calls limit roots m) e ∙ h
  stops n (suc k) x h =
      let e : n + suc k ≡ suc (n + k) = omega arith in
      ap (λ (m : ℕ). after calls limit roots m) e ∙ ap (λ (r : Answer). then_read (λ vs. read_next limit vs (slice_get (flat_map calls vs) (n + k))) r) (stops n k x h)

  pub one_all : (us ws : List PlainInstance) → IsAll calls limit roots us → IsAll calls limit roots ws → us ≡ ws
  one_all us ws a b =
      let p : after calls limit roots (a.count + b.count) ≡ Ok us = stays a.count b.count us a.read a.done in
      let q : after calls limit roots (b.count + a.count) ≡ Ok ws = stays b.count a.count ws b.read b.done in
      let e : a.count + b.count ≡ b.count + a.count = omega arith in
      let same : Ok us ≡ Ok ws = sym p ∙ ap (λ (m : ℕ). after calls limit roots m) e ∙ q in
      cc

  pub one_refused : (x y : RefusedCall) → IsRefused calls limit roots x → IsRefused calls limit roots y → x ≡ y
  one_refused x y a b =
      let p : after calls limit roots (a.count + b.count) ≡ Err x = stops a.count b.count x a.stops in
      let q : after calls limit roots (b.count + a.count) ≡ Err y = stops b.count a.count y b.stops in
      let e : a.count + b.count ≡ b.count + a.count = omega arith in
      let same : Err x ≡ Err y = sym p ∙ ap (λ (m : ℕ). after calls limit roots m) e ∙ q in
      cc

  pub not_both : (us : List PlainInstance) (x : RefusedCall) → IsAll calls limit roots us → IsRefused calls limit roots x → ⊥
  not_both us x a b =
      let p : after calls limit roots (a.count + b.count) ≡ Ok us = stays a.count b.count us a.read a.done in
      let q : after calls limit roots (b.count + a.count) ≡ Err x = stops b.count a.count x b.stops in
      let e : a.count + b.count ≡ b.count + a.count = omega arith in
      let same : Ok us ≡ Err x = sym p ∙ ap (λ (m : ℕ). after calls limit roots m) e ∙ q in
      cc
