-- What holds of what is found.
use Rattle.std.proofs.Common.{◌≡◌, ℕ, zero, suc, ◌+◌, ◌<◌, ◌≤◌, List, [], ◌∷◌, ◌++◌, length, map, take, get_or, refl, sym, ap, ◌∙◌, subst as transport, arith, Bool, true, false, cond, ◌||◌, ◌⊎◌, inl, inr, ⊎_elim, Option, Some, None, Result, Ok, Err}
use Rattle.std.specs.Prelude.{slice_get, nat_lt}
use Rattle.std.specs.List.{AllByRecursion, flat_map, IsDistinct}
use Rattle.std.proofs.lemmas.Grind.{flat_map-append}
use Rattle.std.proofs.lemmas.Bool.{cases_lt}
use Rattle.std.proofs.lemmas.List.{length_push, take_more, take_all, take-append-le, map_push, map-append, get_or_append_left, get_or_at}
use Rattle.std.proofs.lemmas.Option.{slice_get_within, get_or_from_slice_get}
use borrow.Author.Tests.{ltb-true}
use Rattle.reach.specs.Reach.{has, added, IsFound}
use Rattle.reach.proofs.Found.{added_append, once_added}
use Rattle.type_table.specs.TypeOf.{TypeOf}
use Rattle.lar_typed.specs.Calls.{CallOf}
use Rattle.mono_graph.specs.declared.refused.RefusedCall.{RefusedCall}
use Rattle.mono_graph.specs.Instances.{PlainInstance, same_instance, has_large, target}
use Rattle.mono_graph.specs.Reading.{read_call, read_next, then_read, after, IsAll}
use Rattle.graph_laws.proofs.Same.{same_is, same_laws}

abbrev Call : Type 0
Call = CallOf TypeOf

abbrev List_ : Type 0
List_ = List PlainInstance

-- what reading a call that is not refused comes to
pub record ReadOne (limit : ℕ) (us ws : List PlainInstance) (c : CallOf TypeOf) : Type 0 where
  pub small : has_large c.generics ≡ false
  pub case : ((has same_instance (target c) us ≡ true) × (ws ≡ us)) ⊎ ((has same_instance (target c) us ≡ false) × ((length us < limit) × (ws ≡ us ++ target c ∷ [])))

one_by : (limit : ℕ) (us ws : List PlainInstance) (c : Call) (a b d : Bool) (e f : RefusedCall) → has_large c.generics ≡ a → has same_instance (target c) us ≡ b → nat_lt (length us) limit ≡ d → cond a (Err e) (cond b (Ok us) (cond d (Ok (us ++ target c ∷ [])) (Err f))) ≡ Ok ws → ReadOne limit us ws c
one_by limit us ws c true b d e f p q r h = cc
one_by limit us ws c false true d e f p q r h = let same : us ≡ ws = cc in record { small = p; case = inl (q, sym same) }
one_by limit us ws c false false true e f p q r h = let same : us ++ target c ∷ [] ≡ ws = cc in record { small = p; case = inr (q, (ltb-true (length us) limit r, sym same)) }
one_by limit us ws c false false false e f p q r h = cc

pub read_one : (limit : ℕ) (us ws : List PlainInstance) (c : Call) → read_call limit us c ≡ Ok ws → ReadOne limit us ws c
read_one limit us ws c h = one_by limit us ws c (has_large c.generics) (has same_instance (target c) us) (nat_lt (length us) limit) _ _ refl refl refl h

module _ (calls : PlainInstance → List Call) (limit : ℕ) (roots : List PlainInstance) where
  -- what holds at the roots and stays with each call holds at the end
  pub by_steps : (P : ℕ → List PlainInstance → Type 0) → P 0 roots
      → ((n : ℕ) (us : List PlainInstance) → P n us → slice_get (flat_map calls us) n ≡ None → P (suc n) us)
      → ((n : ℕ) (us ws : List PlainInstance) (c : Call) → P n us → slice_get (flat_map calls us) n ≡ Some c → ReadOne limit us ws c → P (suc n) ws)
      → (n : ℕ) (us : List PlainInstance) → after calls limit roots n ≡ Ok us → P n us
  by_steps P base stays more zero us h = let same : roots ≡ us = cc in transport (P 0) same base
  by_steps P base stays more (suc n) ws h = step (after calls limit roots n) refl h (by_steps P base stays more n)
    where
      next : (us : List PlainInstance) → P n us → (o : Option Call) → slice_get (flat_map calls us) n ≡ o → read_next limit us o ≡ Ok ws → P (suc n) ws
      next us p None at e = let same : us ≡ ws = cc in transport (P (suc n)) same (stays n us p at)
      next us p (Some c) at e = more n us ws c p at (read_one limit us ws c e)

      step : (r : Result (List PlainInstance) RefusedCall) → after calls limit roots n ≡ r → then_read (λ us. read_next limit us (slice_get (flat_map calls us) n)) r ≡ Ok ws → ((us : List PlainInstance) → after calls limit roots n ≡ Ok us → P n us) → P (suc n) ws
      step (Ok us) is e ih = next us (ih us is) (slice_get (flat_map calls us) n) refl e
      step (Err x) is e ih = cc

all_push : (P : PlainInstance → Type 0) (us : List PlainInstance) (x : PlainInstance) → AllByRecursion P us → P x → AllByRecursion P (us ++ x ∷ [])
all_push P [] x h p = (p, tt)
all_push P (u ∷ us) x h p = (h.0, all_push P us x h.1 p)

all_joined : {A : Type 0} (P : A → Type 0) (xs ys : List A) → AllByRecursion P xs → AllByRecursion P ys → AllByRecursion P (xs ++ ys)
all_joined P [] ys h k = k
all_joined P (x ∷ xs) ys h k = (h.0, all_joined P xs ys h.1 k)

all_flat : (P : PlainInstance → Type 0) (Q : Call → Type 0) (calls : PlainInstance → List Call) → ((u : PlainInstance) → P u → AllByRecursion Q (calls u)) → (us : List PlainInstance) → AllByRecursion P us → AllByRecursion Q (flat_map calls us)
all_flat P Q calls f [] h = tt
all_flat P Q calls f (u ∷ us) h = all_joined Q (calls u) (flat_map calls us) (f u h.0) (all_flat P Q calls f us h.1)

all_got : {A : Type 0} (P : A → Type 0) (xs : List A) (i : ℕ) (x : A) → AllByRecursion P xs → slice_get xs i ≡ Some x → P x
all_got P [] i x h e = cc
all_got P (y ∷ xs) zero x h e = let same : y ≡ x = cc in transport P same h.0
all_got P (y ∷ xs) (suc i) x h e = all_got P xs i x h.1 e

-- what holds of the roots and goes on along calls holds of all that is found
pub found_keeps : (P : PlainInstance → Type 0) (calls : PlainInstance → List Call) (limit : ℕ) (roots : List PlainInstance) → AllByRecursion P roots → ((u : PlainInstance) → P u → AllByRecursion (λ c. P (target c)) (calls u)) → (n : ℕ) (us : List PlainInstance) → after calls limit roots n ≡ Ok us → AllByRecursion P us
found_keeps P calls limit roots base on n us h = by_steps calls limit roots (λ n us. AllByRecursion P us) base (λ n us p e. p) more n us h
  where
    more : (n : ℕ) (us ws : List PlainInstance) (c : Call) → AllByRecursion P us → slice_get (flat_map calls us) n ≡ Some c → ReadOne limit us ws c → AllByRecursion P ws
    more n us ws c p at r = by r.case
      where
        by : ((has same_instance (target c) us ≡ true) × (ws ≡ us)) ⊎ ((has same_instance (target c) us ≡ false) × ((length us < limit) × (ws ≡ us ++ target c ∷ []))) → AllByRecursion P ws
        by (inl h) = transport (AllByRecursion P) (sym h.1) p
        by (inr h) = transport (AllByRecursion P) (sym h.1.1) (all_push P us (target c) p (all_got (λ c. P (target c)) (flat_map calls us) n c (all_flat P (λ c. P (target c)) calls on us p) at))

-- the targets of an instance's calls
abbrev pub targets_by : (PlainInstance → List (CallOf TypeOf)) → PlainInstance → List PlainInstance
targets_by calls x = map target (calls x)

flat_targets : (calls : PlainInstance → List Call) (us : List PlainInstance) → flat_map (targets_by calls) us ≡ map target (flat_map calls us)
flat_targets calls [] = refl
flat_targets calls (u ∷ us) = ap (λ (xs : List_). map target (calls u) ++ xs) (flat_targets calls us) ∙ sym (map-append target (calls u) (flat_map calls us))

-- the first n calls are read
pub record Reached (calls : PlainInstance → List (CallOf TypeOf)) (limit : ℕ) (roots : List PlainInstance) (n : ℕ) (us : List PlainInstance) : Type 0 where
  pub few : length us ≤ limit
  pub order : us ≡ added same_instance roots (map target (take n (flat_map calls us)))
  pub before : (k : ℕ) (d : PlainInstance) → length roots ≤ k → k < length us → has same_instance (get_or us k d) (flat_map (targets_by calls) (take k us)) ≡ true
  pub small : AllByRecursion (λ c. has_large c.generics ≡ false) (take n (flat_map calls us))

module _ (calls : PlainInstance → List Call) (limit : ℕ) (roots : List PlainInstance) where
  reached_none : length roots ≤ limit → Reached calls limit roots 0 roots
  reached_none few = record { few = few; order = refl; before = λ k d from l. absurd (omega arith); small = tt }

  past : (n : ℕ) (xs : List Call) → slice_get xs n ≡ None → length xs ≤ n
  past n [] e = omega arith
  past zero (x ∷ xs) e = cc
  past (suc n) (x ∷ xs) e = let r = past n xs e in omega arith

  reached_stays : (n : ℕ) (us : List PlainInstance) → Reached calls limit roots n us → slice_get (flat_map calls us) n ≡ None → Reached calls limit roots (suc n) us
  reached_stays n us r at =
      let over : length (flat_map calls us) ≤ n = past n (flat_map calls us) at in
      let same : take n (flat_map calls us) ≡ take (suc n) (flat_map calls us) = take_all n (flat_map calls us) over ∙ sym (take_all (suc n) (flat_map calls us) (omega arith)) in
      record { few = r.few; order = r.order ∙ ap (λ (cs : List Call). added same_instance roots (map target cs)) same; before = r.before; small = transport (AllByRecursion (λ c. has_large c.generics ≡ false)) same r.small }

  all_last : (P : Call → Type 0) (cs : List Call) (c : Call) → AllByRecursion P cs → P c → AllByRecursion P (cs ++ c ∷ [])
  all_last P cs c h p = all_joined P cs (c ∷ []) h (p, tt)

  has_here : (us : List PlainInstance) (k : ℕ) (c : Call) → slice_get (flat_map calls us) k ≡ Some c → has same_instance (target c) (flat_map (targets_by calls) us) ≡ true
  has_here us k c at = ap (has same_instance (target c)) (flat_targets calls us) ∙ there (flat_map calls us) k at
    where
      or_right : (a b : Bool) → b ≡ true → (a || b) ≡ true
      or_right true b h = refl
      or_right false b h = h

      there : (cs : List Call) (k : ℕ) → slice_get cs k ≡ Some c → has same_instance (target c) (map target cs) ≡ true
      there [] k e = cc
      there (x ∷ cs) zero e = let same : x ≡ c = cc in let t : same_instance (target c) (target x) ≡ true = transport (λ (y : Call). same_instance (target c) (target y) ≡ true) (sym same) (same_laws.refl (target c)) in rw t refl
      there (x ∷ cs) (suc k) e = or_right (same_instance (target c) (target x)) (has same_instance (target c) (map target cs)) (there cs k e)

  module _ (n : ℕ) (us : List PlainInstance) (c : Call) (r : Reached calls limit roots n us) (at : slice_get (flat_map calls us) n ≡ Some c) (small : has_large c.generics ≡ false) where
    room : n < length (flat_map calls us)
    room = slice_get_within (flat_map calls us) n c at

    front : take (suc n) (flat_map calls us) ≡ take n (flat_map calls us) ++ c ∷ []
    front = let s : suc n ≡ n + 1 = omega arith in ap (λ (m : ℕ). take m (flat_map calls us)) s ∙ take_more (flat_map calls us) n c room ∙ ap (λ (x : Call). take n (flat_map calls us) ++ x ∷ []) (get_or_from_slice_get (flat_map calls us) n c c at)

    order_now : added same_instance roots (map target (take (suc n) (flat_map calls us))) ≡ cond (has same_instance (target c) us) us (us ++ target c ∷ [])
    order_now = ap (λ (cs : List Call). added same_instance roots (map target cs)) front ∙ ap (added same_instance roots) (map_push target (take n (flat_map calls us)) c)
        ∙ added_append same_instance same_laws same_is roots (map target (take n (flat_map calls us))) (target c ∷ [])
        ∙ sym (ap (λ (vs : List_). cond (has same_instance (target c) vs) vs (vs ++ target c ∷ [])) r.order)

    reached_known : has same_instance (target c) us ≡ true → Reached calls limit roots (suc n) us
    reached_known known = record {
      few = r.few;
      order = sym (order_now ∙ ap (λ (b : Bool). cond b us (us ++ target c ∷ [])) known);
      before = r.before;
      small = transport (AllByRecursion (λ x. has_large x.generics ≡ false)) (sym front) (all_last (λ x. has_large x.generics ≡ false) (take n (flat_map calls us)) c r.small small);
    }

    reached_new : has same_instance (target c) us ≡ false → length us < limit → Reached calls limit roots (suc n) (us ++ target c ∷ [])
    reached_new none less =
        let flat : flat_map calls (us ++ target c ∷ []) ≡ flat_map calls us ++ flat_map calls (target c ∷ []) = flat_map-append calls us (target c ∷ []) in
        let prefix : take (suc n) (flat_map calls (us ++ target c ∷ [])) ≡ take (suc n) (flat_map calls us) = ap (take (suc n)) flat ∙ take-append-le (suc n) (flat_map calls us) (flat_map calls (target c ∷ [])) (omega (arith, room)) in
        let len : length (us ++ target c ∷ []) ≡ length us + 1 = length_push us (target c) in
        record {
          few = omega arith;
          order = sym (ap (λ (cs : List Call). added same_instance roots (map target cs)) prefix ∙ order_now ∙ ap (λ (b : Bool). cond b us (us ++ target c ∷ [])) none);
          before = λ k d from l. ⊎_elim (λ lt. old k d from lt) (λ ge. new k d (let e : length us ≡ k = omega arith in e)) (cases_lt k (length us));
          small = transport (AllByRecursion (λ x. has_large x.generics ≡ false)) (sym (prefix ∙ front)) (all_last (λ x. has_large x.generics ≡ false) (take n (flat_map calls us)) c r.small small);
        }
      where
        old : (k : ℕ) (d : PlainInstance) → length roots ≤ k → k < length us → has same_instance (get_or (us ++ target c ∷ []) k d) (flat_map (targets_by calls) (take k (us ++ target c ∷ []))) ≡ true
        old k d from lt =
            let a : get_or (us ++ target c ∷ []) k d ≡ get_or us k d = get_or_append_left us (target c ∷ []) d k lt in
            let b : take k (us ++ target c ∷ []) ≡ take k us = take-append-le k us (target c ∷ []) (omega arith) in
            rw (a, b) (r.before k d from lt)

        new : (k : ℕ) (d : PlainInstance) → length us ≡ k → has same_instance (get_or (us ++ target c ∷ []) k d) (flat_map (targets_by calls) (take k (us ++ target c ∷ []))) ≡ true
        new k d e =
            let a : get_or (us ++ target c ∷ []) k d ≡ target c = get_or_at us (target c) [] d k e in
            let b : take k (us ++ target c ∷ []) ≡ us = take-append-le k us (target c ∷ []) (omega arith) ∙ take_all k us (omega arith) in
            rw (a, b) (has_here us n c at)

  pub reached : length roots ≤ limit → (n : ℕ) (us : List PlainInstance) → after calls limit roots n ≡ Ok us → Reached calls limit roots n us
  reached few n us h = by_steps calls limit roots (Reached calls limit roots) (reached_none few) reached_stays more n us h
    where
      more : (n : ℕ) (us ws : List PlainInstance) (c : Call) → Reached calls limit roots n us → slice_get (flat_map calls us) n ≡ Some c → ReadOne limit us ws c → Reached calls limit roots (suc n) ws
      more n us ws c r at one = by one.case
        where
          by : ((has same_instance (target c) us ≡ true) × (ws ≡ us)) ⊎ ((has same_instance (target c) us ≡ false) × ((length us < limit) × (ws ≡ us ++ target c ∷ []))) → Reached calls limit roots (suc n) ws
          by (inl h) = transport (Reached calls limit roots (suc n)) (sym h.1) (reached_known n us c r at one.small h.0)
          by (inr h) = transport (Reached calls limit roots (suc n)) (sym h.1.1) (reached_new n us c r at one.small h.0 h.1.0)

  -- what is found is what the roots reach
  pub found_is : length roots ≤ limit → (us : List PlainInstance) → IsAll calls limit roots us → IsFound same_instance (targets_by calls) roots us
  found_is few us a =
      let r = reached few a.count us a.read in
      record {
        order = r.order ∙ ap (λ (cs : List Call). added same_instance roots (map target cs)) (take_all a.count (flat_map calls us) a.done) ∙ ap (added same_instance roots) (sym (flat_targets calls us));
        before = r.before;
      }

  pub found_small : length roots ≤ limit → (us : List PlainInstance) → IsAll calls limit roots us → AllByRecursion (λ c. has_large c.generics ≡ false) (flat_map calls us)
  found_small few us a = transport (AllByRecursion (λ c. has_large c.generics ≡ false)) (take_all a.count (flat_map calls us) a.done) (reached few a.count us a.read).small

  pub found_few : length roots ≤ limit → (us : List PlainInstance) → IsAll calls limit roots us → length us ≤ limit
  found_few few us a = (reached few a.count us a.read).few

  pub found_distinct : length roots ≤ limit → IsDistinct same_instance roots → (us : List PlainInstance) → IsAll calls limit roots us → IsDistinct same_instance us
  found_distinct few once us a = let r = reached few a.count us a.read in transport (IsDistinct same_instance) (sym r.order) (once_added same_instance same_laws same_is roots (map target (take a.count (flat_map calls us))) once)
