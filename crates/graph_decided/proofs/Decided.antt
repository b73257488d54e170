-- Reading calls ends: all is found, or a call is refused.
use Rattle.std.proofs.Common.{◌≡◌, ℕ, zero, suc, ◌+◌, ◌<◌, ◌≤◌, ◌⊎◌, List, [], ◌∷◌, ◌++◌, length, ap, ◌∙◌, arith, Bool, true, false, cond, Option, Some, None, Result, Ok, Err, refl, inl, inr}
use Rattle.std.specs.Prelude.{slice_get, nat_lt}
use Rattle.std.specs.List.{flat_map}
use Rattle.std.proofs.lemmas.List.{length_push}
use Rattle.reach.specs.Reach.{has}
use Rattle.type_table.specs.TypeOf.{TypeOf}
use Rattle.lar_typed.specs.Calls.{CallOf}
use Rattle.mono_graph.specs.declared.refused.RefusedCall.{RefusedCall}
use Rattle.mono_graph.specs.Instances.{PlainInstance, same_instance, has_large, target}
use Rattle.mono_graph.specs.Reading.{read_call, read_next, then_read, after, IsAll, IsRefused}

abbrev pub Call : Type 0
Call = CallOf TypeOf

abbrev pub Found : Type 0
Found = List PlainInstance

-- what is read of a call: it is refused, nothing new is found, or one more instance is found, which is below the limit
data Read (limit : ℕ) (us : Found) : Result Found RefusedCall → Type 0 where
  refused : (e : RefusedCall) → Read limit us (Err e)
  known : Read limit us (Ok us)
  new : (x : PlainInstance) → length us < limit → Read limit us (Ok (us ++ x ∷ []))

below : (n limit : ℕ) → nat_lt n limit ≡ true → n < limit
below n limit h = grind arith

read_by : (limit : ℕ) (us : Found) (c : Call) (large there : Bool) (room : Bool) → nat_lt (length us) limit ≡ room → (e f : RefusedCall) → Read limit us (cond large (Err e) (cond there (Ok us) (cond room (Ok (us ++ target c ∷ [])) (Err f))))
read_by limit us c true there room is e f = refused e
read_by limit us c false true room is e f = known
read_by limit us c false false true is e f = new (target c) (below (length us) limit is)
read_by limit us c false false false is e f = refused f

read_call_is : (limit : ℕ) (us : Found) (c : Call) → Read limit us (read_call limit us c)
read_call_is limit us c = read_by limit us c (has_large c.generics) (has same_instance (target c) us) (nat_lt (length us) limit) refl _ _

nothing_at : {A : Type 0} (xs : List A) (n : ℕ) → slice_get xs n ≡ None → length xs ≤ n
nothing_at [] n h = omega arith
nothing_at (x ∷ xs) zero h = cc
nothing_at (x ∷ xs) (suc n) h = let r = nothing_at xs n h in omega arith

module _ (calls : PlainInstance → List Call) (limit : ℕ) (roots : Found) where
  -- how reading ends
  abbrev pub Ended : Type 0
  Ended = ((us : Found) × IsAll calls limit roots us) ⊎ ((e : RefusedCall) × IsRefused calls limit roots e)

  -- what is to be done where one more is found
  abbrev pub Further : Found → Type 0
  Further us = (m : ℕ) (ws : Found) → after calls limit roots m ≡ Ok ws → length ws ≡ length us + 1 → length us < limit → Ended

  -- the next of all calls is read
  read_on : (n : ℕ) (us : Found) (r : Result Found RefusedCall) → Read limit us r → after calls limit roots (suc n) ≡ r → (after calls limit roots (suc n) ≡ Ok us → Ended) → Further us → Ended
  read_on n us (Err d) (refused e) is again further = inr (e, record { count = suc n; stops = is })
  read_on n us (Ok ws) known is again further = again is
  read_on n us (Ok ws) (new x room) is again further = further (suc n) ws is (length_push us x) room

  -- what is read next, where us is found
  pub next_is : (n : ℕ) (us : Found) → after calls limit roots n ≡ Ok us → after calls limit roots (suc n) ≡ read_next limit us (slice_get (flat_map calls us) n)
  next_is n us at = ap (then_read (λ (ws : Found). read_next limit ws (slice_get (flat_map calls ws) n))) at

  -- so many calls of what is found are left to be read
  read_rest : (left n : ℕ) (us : Found) → after calls limit roots n ≡ Ok us → length (flat_map calls us) ≤ n + left → Further us → Ended
  read_rest zero n us at few further = inl (us, record { count = n; read = at; done = omega arith })
  read_rest (suc left) n us at few further = by (slice_get (flat_map calls us) n) refl (λ is. read_rest left (suc n) us is (omega arith) further)
    where
      by : (o : Option Call) → slice_get (flat_map calls us) n ≡ o → (after calls limit roots (suc n) ≡ Ok us → Ended) → Ended
      by None none again = inl (us, record { count = n; read = at; done = nothing_at (flat_map calls us) n none })
      by (Some c) some again = read_on n us (read_call limit us c) (read_call_is limit us c) (next_is n us at ∙ ap (read_next limit us) some) again further

  -- so many instances more may be found
  read_all : (room n : ℕ) (us : Found) → after calls limit roots n ≡ Ok us → limit ≤ length us + room → Ended
  read_all zero n us at most = read_rest (length (flat_map calls us)) n us at (omega arith) (λ m ws is longer small. absurd (omega arith))
  read_all (suc room) n us at most = read_rest (length (flat_map calls us)) n us at (omega arith) (λ m ws is longer small. read_all room m ws is (omega arith))

  -- all is found, or a call is refused
  pub decided : Ended
  decided = read_all limit 0 roots refl (omega arith)
