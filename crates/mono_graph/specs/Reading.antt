-- What is found by reading calls.
use Rattle.std.specs.Prelude.{◌≡◌, ℕ, zero, suc, ◌≤◌, List, [], ◌∷◌, ◌++◌, length, slice_get, Option, Some, None, Result, Ok, Err, if◌then◌else◌, nat_lt}
use Rattle.std.specs.List.{flat_map}
use Rattle.reach.specs.Reach.{has}
use Rattle.lar_source.specs.declared.code.Code.TheVariants.{ArgumentTooLarge, TooManyInstances}
use Rattle.type_table.specs.TypeOf.{TypeOf}
use Rattle.lar_typed.specs.Calls.{CallOf}
use Rattle.mono_graph.specs.declared.refused.RefusedCall.{RefusedCall}
use Rattle.mono_graph.specs.Instances.{PlainInstance, same_instance, has_large, target}

-- One call is read where us is found so far: its target is found, unless it is refused.
abbrev pub read_call : ℕ → List PlainInstance → CallOf TypeOf → Result (List PlainInstance) RefusedCall
read_call limit us c = if has_large c.generics then Err (record { code = ArgumentTooLarge; at = c.at }) else (if has same_instance (target c) us then Ok us else (if nat_lt (length us) limit then Ok (us ++ target c ∷ []) else Err (record { code = TooManyInstances; at = c.at })))

-- where there is no call any more, all is found
abbrev pub read_next : ℕ → List PlainInstance → Option (CallOf TypeOf) → Result (List PlainInstance) RefusedCall
read_next limit us None = Ok us
read_next limit us (Some c) = read_call limit us c

abbrev pub then_read : (List PlainInstance → Result (List PlainInstance) RefusedCall) → Result (List PlainInstance) RefusedCall → Result (List PlainInstance) RefusedCall
then_read read (Ok us) = read us
then_read read (Err e) = Err e

-- What is found when n calls are read. The next call to be read is number n, from 0, of the calls of all that is found so far; these
-- are the calls of its members, by member and then in reading order.
abbrev pub after : (PlainInstance → List (CallOf TypeOf)) → ℕ → List PlainInstance → ℕ → Result (List PlainInstance) RefusedCall
after calls limit roots zero = Ok roots
after calls limit roots (suc n) = then_read (λ us. read_next limit us (slice_get (flat_map calls us) n)) (after calls limit roots n)

-- us is found, and all its calls are read
pub record IsAll (calls : PlainInstance → List (CallOf TypeOf)) (limit : ℕ) (roots us : List PlainInstance) : Type 0 where
  pub count : ℕ
  pub read : after calls limit roots count ≡ Ok us
  pub done : length (flat_map calls us) ≤ count

-- the first call that is refused
pub record IsRefused (calls : PlainInstance → List (CallOf TypeOf)) (limit : ℕ) (roots : List PlainInstance) (e : RefusedCall) : Type 0 where
  pub count : ℕ
  pub stops : after calls limit roots count ≡ Err e
