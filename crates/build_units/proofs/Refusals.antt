-- The text of a refused call names nothing.
use Rattle.std.proofs.Common.{◌≡◌, ℕ, zero, suc, Bool, true, false, List, nat_lt, length, Option, Some, None, Result, Ok, Err, refl, slice_get, subst}
use Rattle.std.specs.List.{flat_map}
use Rattle.lar_source.specs.Code.{arity}
use Rattle.type_table.specs.TypeOf.{TypeOf}
use Rattle.lar_typed.specs.Calls.{CallOf}
use Rattle.lar_typed.specs.TreeView.{Contents, plain}
use Rattle.reach.specs.Reach.{has}
use Rattle.mono_graph.specs.declared.refused.RefusedCall.{RefusedCall}
use Rattle.mono_graph.specs.Instances.{PlainInstance, same_instance, has_large, target, calls_of, roots}
use Rattle.mono_graph.specs.Reading.{read_call, read_next, then_read, after, IsRefused}
use Rattle.mono_graph.specs.Graphs.{max_instances}

-- it names nothing, where there is one
abbrev Nameless : Result (List PlainInstance) RefusedCall → Type 0
Nameless (Ok us) = Unit {0}
Nameless (Err e) = arity e.code ≡ 0

call_by : (limit : ℕ) (us : List PlainInstance) (c : CallOf TypeOf) (large there room : Bool) → has_large c.generics ≡ large → has same_instance (target c) us ≡ there → nat_lt (length us) limit ≡ room → Nameless (read_call limit us c)
call_by limit us c true there room l t r = rw l refl
call_by limit us c false true room l t r = rw (l, t) tt
call_by limit us c false false true l t r = rw (l, t, r) tt
call_by limit us c false false false l t r = rw (l, t, r) refl

next : (limit : ℕ) (us : List PlainInstance) (o : Option (CallOf TypeOf)) → Nameless (read_next limit us o)
next limit us None = tt
next limit us (Some c) = call_by limit us c (has_large c.generics) (has same_instance (target c) us) (nat_lt (length us) limit) refl refl refl

then : (read : List PlainInstance → Result (List PlainInstance) RefusedCall) → ((us : List PlainInstance) → Nameless (read us)) → (r : Result (List PlainInstance) RefusedCall) → Nameless r → Nameless (then_read read r)
then read each (Ok us) h = each us
then read each (Err e) h = h

nameless : (calls : PlainInstance → List (CallOf TypeOf)) (limit : ℕ) (rs : List PlainInstance) (n : ℕ) → Nameless (after calls limit rs n)
nameless calls limit rs zero = tt
nameless calls limit rs (suc n) = then (λ us. read_next limit us (slice_get (flat_map calls us) n)) (λ us. next limit us (slice_get (flat_map calls us) n)) (after calls limit rs n) (nameless calls limit rs n)

pub no_names : (tree : Contents) (e : RefusedCall) → IsRefused (calls_of (plain tree)) max_instances (roots (plain tree)) e → arity e.code ≡ 0
no_names tree e r = subst Nameless r.stops (nameless (calls_of (plain tree)) max_instances (roots (plain tree)) r.count)
