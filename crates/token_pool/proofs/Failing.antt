-- What a give to a pool that may fail tells.
use Rattle.std.proofs.Common.{◌≡◌, ℕ, ◌+◌, ◌-◌, ◌<◌, ◌≤◌, eqb, Bool, true, false, nat_lt, if◌then◌else◌, Some, None, List, [], ◌∷◌, ◌++◌, length, sym, refl, ap, subst, arith}
use Rattle.std.proofs.lemmas.Bool.{eqb-true}
use Rattle.std.proofs.lemmas.List.{length-append}
use Rattle.counting.specs.Count.{one_if, times}
use Rattle.counting.proofs.Count.{one_if-same, times-snoc, length-times}
use Rattle.outside.specs.Counts.{last_count}
use Rattle.token_pool.specs.declared.pool.Given.TheVariants.{Done}
use Rattle.token_pool.specs.Pool.{GivenBy, TakenGrew}
use Rattle.token_pool.specs.Faulty.{FaultyState, faulty_told, told_below, IsPart, IsStocked}

one_at : (x byte : ℕ) (b : Bool) → eqb x byte ≡ b → (free bytes : List ℕ) → IsPart free bytes → 1 ≤ times byte bytes - times byte free → times x free + one_if (eqb x byte) ≤ times x bytes
one_at x byte true is free bytes part owed = let e : x ≡ byte = eqb-true x byte is in subst (λ (z : ℕ). times z free + one_if (eqb z byte) ≤ times z bytes) (sym e) (let s = one_if-same byte in omega arith)
one_at x byte false is free bytes part owed = let o : one_if (eqb x byte) ≡ 0 = ap one_if is in let p = part x in omega arith

-- a byte that is owed may be free once more
pub IsPart-more : (byte : ℕ) (free bytes : List ℕ) → IsPart free bytes → 1 ≤ times byte bytes - times byte free → IsPart (free ++ byte ∷ []) bytes
IsPart-more byte free bytes part owed x = let s = times-snoc x byte free in let o = one_at x byte (eqb x byte) refl free bytes part owed in omega arith

-- and there is room for it
pub IsPart-room : (byte : ℕ) (free bytes : List ℕ) → IsPart free bytes → 1 ≤ times byte bytes - times byte free → length free < length bytes
IsPart-room byte free bytes part owed = let l = length-times (byte ∷ free) bytes (λ x. let o = one_at x byte (eqb x byte) refl free bytes part owed in omega arith) in omega arith

pub IsStocked-more : (bytes free free' : List ℕ) (count count' room room' byte : ℕ) → IsStocked bytes free count room → 1 ≤ times byte bytes - times byte free → free' ≡ free ++ byte ∷ [] → count' ≡ count + 1 → room' ≡ room → IsStocked bytes free' count' room'
IsStocked-more bytes free free' count count' room room' byte stocked owed is count_is room_is = record {
  part = subst (λ (z : List ℕ). IsPart z bytes) (sym is) (IsPart-more byte free bytes stocked.part owed);
  count_is = let n = length-append free (byte ∷ []) in let e : length free' ≡ length (free ++ byte ∷ []) = ap length is in let c = stocked.count_is in omega arith;
  fits = let f = stocked.fits in omega arith;
}

told_same : (b : Bool) (count : ℕ) → TakenGrew (if b then Some count else None) 0 (if b then Some count else None)
told_same true count = omega arith
told_same false count = tt

gave : (s s' : FaultyState) (byte : ℕ) → IsPart s.free s.bytes → 1 ≤ times byte s.bytes - times byte s.free → s'.bytes ≡ s.bytes → s'.free ≡ s.free ++ byte ∷ [] → s'.taken ≡ s.taken → s'.calls.faults ≡ s.calls.faults
    → GivenBy (faulty_told s) byte Done (faulty_told s')
gave s s' byte part owed bytes free taken faults = (
  record {
    owed = λ x. let b : times x s'.bytes ≡ times x s.bytes = ap (times x) bytes in let f : times x s'.free ≡ times x (s.free ++ byte ∷ []) = ap (times x) free in let n = times-snoc x byte s.free in let o = one_at x byte (eqb x byte) refl s.free s.bytes part owed in omega arith;
    free = λ x. let f : times x s'.free ≡ times x (s.free ++ byte ∷ []) = ap (times x) free in let n = times-snoc x byte s.free in omega arith;
    taken = subst (λ (count : ℕ). TakenGrew (told_below s.taken) 0 (told_below count)) (sym taken) (told_same (nat_lt s.taken last_count) s.taken);
    faults = omega arith;
  },
  faults,
)

pub faulty_gave : (s s' now : FaultyState) (byte : ℕ) → s ≡ now → IsPart s.free s.bytes → 1 ≤ times byte s.bytes - times byte s.free → s'.bytes ≡ s.bytes → s'.free ≡ s.free ++ byte ∷ [] → s'.taken ≡ s.taken → s'.calls.faults ≡ s.calls.faults
    → GivenBy (faulty_told now) byte Done (faulty_told s')
faulty_gave s s' now byte is part owed bytes free taken faults = subst (λ (z : FaultyState). GivenBy (faulty_told z) byte Done (faulty_told s')) is (gave s s' byte part owed bytes free taken faults)
