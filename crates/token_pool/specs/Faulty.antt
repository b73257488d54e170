-- What contracts see of a pool that fails at the calls that it is told, and what its calls change.
use Rattle.std.specs.Prelude.{◌≡◌, ℕ, ◌-◌, ◌≤◌, true, false, nat_lt, if◌then◌else◌, List, ◌∷◌, ◌++◌, [], length, Contains, Option, Some, None}
use Rattle.counting.specs.Count.{times}
use Rattle.outside.specs.Counts.{last_count, raised}
use Rattle.outside.specs.CallsState.{CallsState, after_call}
use Rattle.token_pool.specs.declared.pool.Take.{Take}
use Rattle.token_pool.specs.declared.pool.Take.TheVariants.{Byte, Empty, Failed as TakeFailed}
use Rattle.token_pool.specs.declared.pool.Given.{Given}
use Rattle.token_pool.specs.declared.pool.Given.TheVariants.{Done, Failed as GiveFailed}
use Rattle.token_pool.specs.Pool.{PoolState}

-- bytes: those that the pool was made with. free: the free ones, the one that is free for longest first. taken: takes that answered a byte. calls: those made and to fail
pub record FaultyState : Type 0 where
  pub bytes : List ℕ
  pub free : List ℕ
  pub taken : ℕ
  pub calls : CallsState

-- a count that is told while it is below its last value
abbrev pub told_below : ℕ → Option ℕ
told_below count = if nat_lt count last_count then Some count else None

-- what is not free of the bytes that the pool was made with is owed
abbrev pub faulty_told : FaultyState → PoolState
faulty_told s = record { owed = λ x. times x s.bytes - times x s.free; free = Some (λ x. times x s.free); faults = s.calls.faults; taken = told_below s.taken }

-- no byte is free more often than the pool was made with it
abbrev pub IsPart : List ℕ → List ℕ → Type 0
IsPart free bytes = (x : ℕ) → times x free ≤ times x bytes

-- so are these free ones, of which there are so many, and there is room for all
pub record IsStocked (bytes free : List ℕ) (count room : ℕ) : Type 0 where
  pub part : IsPart free bytes
  pub count_is : count ≡ length free
  pub fits : length bytes ≤ room

-- the next call is one of those that are to fail
abbrev pub IsToFail : CallsState → Type 0
IsToFail calls = Contains calls.failing calls.calls

-- a take fails exactly where it is to; else it answers the first free byte, or Empty where there is none
abbrev pub FaultyTook : FaultyState → Take → FaultyState → Type 0
FaultyTook before (Byte byte) after =
    (¬ IsToFail before.calls) × (before.free ≡ byte ∷ after.free)
    × (after ≡ record before { free = after.free; taken = raised before.taken 1; calls = after_call false before.calls })
FaultyTook before Empty after = (¬ IsToFail before.calls) × (before.free ≡ []) × (after ≡ record before { calls = after_call false before.calls })
FaultyTook before TakeFailed after = IsToFail before.calls × (after ≡ record before { calls = after_call true before.calls })

-- a give fails exactly where it is to; else the byte is free, behind the others
abbrev pub FaultyGave : FaultyState → ℕ → Given → FaultyState → Type 0
FaultyGave before byte Done after = (¬ IsToFail before.calls) × (after ≡ record before { free = before.free ++ byte ∷ []; calls = after_call false before.calls })
FaultyGave before byte GiveFailed after = IsToFail before.calls × (after ≡ record before { calls = after_call true before.calls })

-- a new pool: these bytes, all of them free, and no call yet
abbrev pub new_faulty : List ℕ → List ℕ → FaultyState
new_faulty bytes failing = record { bytes = bytes; free = bytes; taken = 0; calls = record { failing = failing; calls = 0; faults = 0 } }
