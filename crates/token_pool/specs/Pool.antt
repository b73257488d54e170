-- What a pool of tokens tells, and what calls on it change.
use Rattle.std.specs.Prelude.{◌≡◌, ℕ, ◌+◌, ◌==◌, ◌≤◌, Option, Some, None}
use Rattle.counting.specs.Count.{one_if}
use Rattle.outside.specs.Counts.{raised}
use Rattle.token_pool.specs.declared.pool.Take.{Take}
use Rattle.token_pool.specs.declared.pool.Take.TheVariants.{Byte, Empty, Failed as TakeFailed}
use Rattle.token_pool.specs.declared.pool.Given.{Given}
use Rattle.token_pool.specs.declared.pool.Given.TheVariants.{Done, Failed as GiveFailed}

-- a bag of bytes: how often each is in it
abbrev pub Bag : Type 0
Bag = ℕ → ℕ

-- owed: bytes taken and not given back through this object. free: bytes that can be taken, where told. taken: takes that answered a byte so far, where told
pub record PoolState : Type 0 where
  pub owed : Bag
  pub free : Option Bag
  pub faults : ℕ
  pub taken : Option ℕ

abbrev pub no_byte : Bag
no_byte x = 0

abbrev pub one_byte : ℕ → Bag
one_byte byte x = one_if (x == byte)

-- a bag gains some bytes and loses some
abbrev pub Moved : Bag → Bag → Bag → Bag → Type 0
Moved before gains loses after = (x : ℕ) → after x + loses x ≡ before x + gains x

-- the same of free bytes, where they are told: what is told before is told after
abbrev pub FreeMoved : Option Bag → Bag → Bag → Option Bag → Type 0
FreeMoved (Some before) gains loses (Some after) = Moved before gains loses after
FreeMoved (Some before) gains loses None = ⊥
FreeMoved None gains loses after = Unit {0}

-- the number of takes that answered a byte grows by so many, where it is told: what is told after was told before
abbrev pub TakenGrew : Option ℕ → ℕ → Option ℕ → Type 0
TakenGrew (Some before) more (Some after) = after ≡ before + more
TakenGrew None more (Some after) = ⊥
TakenGrew before more None = Unit {0}

-- calls took and gave these bytes, answered a byte so often, and failed so often
pub record Dealt (before : PoolState) (took gave : Bag) (count failed : ℕ) (after : PoolState) : Type 0 where
  pub owed : Moved before.owed took gave after.owed
  pub free : FreeMoved before.free gave took after.free
  pub taken : TakenGrew before.taken count after.taken
  pub faults : raised before.faults failed ≤ after.faults

-- where the free bytes are told, there is none
abbrev pub NoneFree : Option Bag → Type 0
NoneFree (Some free) = (x : ℕ) → free x ≡ 0
NoneFree None = Unit {0}

-- a take: a byte is owed and no longer free; Empty only where no byte is free; Failed only where the count of faults rose
abbrev pub TakenBy : PoolState → Take → PoolState → Type 0
TakenBy before (Byte byte) after = Dealt before (one_byte byte) no_byte 1 0 after × (after.faults ≡ before.faults)
TakenBy before Empty after = Dealt before no_byte no_byte 0 0 after × (after.faults ≡ before.faults) × NoneFree before.free
TakenBy before TakeFailed after = Dealt before no_byte no_byte 0 1 after

-- a give: the byte is free and no longer owed; Failed only where the count of faults rose
abbrev pub GivenBy : PoolState → ℕ → Given → PoolState → Type 0
GivenBy before byte Done after = Dealt before no_byte (one_byte byte) 0 0 after × (after.faults ≡ before.faults)
GivenBy before byte GiveFailed after = Dealt before no_byte no_byte 0 1 after
