-- What contracts see of a pool in memory and of its passes.
use Rattle.std.specs.Prelude.{◌≡◌, ℕ, zero, suc, ◌+◌, ◌-◌, ◌≤◌, List, [], ◌∷◌, ◌++◌, length, Option, Some, None}
use Rattle.counting.specs.Count.{times}
use Rattle.atomic_table.specs.Seated.{TableId}
use Rattle.token_pool.specs.declared.pool.Take.{Take}
use Rattle.token_pool.specs.declared.pool.Take.TheVariants.{Byte, Empty, Failed as TakeFailed}
use Rattle.token_pool.specs.declared.view.View.{View}
use Rattle.token_pool.specs.declared.view.View.TheVariants.{OfPool, OfPass, Spent}
use Rattle.token_pool.specs.Pool.{Bag, PoolState}
use Rattle.token_pool.specs.View.{hand_of, passes_of, IsCovered}

-- queue: which queue the free bytes lie in. bytes: those that the pool was made with. owed: bytes taken and not given back through this object. passes: passes that are out
pub record MemoryState : Type 0 where
  pub queue : TableId
  pub bytes : List ℕ
  pub owed : List ℕ
  pub passes : ℕ

pub record PassState : Type 0 where
  pub queue : TableId
  pub owed : List ℕ

abbrev pub memory_state : TableId → View → MemoryState
memory_state queue v = record { queue = queue; bytes = (hand_of v).bytes; owed = (hand_of v).owed; passes = passes_of v }

abbrev pub pass_state : TableId → View → PassState
pass_state queue v = record { queue = queue; owed = (hand_of v).owed }

-- a bag that is told while no pass is out
abbrev pub told_alone : ℕ → Bag → Option Bag
told_alone zero bag = Some bag
told_alone (suc passes) bag = None

-- the pool tells its free bytes while no pass is out: those that it was made with and does not owe
abbrev pub memory_told : MemoryState → PoolState
memory_told s = record { owed = λ x. times x s.owed; free = told_alone s.passes (λ x. times x s.bytes - times x s.owed); faults = 0; taken = None }

-- a pass does not tell the free bytes
abbrev pub pass_told : PassState → PoolState
pass_told s = record { owed = λ x. times x s.owed; free = None; faults = 0; taken = None }

-- the view is the pool's own, and the queue has room for all bytes
pub record IsPool (v : View) (room : ℕ) : Type 0 where
  pub own : v ≡ OfPool (hand_of v) (passes_of v)
  pub covered : IsCovered (hand_of v)
  pub fits : length (hand_of v).bytes ≤ room

-- the view is a pass's, and the queue has room for all bytes
pub record IsPass (v : View) (room : ℕ) : Type 0 where
  pub out : v ≡ OfPass (hand_of v)
  pub fits : length (hand_of v).bytes ≤ room

-- a take of the pool answers a byte, which it owes then, or none; it never fails
abbrev pub MemoryTook : MemoryState → Take → MemoryState → Type 0
MemoryTook before (Byte byte) after = after ≡ record before { owed = before.owed ++ byte ∷ [] }
MemoryTook before Empty after = after ≡ before
MemoryTook before TakeFailed after = ⊥

-- the same of a pass
abbrev pub PassTook : PassState → Take → PassState → Type 0
PassTook before (Byte byte) after = after ≡ record before { owed = before.owed ++ byte ∷ [] }
PassTook before Empty after = after ≡ before
PassTook before TakeFailed after = ⊥

-- these are the free bytes, where they are told
abbrev pub AreFree : Option Bag → List ℕ → Type 0
AreFree (Some free) bytes = (x : ℕ) → times x bytes ≡ free x
AreFree None bytes = Unit {0}

-- a new pool: these bytes, nothing owed and no pass out
pub record IsNewPool (bytes : List ℕ) (pool : MemoryState) : Type 0 where
  pub bytes_are : pool.bytes ≡ bytes
  pub owed : pool.owed ≡ []
  pub passes : pool.passes ≡ 0

-- where no pass is out, these are the bytes that the pool was made with and does not owe
abbrev pub IsRest : View → List ℕ → Type 0
IsRest (OfPool hand zero) rest = (x : ℕ) → times x rest + times x hand.owed ≡ times x hand.bytes
IsRest (OfPool hand (suc passes)) rest = Unit {0}
IsRest (OfPass hand) rest = Unit {0}
IsRest Spent rest = Unit {0}
