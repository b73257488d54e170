-- What a work is defined to give, and what an answer of it means.
use Rattle.std.specs.Prelude.{◌≡◌, ℕ, List, Result, Ok, Err}
use Rattle.atomic_table.specs.Seated.{TableId}
use Rattle.lar_bytes.specs.declared.memory.OrMemory.{OrMemory}
use Rattle.lar_bytes.specs.declared.memory.OrMemory.TheVariants.{Refused, Memory}

-- table: the lease table that it is done on. count: how many units it has. generated: of each unit, its part and what making it costs. made: of each unit, its bytes
pub record Meaning (P F : Type 0) : Type 0 where
  pub table : TableId
  pub count : ℕ
  pub generated : ℕ → Result (P × ℕ) F
  pub made : ℕ → Result (List ℕ) F

module _ {T F : Type 0} where
  -- the defined value, or want of memory
  abbrev pub Answers : Result T F → Result T (OrMemory F) → Type 0
  Answers meant (Ok x) = meant ≡ Ok x
  Answers meant (Err (Refused f)) = meant ≡ Err f
  Answers meant (Err Memory) = Unit {0}

module _ {P F : Type 0} where
  -- this is the part of unit x
  abbrev pub IsPartOf : Meaning P F → ℕ → P → Type 0
  IsPartOf m x part = (cost : ℕ) × (m.generated x ≡ Ok (part, cost))
