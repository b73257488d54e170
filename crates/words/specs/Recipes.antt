-- From what sources are generated.
use Rattle.std.specs.Prelude.{ℕ}

-- a seed, and how many modules are made from it
pub record Recipe : Type 0 where
  pub seed : ℕ
  pub modules : ℕ
