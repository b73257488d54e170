-- What contracts see of the lanes. No promise, but for the code and its proof alone.
use Rattle.std.specs.Prelude.{ℕ}

-- work: the work whose jobs they run. waiting: jobs that are out
pub record LanesState (W : Type 0) : Type 0 where
  pub work : W
  pub waiting : ℕ
