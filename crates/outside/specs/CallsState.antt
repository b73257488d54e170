-- What contracts see of calls that are counted, some of which are to fail.
use Rattle.std.specs.Prelude.{ℕ, Bool, if◌then◌else◌, List}
use Rattle.outside.specs.Counts.{raised}

-- failing: the numbers, from 0, of the calls that are to fail. calls: how many were made. faults: how many of them failed
pub record CallsState : Type 0 where
  pub failing : List ℕ
  pub calls : ℕ
  pub faults : ℕ

-- one call more, which failed or did not
abbrev pub after_call : Bool → CallsState → CallsState
after_call failed state = record state { calls = raised state.calls 1; faults = if failed then raised state.faults 1 else state.faults }
