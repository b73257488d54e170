-- How a status is reported.
use Rattle.std.specs.Prelude.{◌≡◌, ◌≢◌}
use Rattle.sinks.specs.Putting.{PuttingLeaves}
use Rattle.sinks.specs.SinkState.{SinkState}
use Rattle.sinks.specs.declared.putting.Putting.{Putting}
use Rattle.sinks.specs.declared.putting.Putting.TheVariants as putting
use Rattle.larch_cli.specs.Status.{line_of}
use Rattle.larch_cli.specs.declared.status.Status.{Status}
use Rattle.larch_cli.specs.declared.status.Status.TheVariants.{SinkFault, Memory}

-- the status after the put of a line: the one that was wanted, if the whole line was put
abbrev pub after_line : Status → Putting → Status
after_line wanted putting.Done = wanted
after_line wanted putting.Failed = SinkFault
after_line wanted putting.Memory = Memory

-- The line of a status was put, or a prefix of it.
pub record Says (said : Status) (old new : SinkState) (answer : Status) : Type 0 where
  pub put : Putting
  pub leaves : PuttingLeaves old (line_of said) put new
  pub is : answer ≡ after_line said put

-- Nothing is put after a put that failed. Else the line of the status is put, or that of want of memory, where there was none for the other.
pub data Reports (wanted : Status) (old new : SinkState) (answer : Status) : Type 0 where
  Silent : wanted ≡ SinkFault → new ≡ old → answer ≡ SinkFault → Reports wanted old new answer
  Line : wanted ≢ SinkFault → Says wanted old new answer → Reports wanted old new answer
  NoMemory : wanted ≢ SinkFault → Says Memory old new answer → Reports wanted old new answer
