-- What a journal of puts tells of a sink.
use Rattle.std.specs.Prelude.{◌<◌, ◌≤◌, ℕ, List, [], length, take, Some}
use Rattle.std.specs.List.{flat_map}
use Rattle.journal.specs.Counted.{faults_in, wants_in}
use Rattle.journal.specs.Journal.{Call, Put}
use Rattle.journal.specs.declared.journal.Done.TheVariants as done
use Rattle.sinks.specs.SinkState.{SinkState}
use Rattle.sinks.specs.declared.sink.Put.{Put as Answer}
use Rattle.sinks.specs.declared.sink.Put.TheVariants as put

-- the bytes that a call appended
abbrev pub appended_by : Call → List ℕ
appended_by (Put piece done.Done) = piece
appended_by call = []

-- a sink on which these calls were made, and which held nothing before
abbrev pub sink_after : List Call → SinkState
sink_after calls = record { held = Some (flat_map appended_by calls); faults = faults_in calls; wants = wants_in calls }

-- a put with its answer, as a call: the part that was taken, or the piece that was not
abbrev pub put_call : List ℕ → Answer → Call
put_call piece (put.Took k) = Put (take k piece) done.Done
put_call piece put.Failed = Put piece done.Failed
put_call piece put.Memory = Put piece done.Memory

-- No more is taken than was offered.
abbrev pub TakesWithin : Answer → List ℕ → Type 0
TakesWithin (put.Took k) piece = k ≤ length piece
TakesWithin put.Failed piece = Unit {0}
TakesWithin put.Memory piece = Unit {0}

-- At least one byte is taken of a piece that has some, and no more than it has. No stream wants memory.
abbrev pub WritesSome : List ℕ → Answer → Type 0
WritesSome piece (put.Took k) = (k ≤ length piece) × (0 < length piece → 0 < k)
WritesSome piece put.Failed = Unit {0}
WritesSome piece put.Memory = ⊥
