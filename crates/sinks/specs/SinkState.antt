-- What contracts see of a sink, and what a put leaves.
use Rattle.std.specs.Prelude.{◌≡◌, ℕ, ◌+◌, ◌<◌, ◌≤◌, List, take, length, Option}
use Rattle.std.specs.Io.KnownBytes.{append_known}
use Rattle.sinks.specs.declared.sink.Put.{Put}
use Rattle.sinks.specs.declared.sink.Put.TheVariants.{Took, Failed, Memory}

-- held: the bytes written so far, where the sink tells them. faults: how many puts have failed. wants: how many have found no memory
pub record SinkState : Type 0 where
  pub held : Option (List ℕ)
  pub faults : ℕ
  pub wants : ℕ

-- a sink that took this text
abbrev pub with_text : List ℕ → SinkState → SinkState
with_text text sink = record sink { held = append_known sink.held text }

-- a sink on which one put more has failed
abbrev pub with_fault : SinkState → SinkState
with_fault sink = record sink { faults = sink.faults + 1 }

-- a sink on which one put more has found no memory
abbrev pub with_want : SinkState → SinkState
with_want sink = record sink { wants = sink.wants + 1 }

-- At least one byte is taken of a piece that has some, and what is taken is appended. A failed put, and one that finds no memory, append nothing.
abbrev pub PutLeaves : SinkState → List ℕ → Put → SinkState → Type 0
PutLeaves old piece (Took k) new = (k ≤ length piece) × (0 < length piece → 0 < k) × (new ≡ with_text (take k piece) old)
PutLeaves old piece Failed new = new ≡ with_fault old
PutLeaves old piece Memory new = new ≡ with_want old
