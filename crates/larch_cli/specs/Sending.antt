-- Long texts that go to a sink in parts, some of them kept back until more has come.
use Rattle.std.specs.Prelude.{◌≡◌, List, ℕ, ◌++◌, Result, Ok, Err}
use Rattle.scripts.specs.Outside.{Came, Gave, Wanted, Fell, Lands}
use Rattle.sinks.specs.SinkState.{SinkState, with_text}
use Rattle.larch_cli.specs.declared.sending.NotPut.{NotPut}
use Rattle.larch_cli.specs.declared.sending.NotPut.TheVariants as not_put
use Rattle.larch_cli.specs.declared.status.Status.{Status}
use Rattle.larch_cli.specs.declared.status.Status.TheVariants as status

-- what a put of a text comes to that does not take all of it
abbrev pub came_short : NotPut → Came (Unit {0})
came_short not_put.Failed = Fell
came_short not_put.Memory = Wanted

abbrev pub status_for : NotPut → Status
status_for not_put.Failed = status.SinkFault
status_for not_put.Memory = status.Memory

abbrev pub came_of : {T : Type 0} → Result T NotPut → Came (Unit {0})
came_of (Ok x) = Gave tt
came_of (Err why) = came_short why

-- A prefix of the text was put, and the rest of it is kept.
pub record Sends (old now : SinkState) (text kept : List ℕ) : Type 0 where
  pub done : List ℕ
  pub put : now ≡ with_text done old
  pub splits : done ++ kept ≡ text

-- The same, or why it could not be put, with what the sink took then.
abbrev pub SendEnds : {T : Type 0} → SinkState → SinkState → List ℕ → List ℕ → Result T NotPut → Type 0
SendEnds old now text kept (Ok x) = Sends old now text kept
SendEnds old now text kept (Err why) = Lands old text (came_short why) now
