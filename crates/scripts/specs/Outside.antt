-- What commands work on, and what one call comes to and leaves of it.
use Rattle.std.specs.Prelude.{◌≡◌, ◌⊎◌, ℕ, Bool, true, false, List}
use Rattle.files.specs.FilesState.{FilesState, ReadStep, WriteStep}
use Rattle.journal.specs.Journal as journal
use Rattle.journal.specs.Journal.{Found}
use Rattle.journal.specs.declared.journal.Done.{Done}
use Rattle.journal.specs.declared.journal.Done.TheVariants as done
use Rattle.sinks.specs.Prefixes.{TakesPrefix}
use Rattle.sinks.specs.SinkState.{SinkState, with_text, with_fault, with_want}
use Rattle.scripts.specs.Script.{ToOut, ToErr, Ask, Read, Write, Put, Finding, Bytes, Absent, Failed, Answer}

pub record Outside : Type 0 where
  pub files : FilesState
  pub out : SinkState
  pub err : SinkState

abbrev pub seen : FilesState → SinkState → SinkState → Outside
seen files out err = record { files = files; out = out; err = err }

-- What a call comes to: an answer; memory was wanted; or a put failed, after which nothing is done.
pub data Came (X : Type 0) : Type 0 where
  Gave : X → Came X
  Wanted : Came X
  Fell : Came X

abbrev pub found_as : Finding → Found
found_as (Bytes bytes) = journal.Bytes bytes
found_as Absent = journal.Absent
found_as Failed = journal.Failed

abbrev pub done_as : Bool → Done
done_as true = done.Done
done_as false = done.Failed

-- A failed read is an answer.
abbrev pub Reads : FilesState → List ℕ → ℕ → Came Finding → FilesState → Type 0
Reads old name most (Gave found) new = ReadStep old name most (found_as found) new
Reads old name most Wanted new = ReadStep old name most journal.Memory new
Reads old name most Fell new = ⊥

-- So is a failed write.
abbrev pub Writes : FilesState → List ℕ → List ℕ → Came Bool → FilesState → Type 0
Writes old name bytes (Gave answer) new = WriteStep old name bytes (done_as answer) new
Writes old name bytes Wanted new = WriteStep old name bytes done.Memory new
Writes old name bytes Fell new = ⊥

-- A whole text goes in as many puts as the sink wants. Where one failed, a prefix of the text went before it. So it did where memory was wanted, by
-- a put or between two of them.
abbrev pub Lands : SinkState → List ℕ → Came (Unit {0}) → SinkState → Type 0
Lands old text (Gave x) new = new ≡ with_text text old
Lands old text Wanted new = TakesPrefix old text with_want new ⊎ TakesPrefix old text (λ sink. sink) new
Lands old text Fell new = TakesPrefix old text with_fault new

-- a call with what it comes to, and what it leaves
abbrev pub Step : (a : Ask) → Outside → Came (Answer a) → Outside → Type 0
Step (Read name most) old came new = Reads old.files name most came new.files × (new.out ≡ old.out) × (new.err ≡ old.err)
Step (Write name bytes) old came new = Writes old.files name bytes came new.files × (new.out ≡ old.out) × (new.err ≡ old.err)
Step (Put ToOut text) old came new = (new.files ≡ old.files) × Lands old.out text came new.out × (new.err ≡ old.err)
Step (Put ToErr text) old came new = (new.files ≡ old.files) × (new.out ≡ old.out) × Lands old.err text came new.err
