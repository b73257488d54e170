-- What the top call does and answers.
use Rattle.std.specs.Prelude.{◌≡◌, ◌⊎◌, ℕ, ◌+◌, ◌≤◌, Bool, true, false, List, ◌++◌, length, Some, None, Result}
use Rattle.files.specs.FilesState.{faults_of}
use Rattle.outside.specs.Held.{Held}
use Rattle.scripts.specs.Following.{Follows}
use Rattle.scripts.specs.Outside.{Outside}
use Rattle.scripts.specs.Performing.{IsCalm, perform}
use Rattle.sinks.specs.SinkState.{with_text}
use Rattle.source_gen.specs.Sources.{files_of}
use Rattle.words.specs.declared.commands.Command.{Command}
use Rattle.words.specs.declared.commands.Command.TheVariants.{Build, Check, Units, Run, Dump, Link, Gen}
use Rattle.larch_cli.specs.Commands.{Request, Nothing, Named, Steps, reasons}
use Rattle.larch_cli.specs.Report.{Reports}
use Rattle.larch_cli.specs.Status.{line_of, status_of}
use Rattle.larch_cli.specs.declared.status.Status.{Status}
use Rattle.larch_cli.specs.declared.status.Status.TheVariants as status

-- The calls between two states are the script's, in order, each with its answer, and behind them its status is reported. Or memory was wanted or a
-- put failed: then the calls are a prefix of the script's, and that is reported.
pub record Serves (script : Steps (Unit {0})) (old new : Outside) (answer : Status) : Type 0 where
  pub mid : Outside
  pub gives : Result (Unit {0}) Status
  pub calls : Follows reasons script old mid gives
  pub files : new.files ≡ mid.files
  pub out : new.out ≡ mid.out
  pub report : Reports (status_of gives) mid.err new.err answer

-- ---- the answer where nothing fails

-- a status, what out and err gain, and what the files hold then
pub record Answer : Type 0 where
  pub status : Status
  pub out : List ℕ
  pub err : List ℕ
  pub files : Held

-- the script over files that hold this, with the line of its status
abbrev pub answer_on : Steps (Unit {0}) → Held → Answer
answer_on script held =
    let p = perform script held in
    record { status = status_of p.gives; out = p.out; err = p.err ++ line_of (status_of p.gives); files = p.files }

-- The call answered this.
pub record Answers (wanted : Answer) (old new : Outside) (answer : Status) : Type 0 where
  pub status : answer ≡ wanted.status
  pub out : new.out ≡ with_text wanted.out old.out
  pub err : new.err ≡ with_text wanted.err old.err
  pub files : new.files.held ≡ Some wanted.files

-- Where the files tell what they hold and no call failed: that answer, or memory was wanted.
abbrev pub Answered : Steps (Unit {0}) → Outside → Outside → Status → Type 0
Answered script old new answer = (held : Held) → old.files.held ≡ Some held → IsCalm old new → (answer ≡ status.Memory) ⊎ Answers (answer_on script held) old new answer

-- ---- what the counts tell

-- Words that are not served are answered so, and no others; or the line could not be put, or memory was wanted.
abbrev pub UsageOnly : Bool → Status → Type 0
UsageOnly served status.SinkFault = Unit {0}
UsageOnly served status.Memory = Unit {0}
UsageOnly served status.Usage = served ≡ false
UsageOnly served s = served ≡ true

-- A file fault is answered where one call on the files failed, and a fault of a sink where one put failed. At other statuses nothing failed; but
-- where a put failed or memory was wanted, a call on the files may have failed before.
abbrev pub CountsTell : Outside → Outside → Status → Type 0
CountsTell old new (status.FileFault name) = (faults_of new.files ≡ faults_of old.files + 1) × (new.out.faults ≡ old.out.faults) × (new.err.faults ≡ old.err.faults)
CountsTell old new status.SinkFault = (old.out.faults ≤ new.out.faults) × (old.err.faults ≤ new.err.faults) × (new.out.faults + new.err.faults ≡ old.out.faults + old.err.faults + 1)
CountsTell old new status.Memory = (new.out.faults ≡ old.out.faults) × (new.err.faults ≡ old.err.faults)
CountsTell old new s = (faults_of new.files ≡ faults_of old.files) × (new.out.faults ≡ old.out.faults) × (new.err.faults ≡ old.err.faults)

-- After a refusal the files hold what they held.
abbrev pub Unchanged : Outside → Outside → Status → Type 0
Unchanged old new status.Done = Unit {0}
Unchanged old new (status.FileFault name) = Unit {0}
Unchanged old new status.SinkFault = Unit {0}
Unchanged old new status.Memory = Unit {0}
Unchanged old new s = new.files.held ≡ old.files.held

-- how many files a command reads at most: each that its words name, once
abbrev pub reads_of : Command → ℕ
reads_of (Build names) = length names
reads_of (Check names) = length names
reads_of (Units names limit) = length names
reads_of (Run name steps) = 1
reads_of (Dump name) = 1
reads_of (Link names output) = length names
reads_of (Gen recipe) = 0

-- how many it writes
abbrev pub writes_of : Command → ℕ
writes_of (Build names) = 1
writes_of (Check names) = 0
writes_of (Units names limit) = 0
writes_of (Run name steps) = 0
writes_of (Dump name) = 0
writes_of (Link names output) = 1
writes_of (Gen recipe) = length (files_of recipe.seed recipe.modules)

abbrev pub most_reads : Request → ℕ
most_reads Nothing = 0
most_reads (Named None) = 0
most_reads (Named (Some command)) = reads_of command

abbrev pub most_writes : Request → ℕ
most_writes Nothing = 0
most_writes (Named None) = 0
most_writes (Named (Some command)) = writes_of command

-- No more files are read and written than the request names. One that writes none leaves what they hold.
pub record FewCalls (request : Request) (old new : Outside) : Type 0 where
  pub calls : length new.files.calls ≤ length old.files.calls + (most_reads request + most_writes request)
  pub held : most_writes request ≡ 0 → new.files.held ≡ old.files.held
