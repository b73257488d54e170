-- How a script may end, by what was called and what failed on the way.
use Rattle.std.specs.Prelude.{◌≡◌, ◌+◌, ◌≤◌, ℕ, Bool, true, false, length, Result, Ok, Err}
use Rattle.files.specs.FilesState.{faults_of}
use Rattle.scripts.specs.Following.{Reasons}
use Rattle.scripts.specs.Outside.{Outside, Came, Gave, Wanted, Fell}
use Rattle.scripts.specs.Script.{Script, End, Stop, Call, Ask, Read, Write, Put, Finding, Bytes, Absent, Failed, Answer}

-- how many reads and writes there were, how many of them failed, and how many puts did
pub record History : Type 0 where
  pub reads : ℕ
  pub writes : ℕ
  pub file_faults : ℕ
  pub put_faults : ℕ

abbrev pub nothing_yet : History
nothing_yet = record { reads = 0; writes = 0; file_faults = 0; put_faults = 0 }

abbrev pub read_faults : Came Finding → ℕ
read_faults (Gave (Bytes bytes)) = 0
read_faults (Gave Absent) = 0
read_faults (Gave Failed) = 1
read_faults Wanted = 0
read_faults Fell = 0

abbrev pub write_faults : Came Bool → ℕ
write_faults (Gave true) = 0
write_faults (Gave false) = 1
write_faults Wanted = 0
write_faults Fell = 0

abbrev pub put_faults_of : Came (Unit {0}) → ℕ
put_faults_of (Gave x) = 0
put_faults_of Wanted = 0
put_faults_of Fell = 1

-- one call more, which came to this
abbrev pub after : (a : Ask) → Came (Answer a) → History → History
after (Read name most) came h = record h { reads = h.reads + 1; file_faults = h.file_faults + read_faults came }
after (Write name bytes) came h = record h { writes = h.writes + 1; file_faults = h.file_faults + write_faults came }
after (Put stream text) came h = record h { put_faults = h.put_faults + put_faults_of came }

-- a call after which all may end since it failed
abbrev pub MayFall : Ask → Type 0
MayFall (Read name most) = ⊥
MayFall (Write name bytes) = ⊥
MayFall (Put stream text) = Unit {0}

-- Each end is as P says, and so is each place at which memory may be wanted or a put may fail.
unfoldable pub Along : {E A : Type 0} → Reasons E → (History → Result A E → Type 0) → History → Script E A → Type 0
Along reasons P h (End a) = P h (Ok a) × P h (Err reasons.memory)
Along reasons P h (Stop e) = P h (Err e) × P h (Err reasons.memory)
Along reasons P h (Call a rest) =
    P h (Err reasons.memory) × P (after a Wanted h) (Err reasons.memory) × (MayFall a → P (after a Fell h) (Err reasons.put_fault))
    × ((x : Answer a) → Along reasons P (after a (Gave x) h) (rest x))

-- the same of a script that goes on after another
abbrev pub AlongBehind : {E A B : Type 0} → Reasons E → (History → Result B E → Type 0) → (A → Script E B) → History → Result A E → Type 0
AlongBehind reasons P k h (Ok a) = Along reasons P h (k a)
AlongBehind reasons P k h (Err e) = P h (Err e)

-- What the journals and counts of the objects tell of the history between two states: as many calls on files, as many faults of files and of
-- puts; and where nothing was written the files hold what they held.
pub record Ties (h now : History) (old new : Outside) : Type 0 where
  pub calls : length new.files.calls + (h.reads + h.writes) ≡ length old.files.calls + (now.reads + now.writes)
  pub file_faults : faults_of new.files + h.file_faults ≡ faults_of old.files + now.file_faults
  pub put_faults : new.out.faults + new.err.faults + h.put_faults ≡ old.out.faults + old.err.faults + now.put_faults
  pub out : old.out.faults ≤ new.out.faults
  pub err : old.err.faults ≤ new.err.faults
  pub writes : h.writes ≤ now.writes
  pub held : now.writes ≡ h.writes → new.files.held ≡ old.files.held

-- An end was reached, or memory was wanted, with a history of which P holds.
pub record Reached {E A : Type 0} (P : History → Result A E → Type 0) (h : History) (old new : Outside) (result : Result A E) : Type 0 where
  pub now : History
  pub holds : P now result
  pub ties : Ties h now old new
