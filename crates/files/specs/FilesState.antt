-- What contracts see of files, and what calls on them answer and leave.
use Rattle.std.specs.Prelude.{◌≡◌, ℕ, ◌≤◌, List, [], ◌∷◌, ◌++◌, take, length, Option, Some, None, IfSome, Result, Ok, Err}
use Rattle.std.specs.Option.{option_map}
use Rattle.std.specs.FinMap.{get}
use Rattle.std.specs.declared.alloc.AllocError.{AllocError}
use Rattle.journal.specs.Counted.{faults_in}
use Rattle.journal.specs.Journal.{Call, Asked, Stored, Found, Bytes, Absent, Failed, Memory}
use Rattle.journal.specs.declared.journal.Done.{Done}
use Rattle.journal.specs.declared.journal.Done.TheVariants as done
use Rattle.outside.specs.Held.{Held, stored, StoresFront}
use Rattle.files.specs.declared.files.Read.{Read}
use Rattle.files.specs.declared.files.Read.TheVariants as read
use Rattle.files.specs.declared.files.Wrote.{Wrote}
use Rattle.files.specs.declared.files.Wrote.TheVariants as wrote

-- held: what the names hold, where the files tell it. calls: every call so far with its answer
pub record FilesState : Type 0 where
  pub held : Option Held
  pub calls : List Call

-- how many calls have failed
abbrev pub faults_of : FilesState → ℕ
faults_of files = faults_in files.calls

-- files that hold this, after one call more
abbrev pub after_call : Call → Option Held → FilesState → FilesState
after_call call held files = record { held = held; calls = files.calls ++ call ∷ [] }

-- what a read answers, as plain data
abbrev pub found_of : Result Read AllocError → Found
found_of (Ok (read.Bytes bytes)) = Bytes bytes
found_of (Ok read.Absent) = Absent
found_of (Ok read.Failed) = Failed
found_of (Err e) = Memory

abbrev pub done_of : Wrote → Done
done_of wrote.Done = done.Done
done_of wrote.Failed = done.Failed
done_of wrote.Memory = done.Memory

-- What is found is the first `most` bytes of the file, or that no file has the name. A fault and want of memory tell nothing.
abbrev pub IsFound : Option Held → List ℕ → ℕ → Found → Type 0
IsFound held name most (Bytes bytes) = (length bytes ≤ most) × IfSome held (λ h. option_map (take most) (get h name) ≡ Some bytes)
IsFound held name most Absent = IfSome held (λ h. get h name ≡ None)
IsFound held name most Failed = Unit {0}
IsFound held name most Memory = Unit {0}

-- A read changes nothing that is held.
abbrev pub ReadStep : FilesState → List ℕ → ℕ → Found → FilesState → Type 0
ReadStep old name most found new = IsFound old.held name most found × (new ≡ after_call (Asked name most found) old.held old)

-- The name holds the bytes. After a failed write it holds what it held, or a prefix of them. Without memory nothing changes. Other names stay.
abbrev pub Leaves : List ℕ → List ℕ → Option Held → Done → Option Held → Type 0
Leaves name bytes old done.Done new = new ≡ stored name bytes old
Leaves name bytes old done.Failed new = StoresFront name bytes old new
Leaves name bytes old done.Memory new = new ≡ old

abbrev pub WriteStep : FilesState → List ℕ → List ℕ → Done → FilesState → Type 0
WriteStep old name bytes answer new = Leaves name bytes old.held answer new.held × (new ≡ after_call (Stored name bytes answer) new.held old)

-- What was read is no longer than this.
abbrev pub IsShort : ℕ → Read → Type 0
IsShort most (read.Bytes bytes) = length bytes ≤ most
IsShort most read.Absent = Unit {0}
IsShort most read.Failed = Unit {0}
