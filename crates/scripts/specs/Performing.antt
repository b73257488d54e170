-- What a script gives where no call fails: performed on a map from names to bytes.
use Rattle.std.specs.Prelude.{◌≡◌, ℕ, true, List, [], ◌++◌, take, Option, Some, None, Result, Ok, Err}
use Rattle.std.specs.FinMap.{get, insert}
use Rattle.files.specs.FilesState.{faults_of}
use Rattle.outside.specs.Held.{Held}
use Rattle.sinks.specs.SinkState.{with_text}
use Rattle.scripts.specs.Outside.{Outside}
use Rattle.scripts.specs.Script.{Script, End, Stop, Call, Ask, Read, Write, Put, ToOut, ToErr, Finding, Bytes, Absent, Answer}

-- what a script gives, what it puts, and what the files hold then
pub record Performed (E A : Type 0) : Type 0 where
  pub gives : Result A E
  pub out : List ℕ
  pub err : List ℕ
  pub files : Held

abbrev pub looked : Option (List ℕ) → Finding
looked None = Absent
looked (Some bytes) = Bytes bytes

-- what a call answers where the files hold this
abbrev pub answer_on : Held → (a : Ask) → Answer a
answer_on held (Read name most) = looked (get held name)
answer_on held (Write name bytes) = true
answer_on held (Put stream text) = tt

-- what the files hold then
abbrev pub held_after : Held → Ask → Held
held_after held (Read name most) = held
held_after held (Write name bytes) = insert held name bytes
held_after held (Put stream text) = held

-- what out and err gain
abbrev pub out_of : Ask → List ℕ
out_of (Read name most) = []
out_of (Write name bytes) = []
out_of (Put ToOut text) = text
out_of (Put ToErr text) = []

abbrev pub err_of : Ask → List ℕ
err_of (Read name most) = []
err_of (Write name bytes) = []
err_of (Put ToOut text) = []
err_of (Put ToErr text) = text

-- The script over files that hold this, where no call fails. A read gives the whole file.
unfoldable pub perform : {E A : Type 0} → Script E A → Held → Performed E A
perform (End a) held = record { gives = Ok a; out = []; err = []; files = held }
perform (Stop e) held = record { gives = Err e; out = []; err = []; files = held }
perform (Call a rest) held =
    let more = perform (rest (answer_on held a)) (held_after held a) in
    record more { out = out_of a ++ more.out; err = err_of a ++ more.err }

-- What is read past a read's limit changes nothing: the script goes on as after the first bytes alone.
abbrev pub NeedsNoMore : {E A : Type 0} → (a : Ask) → (Answer a → Script E A) → Type 0
NeedsNoMore (Read name most) rest = (bytes : List ℕ) → rest (Bytes (take most bytes)) ≡ rest (Bytes bytes)
NeedsNoMore (Write name bytes) rest = Unit {0}
NeedsNoMore (Put stream text) rest = Unit {0}

unfoldable pub IsWide : {E A : Type 0} → Script E A → Type 0
IsWide (End a) = Unit {0}
IsWide (Stop e) = Unit {0}
IsWide (Call a rest) = NeedsNoMore a rest × ((x : Answer a) → IsWide (rest x))

-- no call on the files failed, and no put
pub record IsCalm (old new : Outside) : Type 0 where
  pub files : faults_of new.files ≡ faults_of old.files
  pub out : new.out.faults ≡ old.out.faults
  pub err : new.err.faults ≡ old.err.faults

-- The calls gave this.
pub record Gave {E A : Type 0} (wanted : Performed E A) (old new : Outside) (result : Result A E) : Type 0 where
  pub gives : result ≡ wanted.gives
  pub out : new.out ≡ with_text wanted.out old.out
  pub err : new.err ≡ with_text wanted.err old.err
  pub files : new.files.held ≡ Some wanted.files
