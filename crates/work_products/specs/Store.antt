-- What a store has of a text, and what is answered and left where one is looked for and where one is kept.
use Rattle.std.specs.Prelude.{◌≡◌, ◌⊎◌, ℕ, nat_lt, if◌then◌else◌, List, length, Option, Some, None, Result, Ok, Err}
use Rattle.std.specs.FinMap.{get}
use Rattle.std.specs.Str.{bytes_eq}
use Rattle.std.specs.declared.alloc.AllocError.{AllocError}
use Rattle.journal.specs.Journal as given
use Rattle.journal.specs.declared.journal.Done.{Done}
use Rattle.journal.specs.declared.journal.Done.TheVariants as done
use Rattle.outside.specs.Held.{Held}
use Rattle.object_format.specs.ObjectReading.{lifted_at}
use Rattle.object_format.specs.declared.fault.BadFile.{BadFile}
use Rattle.object_format.specs.declared.version.Version.{Version}
use Rattle.object_format.specs.declared.version.Version.TheVariants.{One, Two}
use Rattle.keepers.specs.KeeperState.{KeeperState, LoadStep, SaveStep}
use Rattle.work_products.specs.RecordReading.{record_at}
use Rattle.work_products.specs.Records.{Record, max_record, record_name, record_written}
use Rattle.work_products.specs.declared.store.Found.{Found}
use Rattle.work_products.specs.declared.store.Found.TheVariants as found
use Rattle.work_products.specs.declared.store.Kept.{Kept}
use Rattle.work_products.specs.declared.store.Kept.TheVariants as kept
use Rattle.work_products.specs.declared.record.TooLong.{TooLong}

-- ---- the object of a text

-- the value, unless there is a fault
abbrev pub unless_faulty : {A : Type 0} → Result A BadFile → Option A
unless_faulty (Ok x) = Some x
unless_faulty (Err e) = None

-- an object in the newest version, from a record of this version; none where a record of the oldest version has no object of that version
abbrev pub newest : Version → List ℕ → Option (List ℕ)
newest Two object = Some object
newest One object = unless_faulty (lifted_at object)

-- the object of a record, where it is one of this text
abbrev pub object_for : List ℕ → Record → Option (List ℕ)
object_for text r = if bytes_eq r.text text then newest r.version r.object else None

-- the same, where the bytes were read as a record
abbrev pub object_if_read : List ℕ → Result Record BadFile → Option (List ℕ)
object_if_read text (Ok r) = object_for text r
object_if_read text (Err e) = None

-- the object that bytes have for a text: that of a whole record of this very text, no longer than a record may be
unfoldable pub whole : List ℕ → List ℕ → Option (List ℕ)
whole text bytes = if nat_lt max_record (length bytes) then None else object_if_read text (record_at bytes)

-- ---- looking for it

-- what is found where the name holds something
abbrev pub whole_or_damaged : Option (List ℕ) → Found
whole_or_damaged (Some object) = found.Whole object
whole_or_damaged None = found.Damaged

-- what is found for a text of what its name holds
abbrev pub found_in : List ℕ → Option (List ℕ) → Found
found_in text None = found.Absent
found_in text (Some bytes) = whole_or_damaged (whole text bytes)

-- so many bytes of a record are asked for: one more than it may have
abbrev pub most_loaded : ℕ
most_loaded = 268_435_457

-- what a load comes to
abbrev pub judged : List ℕ → given.Found → Option Found
judged text (given.Bytes bytes) = Some (found_in text (Some bytes))
judged text given.Absent = Some found.Absent
judged text given.Failed = Some found.StoreFault
judged text given.Memory = None

-- a load after which memory may be wanted: one that wanted it, or one that gave bytes
abbrev pub MayWant : given.Found → Type 0
MayWant (given.Bytes bytes) = Unit {0}
MayWant given.Absent = ⊥
MayWant given.Failed = ⊥
MayWant given.Memory = Unit {0}

-- There was one load, of the name of the text, and it came to this. Where memory was wanted, there was that load or none.
abbrev pub FindEnds : KeeperState → List ℕ → Result Found AllocError → KeeperState → Type 0
FindEnds old text (Ok answer) new = (load : given.Found) × LoadStep old (record_name text) most_loaded load new × (judged text load ≡ Some answer)
FindEnds old text (Err e) new = (new ≡ old) ⊎ ((load : given.Found) × LoadStep old (record_name text) most_loaded load new × MayWant load)

-- What is answered of a store that holds this, unless a load failed.
abbrev pub FindTells : Held → List ℕ → Found → Type 0
FindTells held text found.StoreFault = Unit {0}
FindTells held text (found.Whole object) = found_in text (get held (record_name text)) ≡ found.Whole object
FindTells held text found.Absent = found_in text (get held (record_name text)) ≡ found.Absent
FindTells held text found.Damaged = found_in text (get held (record_name text)) ≡ found.Damaged

-- how many of its calls have failed
abbrev pub find_faults : Result Found AllocError → ℕ
find_faults (Ok found.StoreFault) = 1
find_faults answer = 0

-- ---- keeping it

-- There was one save, of the record, under the name of the text, and this is what it did.
abbrev pub KeptBy : KeeperState → List ℕ → List ℕ → Done → KeeperState → Type 0
KeptBy old text object did new = (bytes : List ℕ) × (record_written text object ≡ Ok bytes) × SaveStep old (record_name text) bytes did new

-- the same of bytes that are given
abbrev pub SaveEnds : KeeperState → List ℕ → List ℕ → Result Kept AllocError → KeeperState → Type 0
SaveEnds old text bytes (Ok kept.Done) new = SaveStep old (record_name text) bytes done.Done new
SaveEnds old text bytes (Ok kept.TooLong) new = ⊥
SaveEnds old text bytes (Ok kept.StoreFault) new = SaveStep old (record_name text) bytes done.Failed new
SaveEnds old text bytes (Err e) new = (new ≡ old) ⊎ SaveStep old (record_name text) bytes done.Memory new

-- the refusal of a record that is too long
abbrev pub too_long : TooLong
too_long = record {}

-- A record that is too long is not saved, and nothing is asked of the keeper. Where memory was wanted, there was a save that wanted it or none.
abbrev pub KeepEnds : KeeperState → List ℕ → List ℕ → Result Kept AllocError → KeeperState → Type 0
KeepEnds old text object (Ok kept.Done) new = KeptBy old text object done.Done new
KeepEnds old text object (Ok kept.TooLong) new = (record_written text object ≡ Err too_long) × (new ≡ old)
KeepEnds old text object (Ok kept.StoreFault) new = KeptBy old text object done.Failed new
KeepEnds old text object (Err e) new = (new ≡ old) ⊎ KeptBy old text object done.Memory new

-- how many of the calls of a keep or a prune have failed
abbrev pub keep_faults : Result Kept AllocError → ℕ
keep_faults (Ok kept.StoreFault) = 1
keep_faults answer = 0
