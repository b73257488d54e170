-- What contracts see of a keeper, and what calls on it answer and leave.
use Rattle.std.specs.Prelude.{◌≡◌, ◌⊎◌, ℕ, ◌≤◌, List, [], ◌∷◌, ◌++◌, length, Option, IfSome, Result, Ok, Err}
use Rattle.std.specs.Cmp.Lexicographic.{slice_cmp}
use Rattle.std.specs.FinMap.{remove, keys}
use Rattle.std.specs.List.Sorted.{IsStrictlySortedBy}
use Rattle.std.specs.Option.{option_map}
use Rattle.std.specs.Ordering.{nat_cmp}
use Rattle.std.specs.declared.alloc.AllocError.{AllocError}
use Rattle.files.specs.FilesState.{IsFound, Leaves}
use Rattle.journal.specs.Journal.{Found}
use Rattle.journal.specs.Journal as given
use Rattle.journal.specs.declared.journal.Done.{Done}
use Rattle.journal.specs.declared.journal.Done.TheVariants as done
use Rattle.outside.specs.Held.{Held}
use Rattle.keepers.specs.KeeperCalls.{KeeperCall, Loaded, Saved, Removed, Named, faults_in}
use Rattle.keepers.specs.KeeperNoted.{bytes_of_all}
use Rattle.keepers.specs.Listing.{Listing}
use Rattle.keepers.specs.Listing as listing
use Rattle.keepers.specs.declared.keeper as code
use Rattle.keepers.specs.declared.keeper.Loaded.TheVariants as loaded
use Rattle.keepers.specs.declared.keeper.Saved.TheVariants as saved
use Rattle.keepers.specs.declared.keeper.Named.TheVariants as named

-- held: what the names hold, where the keeper tells it. calls: every call so far with its answer
pub record KeeperState : Type 0 where
  pub held : Option Held
  pub calls : List KeeperCall

-- how many calls have failed
abbrev pub faults_of : KeeperState → ℕ
faults_of keeper = faults_in keeper.calls

-- a keeper that holds this, after one call more
abbrev pub after_call : KeeperCall → Option Held → KeeperState → KeeperState
after_call call held keeper = record { held = held; calls = keeper.calls ++ call ∷ [] }

-- ---- answers as plain data

-- what a load answers
abbrev pub found_of : Result code.Loaded.Loaded AllocError → Found
found_of (Ok (loaded.Bytes bytes)) = given.Bytes bytes
found_of (Ok loaded.Absent) = given.Absent
found_of (Ok loaded.Failed) = given.Failed
found_of (Err e) = given.Memory

-- what a save or a remove answers
abbrev pub done_of : code.Saved.Saved → Done
done_of saved.Done = done.Done
done_of saved.Failed = done.Failed
done_of saved.Memory = done.Memory

-- what a question for the names answers
abbrev pub listing_of : Result code.Named.Named AllocError → Listing
listing_of (Ok (named.Names names)) = listing.Names (bytes_of_all names.items)
listing_of (Ok named.Failed) = listing.Failed
listing_of (Err e) = listing.Memory

-- ---- what each call leaves

-- A load changes nothing that is held.
abbrev pub LoadStep : KeeperState → List ℕ → ℕ → Found → KeeperState → Type 0
LoadStep old name most found new = IsFound old.held name most found × (new ≡ after_call (Loaded name most found) old.held old)

-- The name holds the bytes. After a failed save it holds what it held, or a prefix of them. Without memory nothing changes. Other names stay.
abbrev pub SaveStep : KeeperState → List ℕ → List ℕ → Done → KeeperState → Type 0
SaveStep old name bytes answer new = Leaves name bytes old.held answer new.held × (new ≡ after_call (Saved name bytes answer) new.held old)

-- what is held, where it is told, once a name is gone
abbrev pub without : List ℕ → Option Held → Option Held
without name told = option_map (λ held. remove held name) told

-- The name is gone. After a failed remove it is gone or as before. A remove takes no memory. Other names stay.
abbrev pub LeavesOut : List ℕ → Option Held → Done → Option Held → Type 0
LeavesOut name old done.Done new = new ≡ without name old
LeavesOut name old done.Failed new = (new ≡ old) ⊎ (new ≡ without name old)
LeavesOut name old done.Memory new = ⊥

-- What a remove leaves, and that its answer is in the journal.
abbrev pub RemoveStep : KeeperState → List ℕ → Done → KeeperState → Type 0
RemoveStep old name answer new = LeavesOut name old.held answer new.held × (new ≡ after_call (Removed name answer) new.held old)

-- Names in byte order, each once.
abbrev pub AreInOrder : List (List ℕ) → Type 0
AreInOrder names = IsStrictlySortedBy (slice_cmp nat_cmp) names

-- The names are all that hold something. A fault and want of memory tell nothing.
abbrev pub IsListed : Option Held → Listing → Type 0
IsListed held (listing.Names names) = AreInOrder names × IfSome held (λ h. names ≡ keys h)
IsListed held listing.Failed = Unit {0}
IsListed held listing.Memory = Unit {0}

-- To ask for the names changes nothing that is held.
abbrev pub NamesStep : KeeperState → Listing → KeeperState → Type 0
NamesStep old answer new = IsListed old.held answer × (new ≡ after_call (Named answer) old.held old)

-- What was loaded is no longer than this.
abbrev pub IsShort : ℕ → code.Loaded.Loaded → Type 0
IsShort most (loaded.Bytes bytes) = length bytes ≤ most
IsShort most loaded.Absent = Unit {0}
IsShort most loaded.Failed = Unit {0}

-- What was listed is in order.
abbrev pub IsOrderedAnswer : code.Named.Named → Type 0
IsOrderedAnswer (named.Names names) = AreInOrder (bytes_of_all names.items)
IsOrderedAnswer named.Failed = Unit {0}
