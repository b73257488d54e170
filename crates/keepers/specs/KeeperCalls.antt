-- Calls on a keeper, with their answers, and how a journal of them is stored.
use Rattle.std.specs.Prelude.{◌≡◌, ◌==◌, ℕ, cond, Bool, true, false, count_by, List, [], refl}
use Rattle.std.specs.Coded.{Coded, code_by, coded×, coded_ℕ, coded_list}
use Rattle.journal.specs.Journal.{Found}
use Rattle.journal.specs.Journal as given
use Rattle.journal.specs.declared.journal.Done.{Done}
use Rattle.journal.specs.declared.journal.Done.TheVariants as done
use Rattle.keepers.specs.Listing.{Listing}
use Rattle.keepers.specs.Listing as listing

-- So many bytes of what a name holds were asked for. Bytes were to be put in its place. The name was to be removed. All names were asked for.
pub data KeeperCall : Type 0 where
  Loaded : List ℕ → ℕ → Found → KeeperCall
  Saved : List ℕ → List ℕ → Done → KeeperCall
  Removed : List ℕ → Done → KeeperCall
  Named : Listing → KeeperCall

-- ---- how many calls have failed

-- whether a call has failed
abbrev pub is_fault : KeeperCall → Bool
is_fault (Loaded name most given.Failed) = true
is_fault (Saved name bytes done.Failed) = true
is_fault (Removed name done.Failed) = true
is_fault (Named listing.Failed) = true
is_fault call = false

-- how many of these have
abbrev pub faults_in : List KeeperCall → ℕ
faults_in calls = count_by is_fault calls

-- ---- a call as numbers and lists: its kind with its answer, the name, how many bytes were asked for, the bytes, the names

-- the parts of a call
abbrev Parts : Type 0
Parts = ℕ × (List ℕ × (ℕ × (List ℕ × List (List ℕ))))

-- a call taken apart
abbrev parts : KeeperCall → Parts
parts (Loaded name most (given.Bytes bytes)) = (0, (name, (most, (bytes, []))))
parts (Loaded name most given.Absent) = (1, (name, (most, ([], []))))
parts (Loaded name most given.Failed) = (2, (name, (most, ([], []))))
parts (Loaded name most given.Memory) = (3, (name, (most, ([], []))))
parts (Saved name bytes done.Done) = (4, (name, (0, (bytes, []))))
parts (Saved name bytes done.Failed) = (5, (name, (0, (bytes, []))))
parts (Saved name bytes done.Memory) = (6, (name, (0, (bytes, []))))
parts (Removed name done.Done) = (7, (name, (0, ([], []))))
parts (Removed name done.Failed) = (8, (name, (0, ([], []))))
parts (Removed name done.Memory) = (9, (name, (0, ([], []))))
parts (Named (listing.Names names)) = (10, ([], (0, ([], names))))
parts (Named listing.Failed) = (11, ([], (0, ([], []))))
parts (Named listing.Memory) = (12, ([], (0, ([], []))))

-- the call of a kind
abbrev call_at : ℕ → List ℕ → ℕ → List ℕ → List (List ℕ) → KeeperCall
call_at kind name most bytes names =
    cond (kind == 0) (Loaded name most (given.Bytes bytes))
    (cond (kind == 1) (Loaded name most given.Absent)
    (cond (kind == 2) (Loaded name most given.Failed)
    (cond (kind == 3) (Loaded name most given.Memory)
    (cond (kind == 4) (Saved name bytes done.Done)
    (cond (kind == 5) (Saved name bytes done.Failed)
    (cond (kind == 6) (Saved name bytes done.Memory)
    (cond (kind == 7) (Removed name done.Done)
    (cond (kind == 8) (Removed name done.Failed)
    (cond (kind == 9) (Removed name done.Memory)
    (cond (kind == 10) (Named (listing.Names names))
    (cond (kind == 11) (Named listing.Failed) (Named listing.Memory))))))))))))

-- a call put together
abbrev call_of : Parts → KeeperCall
call_of p = call_at p.0 p.1.0 p.1.1.0 p.1.1.1.0 p.1.1.1.1

-- what was taken apart is put together again
pub call_of-parts : (call : KeeperCall) → call_of (parts call) ≡ call
call_of-parts (Loaded name most (given.Bytes bytes)) = refl
call_of-parts (Loaded name most given.Absent) = refl
call_of-parts (Loaded name most given.Failed) = refl
call_of-parts (Loaded name most given.Memory) = refl
call_of-parts (Saved name bytes done.Done) = refl
call_of-parts (Saved name bytes done.Failed) = refl
call_of-parts (Saved name bytes done.Memory) = refl
call_of-parts (Removed name done.Done) = refl
call_of-parts (Removed name done.Failed) = refl
call_of-parts (Removed name done.Memory) = refl
call_of-parts (Named (listing.Names names)) = refl
call_of-parts (Named listing.Failed) = refl
call_of-parts (Named listing.Memory) = refl

-- as what a ghost field may hold
abbrev pub coded_calls : Coded (List KeeperCall)
coded_calls =
    coded_list (code_by Parts (coded× coded_ℕ (coded× (coded_list coded_ℕ) (coded× coded_ℕ (coded× (coded_list coded_ℕ) (coded_list (coded_list coded_ℕ)))))) parts call_of call_of-parts)
