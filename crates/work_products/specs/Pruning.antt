-- Which names are removed from a store, and what is answered and left then.
use Rattle.std.specs.Prelude.{◌≡◌, ◌⊎◌, ℕ, ◌&&◌, Bool, true, not, List, ◌∷◌, ◌++◌, filter, Option, IfSome, Result, Ok, Err, fold, Some}
use Rattle.std.specs.BTreeSet.{BTreeSet, contains_by}
use Rattle.std.specs.Cmp.Lexicographic.{slice_cmp}
use Rattle.std.specs.FinMap.{get, retain_keys}
use Rattle.std.specs.Ordering.{nat_cmp}
use Rattle.std.specs.declared.alloc.AllocError.{AllocError}
use denote.Ref.{Bor}
use Rattle.journal.specs.declared.journal.Done.TheVariants as done
use Rattle.object_format.specs.ObjectReading.{is_among}
use Rattle.outside.specs.Held.{Held}
use Rattle.keepers.specs.KeeperCalls.{Removed, Named}
use Rattle.keepers.specs.KeeperState.{KeeperState, IsListed, NamesStep, RemoveStep, after_call, without}
use Rattle.keepers.specs.Listing as listing
use Rattle.work_products.specs.Records.{is_record_name}
use Rattle.work_products.specs.declared.store.Kept.{Kept}
use Rattle.work_products.specs.declared.store.Kept.TheVariants as kept

-- a name that a record may have, and none of these
abbrev pub is_stale : List (List ℕ) → List ℕ → Bool
is_stale names name = is_record_name name && not (is_among names name)

-- those of listed names that are
abbrev pub stale : List (List ℕ) → List (List ℕ) → List (List ℕ)
stale names listed = filter (is_stale names) listed

-- whether a set of texts has one, as a look-up finds it
abbrev pub has_text : BTreeSet (Bor (List ℕ)) → List ℕ → Bool
has_text wanted name = contains_by (λ k. slice_cmp nat_cmp name k.now) wanted

-- The set has these names, and no other.
abbrev pub HoldsNames : List (List ℕ) → BTreeSet (Bor (List ℕ)) → Type 0
HoldsNames names wanted = (name : List ℕ) → has_text wanted name ≡ is_among names name

-- a name that a record may have, and none of a set
abbrev pub is_unwanted : BTreeSet (Bor (List ℕ)) → List ℕ → Bool
is_unwanted wanted name = is_record_name name && not (has_text wanted name)

-- what is held once all stale names are gone
abbrev pub pruned : List (List ℕ) → Held → Held
pruned names held = retain_keys held (λ name. not (is_stale names name))

-- a keeper after one name was removed
abbrev pub after_remove : KeeperState → List ℕ → KeeperState
after_remove keeper name = after_call (Removed name done.Done) (without name keeper.held) keeper

-- and after these were, in order
abbrev pub gone : List (List ℕ) → KeeperState → KeeperState
gone names keeper = fold after_remove keeper names

-- a keeper after it listed these names
abbrev pub listed_by : List (List ℕ) → KeeperState → KeeperState
listed_by listed keeper = after_call (Named (listing.Names listed)) keeper.held keeper

-- A remove failed, of one of these names; those before it are gone.
pub record StopsAt (old : KeeperState) (names : List (List ℕ)) (new : KeeperState) : Type 0 where
  pub front : List (List ℕ)
  pub name : List ℕ
  pub rest : List (List ℕ)
  pub parts : names ≡ front ++ name ∷ rest
  pub fails : RemoveStep (gone front old) name done.Failed new

-- The same of the names that a set does not have.
abbrev pub PrunesUnwanted : KeeperState → BTreeSet (Bor (List ℕ)) → Result Kept AllocError → KeeperState → Type 0
PrunesUnwanted old wanted (Ok kept.Done) new = (listed : List (List ℕ)) × IsListed old.held (listing.Names listed) × (new ≡ gone (filter (is_unwanted wanted) listed) (listed_by listed old))
PrunesUnwanted old wanted (Ok kept.TooLong) new = ⊥
PrunesUnwanted old wanted (Ok kept.StoreFault) new =
    NamesStep old listing.Failed new
    ⊎ ((listed : List (List ℕ)) × IsListed old.held (listing.Names listed) × StopsAt (listed_by listed old) (filter (is_unwanted wanted) listed) new)
PrunesUnwanted old wanted (Err e) new = NamesStep old listing.Memory new

-- The names were listed, and then each stale one removed in that order, up to a remove that failed.
abbrev pub PruneEnds : KeeperState → List (List ℕ) → Result Kept AllocError → KeeperState → Type 0
PruneEnds old names (Ok kept.Done) new = (listed : List (List ℕ)) × IsListed old.held (listing.Names listed) × (new ≡ gone (stale names listed) (listed_by listed old))
PruneEnds old names (Ok kept.TooLong) new = ⊥
PruneEnds old names (Ok kept.StoreFault) new =
    NamesStep old listing.Failed new
    ⊎ ((listed : List (List ℕ)) × IsListed old.held (listing.Names listed) × StopsAt (listed_by listed old) (stale names listed) new)
PruneEnds old names (Err e) new = (new ≡ old) ⊎ NamesStep old listing.Memory new

-- What is held then, where the keeper tells it and none of its calls failed.
abbrev pub PruneTells : List (List ℕ) → Held → Result Kept AllocError → Option Held → Type 0
PruneTells names held (Ok kept.Done) new = new ≡ Some (pruned names held)
PruneTells names held (Ok kept.TooLong) new = ⊥
PruneTells names held (Ok kept.StoreFault) new = Unit {0}
PruneTells names held (Err e) new = Unit {0}

-- Other names stay, where the keeper tells what it holds.
abbrev pub KeepsOthers : List (List ℕ) → Option Held → Option Held → Type 0
KeepsOthers names old new = IfSome old (λ before. IfSome new (λ after. (name : List ℕ) → not (is_stale names name) ≡ true → get after name ≡ get before name))
