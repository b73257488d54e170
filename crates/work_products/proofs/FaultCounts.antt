-- How many of the calls of a find, a keep and a prune have failed: one where the answer is a fault of the store, and none else.
use Rattle.std.proofs.Common.{◌≡◌, inl, inr, ℕ, ◌+◌, cond, List, [], ◌∷◌, ◌++◌, Option, Some, None, Result, Ok, Err, refl, sym, ap, ◌∙◌, add-zero, zero-add}
use Rattle.std.specs.declared.alloc.AllocError.{AllocError}
use Rattle.std.proofs.lemmas.List.Sums.{sum_by-append}
use Rattle.journal.specs.Journal as given
use Rattle.outside.specs.Held.{Held}
use Rattle.keepers.specs.KeeperCalls.{KeeperCall, Loaded, is_fault, faults_in}
use Rattle.keepers.specs.KeeperState.{KeeperState, after_call, faults_of}
use Rattle.work_products.specs.Pruning.{gone, after_remove, listed_by, stale, PruneEnds}
use Rattle.work_products.specs.Records.{record_name}
use Rattle.work_products.specs.Store.{whole, whole_or_damaged, judged, most_loaded, MayWant, FindEnds, KeepEnds, find_faults, keep_faults}
use Rattle.work_products.specs.declared.store.Found.{Found}
use Rattle.work_products.specs.declared.store.Found.TheVariants as found
use Rattle.work_products.specs.declared.store.Kept.{Kept}
use Rattle.work_products.specs.declared.store.Kept.TheVariants as kept

abbrev weight : KeeperCall → ℕ
weight call = cond (is_fault call) 1 0

counted : (calls : List KeeperCall) (call : KeeperCall) → faults_in (calls ++ call ∷ []) ≡ faults_in calls + weight call
counted calls call = sum_by-append weight calls (call ∷ []) ∙ ap (λ (n : ℕ). faults_in calls + n) (zero-add (weight call))

-- one call more
after : (call : KeeperCall) (held : Option Held) (old new : KeeperState) → new ≡ after_call call held old → faults_of new ≡ faults_of old + weight call
after call held old new h = ap faults_of h ∙ counted old.calls call

same : (old new : KeeperState) → new ≡ old → faults_of new ≡ faults_of old + 0
same old new h = ap faults_of h ∙ sym (add-zero (faults_of old))

-- ---- a find

judged_weight : (name text : List ℕ) (most : ℕ) (load : given.Found) (answer : Found) → judged text load ≡ Some answer → weight (Loaded name most load) ≡ find_faults (Ok answer)
judged_weight name text most (given.Bytes bytes) answer h = fine (whole text bytes) h
  where
    fine : (w : Option (List ℕ)) → Some (whole_or_damaged w) ≡ Some answer → 0 ≡ find_faults (Ok answer)
    fine None e = let is : whole_or_damaged None ≡ answer = cc in ap (λ (f : Found). find_faults (Ok f)) is
    fine (Some object) e = let is : whole_or_damaged (Some object) ≡ answer = cc in ap (λ (f : Found). find_faults (Ok f)) is
judged_weight name text most given.Absent answer h = let is : found.Absent ≡ answer = cc in ap (λ (f : Found). find_faults (Ok f)) is
judged_weight name text most given.Failed answer h = let is : found.StoreFault ≡ answer = cc in ap (λ (f : Found). find_faults (Ok f)) is
judged_weight name text most given.Memory answer h = absurd cc

want_weight : (name : List ℕ) (most : ℕ) (load : given.Found) → MayWant load → weight (Loaded name most load) ≡ 0
want_weight name most (given.Bytes bytes) h = refl
want_weight name most given.Absent h = absurd h
want_weight name most given.Failed h = absurd h
want_weight name most given.Memory h = refl

pub find-faults : (old : KeeperState) (text : List ℕ) (r : Result Found AllocError) (new : KeeperState) → FindEnds old text r new → faults_of new ≡ faults_of old + find_faults r
find-faults old text (Ok answer) new h = after _ old.held old new h.1.1 ∙ ap (λ (n : ℕ). faults_of old + n) (judged_weight (record_name text) text most_loaded h.0 answer h.2)
find-faults old text (Err e) new (inl h) = same old new h
find-faults old text (Err e) new (inr h) = after _ old.held old new h.1.1 ∙ ap (λ (n : ℕ). faults_of old + n) (want_weight (record_name text) most_loaded h.0 h.2)

-- ---- a keep

pub keep-faults : (old : KeeperState) (text object : List ℕ) (r : Result Kept AllocError) (new : KeeperState) → KeepEnds old text object r new → faults_of new ≡ faults_of old + keep_faults r
keep-faults old text object (Ok kept.Done) new h = after _ new.held old new h.2.1
keep-faults old text object (Ok kept.TooLong) new h = same old new h.1
keep-faults old text object (Ok kept.StoreFault) new h = after _ new.held old new h.2.1
keep-faults old text object (Err e) new (inl h) = same old new h
keep-faults old text object (Err e) new (inr h) = after _ new.held old new h.2.1

-- ---- a prune

faults-gone : (names : List (List ℕ)) (s : KeeperState) → faults_of (gone names s) ≡ faults_of s
faults-gone [] s = refl
faults-gone (n ∷ ns) s = faults-gone ns (after_remove s n) ∙ after _ _ s (after_remove s n) refl ∙ add-zero (faults_of s)

faults-listed : (listed : List (List ℕ)) (s : KeeperState) → faults_of (listed_by listed s) ≡ faults_of s
faults-listed listed s = after _ _ s (listed_by listed s) refl ∙ add-zero (faults_of s)

pub prune-faults : (old : KeeperState) (names : List (List ℕ)) (r : Result Kept AllocError) (new : KeeperState) → PruneEnds old names r new → faults_of new ≡ faults_of old + keep_faults r
prune-faults old names (Ok kept.Done) new h = ap faults_of h.2 ∙ faults-gone (stale names h.0) (listed_by h.0 old) ∙ faults-listed h.0 old ∙ sym (add-zero (faults_of old))
prune-faults old names (Ok kept.TooLong) new h = absurd h
prune-faults old names (Ok kept.StoreFault) new (inl h) = after _ old.held old new h.1
prune-faults old names (Ok kept.StoreFault) new (inr h) =
    after _ new.held (gone h.2.front (listed_by h.0 old)) new h.2.fails.1 ∙ ap (λ (n : ℕ). n + 1) (faults-gone h.2.front (listed_by h.0 old) ∙ faults-listed h.0 old)
prune-faults old names (Err e) new (inl h) = same old new h
prune-faults old names (Err e) new (inr h) = after _ old.held old new h.1
