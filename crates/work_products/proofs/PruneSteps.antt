-- Names that are removed one after another, and what is held then.
use Rattle.std.proofs.Common.{◌≡◌, ◌⊎◌, inl, inr, ℕ, suc, ◌+◌, ◌<◌, Bool, true, false, cond, not, ◌&&◌, ◌||◌, List, [], ◌∷◌, ◌++◌, length, get_or, take, drop, Option, Some, None, Result, Ok, Err, string_bytes, refl, sym, ap, subst, ◌∙◌, append_assoc, drop-cons}
use Rattle.std.specs.Prelude.{IfSome, is_some, fold}
use Rattle.std.specs.BTreeSet.{BTreeSet, UpdatesBy}
use Rattle.std.specs.Cmp.Lexicographic.{nat_list_cmp_total, slice_cmp}
use Rattle.std.specs.FinMap.{IsAntisymmetric, get, remove, keys, contains_key-keys, get-remove, get-retain_keys, same_map, slice_cmp-IsAntisymmetric, nat_cmp-IsAntisymmetric}
use Rattle.std.specs.List.{filter, list_any}
use Rattle.std.specs.Option.{option_map}
use Rattle.std.specs.Ordering.{nat_cmp, eq_by_cmp}
use Rattle.std.specs.declared.alloc.AllocError.{AllocError}
use Rattle.std.specs.declared.alloc.Global.{Global}
use Rattle.std.specs.declared.cmp.Ordering.{Ordering}
use Rattle.std.specs.declared.string.String.{String}
use Rattle.std.proofs.lemmas.Bool.{or_parts}
use Rattle.std.proofs.lemmas.List.{take_more, take-append-drop, append-nil, map-append}
use Rattle.std.proofs.lemmas.List.Elements.{filter-append}
use Rattle.std.proofs.lemmas.List.Folds.{list_any-append}
use Rattle.std.proofs.lemmas.List.Sums.{fold-append}
use Rattle.std.proofs.lemmas.Map.Text.{is_eq-slice_cmp}
use Rattle.std.proofs.lemmas.Slice.Eq.{bytes_eq-Decides}
use Rattle.journal.specs.declared.journal.Done.TheVariants as done
use Rattle.object_format.specs.ObjectReading.{is_among}
use Rattle.object_format.proofs.Distinct.{holds-more}
use Rattle.outside.specs.Held.{Held}
use Rattle.keepers.specs.KeeperNoted.{bytes_of_all}
use Rattle.keepers.specs.Listing as listing
use Rattle.keepers.specs.KeeperState.{KeeperState, IsListed, RemoveStep, without}
use Rattle.work_products.specs.Pruning.{has_text, HoldsNames, is_stale, is_unwanted, stale, pruned, gone, after_remove, listed_by, StopsAt, PrunesUnwanted, PruneEnds, PruneTells, KeepsOthers}
use Rattle.work_products.specs.Records.{is_record_name}
use Rattle.work_products.specs.declared.store.Kept.{Kept}
use Rattle.work_products.specs.declared.store.Kept.TheVariants as kept
use denote.Ref.{Bor}

abbrev Texts : Type 0
Texts = BTreeSet (Bor (List ℕ))

-- ---- the set of names

-- one name more
pub holds-next : (set new : Texts) (names : List (List ℕ)) (i : ℕ) (item name : List ℕ) → i < length names → item ≡ get_or names i item → name ≡ item
    → UpdatesBy (λ x y. slice_cmp nat_cmp x.now y.now) (λ k. slice_cmp nat_cmp name k.now) set new true → ((q : List ℕ) → has_text set q ≡ is_among (take i names) q)
    → (q : List ℕ) → has_text new q ≡ is_among (take (i + 1) names) q
holds-next set new names i item name h is same updates held =
    let more = holds-more set new (take i names) [] name updates (λ q. held q ∙ ap (λ (l : List (List ℕ)). is_among l q) (sym (append-nil (take i names)))) in
    let all : take (i + 1) names ≡ take i names ++ name ∷ [] = take_more names i item h ∙ ap (λ (x : List ℕ). take i names ++ x ∷ []) (sym is ∙ sym same) in
    λ q. more q ∙ ap (λ (l : List (List ℕ)). is_among l q) (sym all)

filter-same : (p r : List ℕ → Bool) → ((n : List ℕ) → p n ≡ r n) → (ns : List (List ℕ)) → filter p ns ≡ filter r ns
filter-same p r same [] = refl
filter-same p r same (n ∷ ns) = ap (λ (b : Bool). cond b (n ∷ filter p ns) (filter p ns)) (same n) ∙ ap (λ (l : List (List ℕ)). cond (r n) (n ∷ l) l) (filter-same p r same ns)

-- what a set of the names does not have is what is none of them
pub stale-unwanted : (wanted : Texts) (names : List (List ℕ)) → HoldsNames names wanted → (listed : List (List ℕ)) → filter (is_unwanted wanted) listed ≡ stale names listed
stale-unwanted wanted names holds listed = filter-same (is_unwanted wanted) (is_stale names) (λ n. ap (λ (b : Bool). is_record_name n && not b) (holds n)) listed

pub pruned-unwanted : (old : KeeperState) (wanted : Texts) (names : List (List ℕ)) (r : Result Kept AllocError) (new : KeeperState) → HoldsNames names wanted → PrunesUnwanted old wanted r new → PruneEnds old names r new
pruned-unwanted old wanted names (Ok kept.Done) new holds h = (h.0, h.1, h.2 ∙ ap (λ (ns : List (List ℕ)). gone ns (listed_by h.0 old)) (stale-unwanted wanted names holds h.0))
pruned-unwanted old wanted names (Ok kept.TooLong) new holds h = h
pruned-unwanted old wanted names (Ok kept.StoreFault) new holds (inl h) = inl h
pruned-unwanted old wanted names (Ok kept.StoreFault) new holds (inr h) =
    inr (h.0, h.1, subst (λ (ns : List (List ℕ)). StopsAt (listed_by h.0 old) ns new) (stale-unwanted wanted names holds h.0) h.2)
pruned-unwanted old wanted names (Err e) new holds h = inr h

-- ---- names in turn

abbrev Strings : Type 0
Strings = List (String Global)

bytes-more : (listed : Strings) (i : ℕ) (item : String Global) → i < length listed → item ≡ get_or listed i item → bytes_of_all (take (i + 1) listed) ≡ bytes_of_all (take i listed) ++ string_bytes item ∷ []
bytes-more listed i item h is =
    ap bytes_of_all (take_more listed i item h ∙ ap (λ (x : String Global). take i listed ++ x ∷ []) (sym is)) ∙ map-append string_bytes (take i listed) (item ∷ [])

-- one name more is removed, or was to stay
pub gone-more : (test : List ℕ → Bool) (listed : Strings) (i : ℕ) (item : String Global) (name : List ℕ) (old at new : KeeperState) → i < length listed → item ≡ get_or listed i item → name ≡ string_bytes item
    → at ≡ gone (filter test (bytes_of_all (take i listed))) old → new ≡ gone (filter test (name ∷ [])) at → new ≡ gone (filter test (bytes_of_all (take (i + 1) listed))) old
gone-more test listed i item name old at new h is same before next =
    let front = bytes_of_all (take i listed) in
    next
    ∙ ap (λ (s : KeeperState). gone (filter test (name ∷ [])) s) before
    ∙ sym (fold-append after_remove old (filter test front) (filter test (name ∷ [])))
    ∙ ap (λ (ns : List (List ℕ)). gone ns old) (sym (filter-append test front (name ∷ [])))
    ∙ ap (λ (n : List ℕ). gone (filter test (front ++ n ∷ [])) old) same
    ∙ ap (λ (ns : List (List ℕ)). gone (filter test ns) old) (sym (bytes-more listed i item h is))

-- a remove failed
pub stops-at : (test : List ℕ → Bool) (listed : Strings) (i : ℕ) (item : String Global) (name : List ℕ) (old at new : KeeperState) → i < length listed → item ≡ get_or listed i item → name ≡ string_bytes item
    → at ≡ gone (filter test (bytes_of_all (take i listed))) old → test name ≡ true → RemoveStep at name done.Failed new → StopsAt old (filter test (bytes_of_all listed)) new
stops-at test listed i item name old at new h is same before unwanted fails =
    let front = bytes_of_all (take i listed) in
    let rest = bytes_of_all (drop (suc i) listed) in
    let split : listed ≡ take i listed ++ item ∷ drop (suc i) listed = sym (take-append-drop i listed) ∙ ap (λ (l : Strings). take i listed ++ l) (drop-cons listed i item h ∙ ap (λ (x : String Global). x ∷ drop (suc i) listed) (sym is)) in
    let bytes : bytes_of_all listed ≡ front ++ name ∷ rest = ap bytes_of_all split ∙ map-append string_bytes (take i listed) (item ∷ drop (suc i) listed) ∙ ap (λ (n : List ℕ). front ++ n ∷ rest) (sym same) in
    let parts : filter test (bytes_of_all listed) ≡ filter test front ++ name ∷ filter test rest =
    ap (filter test) bytes ∙ filter-append test front (name ∷ rest) ∙ ap (λ (b : Bool). filter test front ++ cond b (name ∷ filter test rest) (filter test rest)) unwanted in
    record { front = filter test front; name = name; rest = filter test rest; parts = parts; fails = subst (λ (s : KeeperState). RemoveStep s name done.Failed new) before fails }

-- ---- what is held once names are gone

abbrev order : List ℕ → List ℕ → Ordering
order = slice_cmp nat_cmp

same_name : (q k : List ℕ) → eq_by_cmp order q k ≡ true → q ≡ k
same_name q k h = (bytes_eq-Decides q k).0 (sym (is_eq-slice_cmp q k) ∙ h)

-- removed one after another
abbrev removed_in : List (List ℕ) → Held → Held
removed_in names held = fold remove held names

get-removed_in : (names : List (List ℕ)) (held : Held) (q : List ℕ) → get (removed_in names held) q ≡ cond (list_any (eq_by_cmp order q) names) None (get held q)
get-removed_in [] held q = refl
get-removed_in (n ∷ ns) held q =
    get-removed_in ns (remove held n) q
    ∙ ap (cond (list_any (eq_by_cmp order q) ns) None) (get-remove nat_list_cmp_total held n q)
    ∙ by_tests (eq_by_cmp order q n) (list_any (eq_by_cmp order q) ns) (get held q)
  where
    by_tests : (a b : Bool) (o : Option (List ℕ)) → cond b None (cond a None o) ≡ cond (a || b) None o
    by_tests true true o = refl
    by_tests true false o = refl
    by_tests false b o = refl

held-gone : (names : List (List ℕ)) (s : KeeperState) → (gone names s).held ≡ option_map (removed_in names) s.held
held-gone [] s = itself s.held
  where
    itself : (o : Option Held) → o ≡ option_map (λ h. h) o
    itself None = refl
    itself (Some h) = refl
held-gone (n ∷ ns) s = held-gone ns (after_remove s n) ∙ twice s.held
  where
    twice : (o : Option Held) → option_map (removed_in ns) (without n o) ≡ option_map (removed_in (n ∷ ns)) o
    twice None = refl
    twice (Some h) = refl

-- a name is among those that pass a test where it passes and is among all
pulled : (b e : Bool) (all : List (List ℕ) → Bool) (n : List ℕ) (ns : List (List ℕ)) → all (n ∷ ns) ≡ (e || all ns) → all (cond b (n ∷ ns) ns) ≡ cond b (e || all ns) (all ns)
pulled true e all n ns h = h
pulled false e all n ns h = refl

any_step : (e b c f s : Bool) → (e ≡ true → b ≡ c) → f ≡ (c && s) → cond b (e || f) f ≡ (c && (e || s))
any_step true true true f s same h = refl
any_step true true false f s same h = absurd (let no : true ≡ false = same refl in cc)
any_step true false true f s same h = absurd (let no : false ≡ true = same refl in cc)
any_step true false false f s same h = h
any_step false true c f s same h = h
any_step false false c f s same h = h

none_of : (b : Bool) → false ≡ (b && false)
none_of true = refl
none_of false = refl

any-filter : (test : List ℕ → Bool) (q : List ℕ) (names : List (List ℕ)) → list_any (eq_by_cmp order q) (filter test names) ≡ (test q && list_any (eq_by_cmp order q) names)
any-filter test q [] = none_of (test q)
any-filter test q (n ∷ ns) =
    pulled (test n) (eq_by_cmp order q n) (list_any (eq_by_cmp order q)) n (filter test ns) refl
    ∙ any_step (eq_by_cmp order q n) (test n) (test q) (list_any (eq_by_cmp order q) (filter test ns)) (list_any (eq_by_cmp order q) ns) (λ h. ap test (sym (same_name q n h))) (any-filter test q ns)

antisymmetric : IsAntisymmetric order
antisymmetric = slice_cmp-IsAntisymmetric nat_cmp-IsAntisymmetric

-- what a name holds once all stale names are gone
pub get-pruned : (names : List (List ℕ)) (held : Held) (q : List ℕ) → get (pruned names held) q ≡ cond (not (is_stale names q)) (get held q) None
get-pruned names held q = get-retain_keys held (λ name. not (is_stale names name)) q (λ x tied. ap (λ (k : List ℕ). not (is_stale names k)) (sym (antisymmetric q x tied)))

-- what is stale among all names is gone, and nothing else
pub removed_in-stale : (names : List (List ℕ)) (held : Held) → removed_in (stale names (keys held)) held ≡ pruned names held
removed_in-stale names held = same_map nat_list_cmp_total antisymmetric (removed_in (stale names (keys held)) held) (pruned names held) (λ q.
    get-removed_in (stale names (keys held)) held q
    ∙ ap (λ (b : Bool). cond b None (get held q)) (any-filter (is_stale names) q (keys held) ∙ ap (λ (b : Bool). is_stale names q && b) (sym (contains_key-keys held q)))
    ∙ by_tests (is_stale names q) (get held q)
    ∙ sym (get-pruned names held q))
  where
    by_tests : (b : Bool) (o : Option (List ℕ)) → cond (b && is_some o) None o ≡ cond (not b) o None
    by_tests true None = refl
    by_tests true (Some x) = refl
    by_tests false o = refl

done-tells : (held after : Option Held) (names listed : List (List ℕ)) → IsListed held (listing.Names listed) → after ≡ option_map (removed_in (stale names listed)) held
    → IfSome held (λ h. after ≡ Some (pruned names h))
done-tells None after names listed is h = tt
done-tells (Some held) after names listed is h = h ∙ ap (λ (ns : List (List ℕ)). Some (removed_in (stale names ns) held)) is.1 ∙ ap Some (removed_in-stale names held)

no_tells : (held : Option Held) → IfSome held (λ h. Unit {0})
no_tells None = tt
no_tells (Some held) = tt

-- what a keeper holds that was pruned
pub prune-tells : (old : KeeperState) (names : List (List ℕ)) (r : Result Kept AllocError) (new : KeeperState) → PruneEnds old names r new → IfSome old.held (λ held. PruneTells names held r new.held)
prune-tells old names (Ok kept.Done) new h =
    done-tells old.held new.held names h.0 h.1 (ap (λ (s : KeeperState). s.held) h.2 ∙ held-gone (stale names h.0) (listed_by h.0 old))
prune-tells old names (Ok kept.TooLong) new h = absurd h
prune-tells old names (Ok kept.StoreFault) new h = no_tells old.held
prune-tells old names (Err e) new h = no_tells old.held

-- ---- the names that stay

-- none of these is a name that stays
abbrev AreStale : List (List ℕ) → List (List ℕ) → Type 0
AreStale names ns = (q : List ℕ) → not (is_stale names q) ≡ true → list_any (eq_by_cmp order q) ns ≡ false

stays : (b s : Bool) → not b ≡ true → (b && s) ≡ false
stays true s h = absurd cc
stays false s h = refl

stale-AreStale : (names listed : List (List ℕ)) → AreStale names (stale names listed)
stale-AreStale names listed q h = any-filter (is_stale names) q listed ∙ stays (is_stale names q) (list_any (eq_by_cmp order q) listed) h

keeps_by : (names ns : List (List ℕ)) (before after : Option Held) → AreStale names ns → after ≡ option_map (removed_in ns) before → KeepsOthers names before after
keeps_by names ns None after are h = tt
keeps_by names ns (Some held) after are h =
    subst (λ (o : Option Held). IfSome o (λ g. (q : List ℕ) → not (is_stale names q) ≡ true → get g q ≡ get held q)) (sym h)
    (λ q stay. get-removed_in ns held q ∙ ap (λ (b : Bool). cond b None (get held q)) (are q stay))

keeps_same : (names : List (List ℕ)) (before after : Option Held) → after ≡ before → KeepsOthers names before after
keeps_same names before after h = keeps_by names [] before after (λ q stay. refl) (h ∙ itself before)
  where
    itself : (o : Option Held) → o ≡ option_map (removed_in []) o
    itself None = refl
    itself (Some x) = refl

without-removed_in : (front : List (List ℕ)) (n : List ℕ) (o : Option Held) → without n (option_map (removed_in front) o) ≡ option_map (removed_in (front ++ n ∷ [])) o
without-removed_in front n None = refl
without-removed_in front n (Some held) = ap Some (sym (fold-append remove held front (n ∷ [])))

-- of names of which none stays, the first ones are such too
first_stale : (names ns front rest : List (List ℕ)) → ns ≡ front ++ rest → AreStale names ns → AreStale names front
first_stale names ns front rest is are q stay = (or_parts (list_any (eq_by_cmp order q) front) (list_any (eq_by_cmp order q) rest) (sym (list_any-append (eq_by_cmp order q) front rest) ∙ ap (list_any (eq_by_cmp order q)) (sym is) ∙ are q stay)).0

stopped_keeps : (names listed : List (List ℕ)) (old new : KeeperState) → StopsAt (listed_by listed old) (stale names listed) new → KeepsOthers names old.held new.held
stopped_keeps names listed old new h = by_cases h.fails.0
  where
    before : (gone h.front (listed_by listed old)).held ≡ option_map (removed_in h.front) old.held
    before = held-gone h.front (listed_by listed old)

    by_cases : (new.held ≡ (gone h.front (listed_by listed old)).held) ⊎ (new.held ≡ without h.name (gone h.front (listed_by listed old)).held) → KeepsOthers names old.held new.held
    by_cases (inl same) = keeps_by names h.front old.held new.held (first_stale names (stale names listed) h.front (h.name ∷ h.rest) h.parts (stale-AreStale names listed)) (same ∙ before)
    by_cases (inr less) =
        let parts : stale names listed ≡ (h.front ++ h.name ∷ []) ++ h.rest = h.parts ∙ sym (append_assoc h.front (h.name ∷ []) h.rest) in
        keeps_by names (h.front ++ h.name ∷ []) old.held new.held (first_stale names (stale names listed) (h.front ++ h.name ∷ []) h.rest parts (stale-AreStale names listed))
        (less ∙ ap (without h.name) before ∙ without-removed_in h.front h.name old.held)

pub prune-keeps : (old : KeeperState) (names : List (List ℕ)) (r : Result Kept AllocError) (new : KeeperState) → PruneEnds old names r new → KeepsOthers names old.held new.held
prune-keeps old names (Ok kept.Done) new h =
    keeps_by names (stale names h.0) old.held new.held (stale-AreStale names h.0) (ap (λ (s : KeeperState). s.held) h.2 ∙ held-gone (stale names h.0) (listed_by h.0 old))
prune-keeps old names (Ok kept.TooLong) new h = absurd h
prune-keeps old names (Ok kept.StoreFault) new (inl h) = keeps_same names old.held new.held (ap (λ (s : KeeperState). s.held) h.1)
prune-keeps old names (Ok kept.StoreFault) new (inr h) = stopped_keeps names h.0 old new h.2
prune-keeps old names (Err e) new (inl h) = keeps_same names old.held new.held (ap (λ (s : KeeperState). s.held) h)
prune-keeps old names (Err e) new (inr h) = keeps_same names old.held new.held (ap (λ (s : KeeperState). s.held) h.1)
