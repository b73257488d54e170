-- Names that hold bytes, as their entries lie in memory: one that is removed, and all of them in order.
use Rattle.std.proofs.Common.{◌≡◌, ℕ, List, [], ◌∷◌, ◌++◌, map, Bool, true, false, cond, Option, None, string_bytes, refl, sym, ap, subst, ◌∙◌}
use Rattle.std.specs.Prelude.{Result, Ok, Err, IfOk}
use Rattle.std.specs.Option.{option_map}
use Rattle.std.specs.Map.{lookup}
use Rattle.std.specs.BTreeMap.{BTreeMap, UpdatesBy, IsOrdered, is_at}
use Rattle.std.specs.BTreeMap as tree
use Rattle.std.specs.Cmp.Lexicographic.{nat_list_cmp_total, slice_cmp}
use Rattle.std.specs.List.{AllByRecursion}
use Rattle.std.specs.List.Sorted.{IsStrictlySortedBy}
use Rattle.std.specs.Ordering.{nat_cmp, eq_by_cmp}
use Rattle.std.specs.declared.cmp.Ordering.TheVariants.{Less}
use Rattle.std.specs.FinMap.{entries, entries-insert, len-entries, len-empty, keys, remove, same_map, put, get-remove, slice_cmp-IsAntisymmetric, nat_cmp-IsAntisymmetric}
use Rattle.std.specs.FinMap.Entries.{by_order}
use Rattle.std.specs.Str.{bytes_eq}
use Rattle.std.specs.String.{string_cmp}
use Rattle.std.specs.Cmp.{eq_by_cmp_equiv}
use Rattle.std.proofs.lemmas.List.{append-nil, nil_from_length}
use Rattle.std.proofs.lemmas.Map.Text.{is_eq-slice_cmp, btree_map_updates_text}
use Rattle.std.specs.declared.vec.Vec.{Vec}
use Rattle.std.specs.declared.alloc.Global.{Global}
use Rattle.std.specs.declared.string.String.{String}
use Rattle.std.specs.declared.alloc.AllocError.{AllocError}
use Rattle.outside.specs.Entries.{held_in}
use Rattle.outside.specs.Held.{Held}
use Rattle.outside.proofs.Lookups.{get_held}
use Rattle.keepers.specs.KeeperNoted.{bytes_of_all}
use Rattle.keepers.specs.KeeperState.{AreInOrder}

abbrev Entry : Type 0
Entry = String Global × Vec ℕ Global

abbrev bytes_at : List Entry → List ℕ → Option (List ℕ)
bytes_at es name = option_map (λ (v : Vec ℕ Global). v.items) (lookup (is_at (λ k. slice_cmp nat_cmp name (string_bytes k))) es)

dropped : (b : Bool) (o : Option (Vec ℕ Global)) → option_map (λ (v : Vec ℕ Global). v.items) (cond b None o) ≡ cond b None (option_map (λ (v : Vec ℕ Global). v.items) o)
dropped true o = refl
dropped false o = refl

-- one name is gone
pub remove_held : (old new : BTreeMap (String Global) (Vec ℕ Global)) (name : List ℕ) → UpdatesBy string_cmp (λ k. slice_cmp nat_cmp name (string_bytes k)) old new None
    → held_in new.entries ≡ remove (held_in old.entries) name
remove_held old new name updates = same_map nat_list_cmp_total (slice_cmp-IsAntisymmetric nat_cmp-IsAntisymmetric) (held_in new.entries) (remove (held_in old.entries) name) (λ q.
    get_held new.entries q
    ∙ ap (option_map (λ (w : Vec ℕ Global). w.items)) (btree_map_updates_text name old new None updates q)
    ∙ dropped (bytes_eq name q) (lookup (is_at (λ k. slice_cmp nat_cmp q (string_bytes k))) old.entries)
    ∙ ap (λ b. cond b None (bytes_at old.entries q)) (sym (is_eq-slice_cmp name q) ∙ (eq_by_cmp_equiv nat_list_cmp_total).symm name q)
    ∙ ap (cond (eq_by_cmp (slice_cmp nat_cmp) q name) None) (sym (get_held old.entries q))
    ∙ sym (get-remove nat_list_cmp_total (held_in old.entries) name q))

-- ---- all names in order

abbrev plain : Entry → List ℕ × List ℕ
plain e = (string_bytes e.0, e.1.items)

-- an entry below the others is put before them
put_first : (k v : List ℕ) (es : List (List ℕ × List ℕ)) → AllByRecursion (λ e. slice_cmp nat_cmp k e.0 ≡ Less) es → put (slice_cmp nat_cmp) k v es ≡ (k, v) ∷ es
put_first k v [] h = refl
put_first k v (e ∷ es) h = ap (λ r. by_order r ((k, v) ∷ e ∷ es) ((e.0, v) ∷ es) (e ∷ put (slice_cmp nat_cmp) k v es)) h.0

below_plain : (k : String Global) (es : List Entry) → AllByRecursion (λ y. string_cmp k y ≡ Less) (map (λ e. e.0) es) → AllByRecursion (λ e. slice_cmp nat_cmp (string_bytes k) e.0 ≡ Less) (map plain es)
below_plain k [] h = tt
below_plain k (e ∷ es) h = (h.0, below_plain k es h.1)

-- the entries of the map are those in memory, where these are in order
pub entries-held_in : (es : List Entry) → IsStrictlySortedBy string_cmp (map (λ e. e.0) es) → entries (held_in es) ≡ map plain es
unfolding IsStrictlySortedBy
entries-held_in [] h = nil_from_length (entries (held_in [])) (sym (len-entries (held_in [])) ∙ len-empty (slice_cmp nat_cmp) (List ℕ))
entries-held_in (e ∷ es) h =
    entries-insert nat_list_cmp_total (held_in es) (string_bytes e.0) e.1.items
    ∙ ap (put (slice_cmp nat_cmp) (string_bytes e.0) e.1.items) (entries-held_in es h.1)
    ∙ put_first (string_bytes e.0) e.1.items (map plain es) (below_plain e.0 es h.0)

names_plain : (es : List Entry) → map (λ e. e.0) (map plain es) ≡ bytes_of_all (map (λ e. e.0) es)
names_plain [] = refl
names_plain (e ∷ es) = ap (λ (l : List (List ℕ)). string_bytes e.0 ∷ l) (names_plain es)

pub keys-held_in : (m : BTreeMap (String Global) (Vec ℕ Global)) → IsOrdered string_cmp m → keys (held_in m.entries) ≡ bytes_of_all (tree.keys m)
keys-held_in m h = ap (map (λ e. e.0)) (entries-held_in m.entries h) ∙ names_plain m.entries

all_below : (k : String Global) (ks : List (String Global)) → AllByRecursion (λ y. string_cmp k y ≡ Less) ks → AllByRecursion (λ y. slice_cmp nat_cmp (string_bytes k) y ≡ Less) (bytes_of_all ks)
all_below k [] h = tt
all_below k (y ∷ ks) h = (h.0, all_below k ks h.1)

-- strings in order have their bytes in order
pub in_order-strings : (ks : List (String Global)) → IsStrictlySortedBy string_cmp ks → AreInOrder (bytes_of_all ks)
unfolding IsStrictlySortedBy
in_order-strings [] h = tt
in_order-strings (k ∷ ks) h = (all_below k ks h.0, in_order-strings ks h.1)

-- ---- the names that are answered

abbrev Names : Type 0
Names = Result (Vec (String Global) Global) AllocError

pub names-answered : (m : BTreeMap (String Global) (Vec ℕ Global)) (held : Held) (r : Names) → IsOrdered string_cmp m → held_in m.entries ≡ held
    → IfOk r (λ ks. bytes_of_all ks.items ≡ bytes_of_all (tree.keys m)) → IfOk r (λ ks. bytes_of_all ks.items ≡ keys held)
names-answered m held (Ok ks) ordered is h = h ∙ sym (keys-held_in m ordered) ∙ ap keys is
names-answered m held (Err e) ordered is h = tt

pub order-answered : (m : BTreeMap (String Global) (Vec ℕ Global)) (r : Names) → IsOrdered string_cmp m
    → IfOk r (λ ks. bytes_of_all ks.items ≡ bytes_of_all (tree.keys m)) → IfOk r (λ ks. AreInOrder (bytes_of_all ks.items))
order-answered m (Ok ks) ordered h = subst AreInOrder (sym h) (in_order-strings (tree.keys m) ordered)
order-answered m (Err e) ordered h = tt

-- a list that has all strings of one in order
pub in_order-given : (all list rest : List (String Global)) → list ++ rest ≡ all → rest ≡ [] → IsStrictlySortedBy string_cmp all → AreInOrder (bytes_of_all list)
in_order-given all list rest is none ordered =
    let same : list ≡ all = sym (append-nil list) ∙ ap (λ (l : List (String Global)). list ++ l) (sym none) ∙ is in
    in_order-strings list (subst (IsStrictlySortedBy string_cmp) (sym same) ordered)

pub in_order-none : (list : List (String Global)) → list ≡ [] → AreInOrder (bytes_of_all list)
unfolding IsStrictlySortedBy
in_order-none list none = subst (λ (l : List (String Global)). AreInOrder (bytes_of_all l)) (sym none) tt
