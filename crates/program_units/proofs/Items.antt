-- What the placing reads of items is what it reads of a program's instances.
use Rattle.std.proofs.Common.{◌≡◌, ℕ, ◌+◌, List, [], ◌∷◌, map, sym, ap, ◌∙◌, Bool, true, false, cond, Option, Some, None, refl, option_map}
use Rattle.std.specs.Prelude.{slice_get, not, filter, if◌then◌else◌}
use Rattle.std.specs.List.{AllByRecursion}
use Rattle.std.proofs.lemmas.List.Elements.{filter_agree}
use Rattle.std.proofs.lemmas.List.Sums.{sum_by-cons}
use Rattle.std.proofs.lemmas.Option.{slice_get-map}
use Rattle.text_order.specs.TextOrder.{text_at, text_order}
use Rattle.cgu_merge.specs.Merging.{merged_units}
use Rattle.lar_typed.specs.Trees.{FunctionOf, PlainTree}
use Rattle.lar_typed.specs.TreeView.{Contents, plain}
use Rattle.mono_items.specs.declared.items.MonoItem.{MonoItem}
use Rattle.mono_items.specs.Homes.{has_home, home_of, homes, first_names, is_home, home_size}
use Rattle.mono_items.specs.Units.{units_left, is_own, own_if, own_items}
use Rattle.mono_graph.specs.Instances.{PlainInstance}
use Rattle.mono_graph.specs.Graphs.{SaysIf, IsItem, instances}
use Rattle.program_units.specs.Placing.{no_instance, item_if, item_of, items_of, is_homeless}

-- an item without the numbers of its instance
abbrev pub bare : MonoItem → MonoItem
bare x = record { instance = no_instance; place = x.place; generic = x.generic; inlined = x.inlined; root = x.root; size = x.size }

item_same : {A : Type 0} (o : Option (FunctionOf A)) (x : MonoItem) → SaysIf o x → item_if o ≡ bare x
item_same None x h = absurd h
item_same (Some f) x h = let a = h.place in let b = h.generic in let c = h.inlined in let d = h.root in let e = h.size in cc

pub items_same : (tree : Contents) (items : List MonoItem) → AllByRecursion (IsItem (plain tree)) items → items_of (plain tree) (instances tree items) ≡ map bare items
items_same tree [] h = refl
items_same tree (x ∷ items) h =
    ap (λ (y : MonoItem). y ∷ items_of (plain tree) (instances tree items)) (item_same (slice_get (plain tree).functions x.instance.function) x h.0)
    ∙ ap (λ (ys : List MonoItem). bare x ∷ ys) (items_same tree items h.1)

-- ---- homes and first units
homes_same : (items : List MonoItem) → homes (map bare items) ≡ homes items
homes_same [] = refl
homes_same (x ∷ items) = by (has_home x) (homes_same items)
  where
    by : (b : Bool) → homes (map bare items) ≡ homes items → map home_of (cond b (bare x ∷ filter has_home (map bare items)) (filter has_home (map bare items))) ≡ map home_of (cond b (x ∷ filter has_home items) (filter has_home items))
    by true h = ap (λ (hs : List (List ℕ)). home_of x ∷ hs) h
    by false h = h

pub names_same : (items : List MonoItem) → first_names (map bare items) ≡ first_names items
unfolding first_names
names_same items = ap (λ (hs : List (List ℕ)). map (text_at hs) (text_order hs)) (homes_same items)

size_same : (items : List MonoItem) (name : List ℕ) → home_size (map bare items) name ≡ home_size items name
unfolding home_size
size_same [] name = refl
size_same (x ∷ items) name =
    let size : MonoItem → ℕ = λ y. if is_home name y then y.size else 0 in
    sum_by-cons size (bare x) (map bare items) ∙ ap (λ (n : ℕ). size x + n) (size_same items name) ∙ sym (sum_by-cons size x items)

sizes_same : (items : List MonoItem) (names : List (List ℕ)) → map (home_size (map bare items)) names ≡ map (home_size items) names
sizes_same items [] = refl
sizes_same items (n ∷ names) = let p = size_same items n in let q = sizes_same items names in rw (p, q) refl

pub left_same : (items : List MonoItem) (limit : ℕ) → units_left (map bare items) limit ≡ units_left items limit
unfolding units_left
left_same items limit =
    ap (λ (ns : List (List ℕ)). merged_units ns (map (home_size (map bare items)) ns) limit) (names_same items)
    ∙ ap (λ (ss : List ℕ). merged_units (first_names items) ss limit) (sizes_same items (first_names items))

-- ---- home items
own_bare : (names : List (List ℕ)) (firsts : List ℕ) (o : Option MonoItem) → own_if (is_own names firsts) (option_map bare o) ≡ own_if (is_own names firsts) o
own_bare names firsts None = refl
own_bare names firsts (Some x) = refl

own_at : (items : List MonoItem) (firsts : List ℕ) (p : ℕ) → own_if (is_own (first_names (map bare items)) firsts) (slice_get (map bare items) p) ≡ own_if (is_own (first_names items) firsts) (slice_get items p)
own_at items firsts p =
    ap (λ (ns : List (List ℕ)). own_if (is_own ns firsts) (slice_get (map bare items) p)) (names_same items)
    ∙ ap (own_if (is_own (first_names items) firsts)) (slice_get-map bare items p)
    ∙ own_bare (first_names items) firsts (slice_get items p)

pub own_same : (items : List MonoItem) (order firsts : List ℕ) → own_items (map bare items) order firsts ≡ own_items items order firsts
unfolding own_items
own_same items order firsts = filter_agree (λ p. own_if (is_own (first_names (map bare items)) firsts) (slice_get (map bare items) p)) (λ p. own_if (is_own (first_names items) firsts) (slice_get items p)) (own_at items firsts) order

-- ---- items without a home
abbrev pub homeless_if : Option MonoItem → Bool
homeless_if o = own_if (λ x. not (has_home x)) o

homeless_of : (tree : PlainTree) (o : Option PlainInstance) → is_homeless tree o ≡ homeless_if (option_map (item_of tree) o)
homeless_of tree None = refl
homeless_of tree (Some x) = refl

homeless_bare : (o : Option MonoItem) → homeless_if (option_map bare o) ≡ homeless_if o
homeless_bare None = refl
homeless_bare (Some x) = refl

pub homeless_same : (tree : Contents) (items : List MonoItem) → AllByRecursion (IsItem (plain tree)) items → (p : ℕ) → is_homeless (plain tree) (slice_get (instances tree items) p) ≡ homeless_if (slice_get items p)
homeless_same tree items h p =
    homeless_of (plain tree) (slice_get (instances tree items) p)
    ∙ sym (ap homeless_if (slice_get-map (item_of (plain tree)) (instances tree items) p))
    ∙ ap (λ (ys : List MonoItem). homeless_if (slice_get ys p)) (items_same tree items h)
    ∙ ap homeless_if (slice_get-map bare items p)
    ∙ homeless_bare (slice_get items p)
