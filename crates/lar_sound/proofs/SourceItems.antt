-- Each item of sources that keep the parser's promises has lawful names, and keeps its limits.
use Rattle.std.proofs.Common.{◌≡◌, ℕ, ◌+◌, ◌-◌, ◌≤◌, refl, sym, ap, ◌∙◌, arith, Bool, true, false, ◌||◌, List, [], ◌∷◌, ◌++◌, length}
use Rattle.std.proofs.lemmas.List.{length_push}
use Rattle.lar_typed.specs.Paths.{is_name, are_names}
use Rattle.lar_typed.proofs.SameTypes.{and_true, both_true}
use Rattle.lar_tree.specs.Limits.{max_levels}
use Rattle.lar_tree.specs.Sizes.{block_size, item_size, items_size}
use Rattle.lar_tree.proofs.TreeSizes.{items-size}
use Rattle.lar_tree.specs.Lawful.{Every, LimitedStruct, LimitedFn, LimitedItem, LimitedItems}
use Rattle.lar_tree.specs.Items.{PlainFn, PlainItem, module_item, struct_item, const_item, fn_item, PlainItems, no_items, items, flat_items}
use Rattle.lar_rules.specs.Declared.{Source, What, a_module, a_struct, a_const, a_function, Declared, Places, past, has_name, item_name, item_declared, items_declared, declared_from, declared}
use Rattle.lar_sound.specs.Items.{HoldsAt, EachItem}
use Rattle.lar_sound.specs.Sources.{NamedItem, NamedItems, AreSources, IsModules}
use Rattle.lar_sound.proofs.EachOf.{every_join}
use Rattle.lar_rules.specs.Declared.{Struct, Function}

-- a function within the limits, and no larger than a source
abbrev pub IsGoodFn : PlainFn → Type 0
IsGoodFn f = ((n : ℕ) × LimitedFn n f) × (block_size f.body ≤ 16777216)

abbrev pub IsGoodWhat : Declared → What → Type 0
IsGoodWhat d a_module = Unit {0}
IsGoodWhat d (a_struct s) = (d.name ≡ s.name) × LimitedStruct s
IsGoodWhat d (a_const c) = Unit {0}
IsGoodWhat d (a_function f) = (d.name ≡ f.name) × IsGoodFn f

pub record IsGood (d : Declared) : Type 0 where
  pub modules : IsModules d.modules
  pub named : is_name d.name.text ≡ true
  pub within : IsGoodWhat d d.what

-- modules in which n levels may still be opened
record HasRoom (n : ℕ) (ms : List (List ℕ)) : Type 0 where
  first : List ℕ
  others : List (List ℕ)
  are : first ∷ others ≡ ms
  names : are_names (first ∷ others) ≡ true
  room : length others + n ≤ 64

modules_of : (n : ℕ) (ms : List (List ℕ)) → HasRoom n ms → IsModules ms
modules_of n ms h =
    let r = h.room in
    record { first = h.first; others = h.others; are = h.are; names = h.names; few = omega (arith, r) }

names_then : (ns : List (List ℕ)) (n : List ℕ) → are_names ns ≡ true → is_name n ≡ true
    → are_names (ns ++ n ∷ []) ≡ true
names_then [] n h k = both_true (is_name n) true k refl
names_then (m ∷ ms) n h k =
    let p = and_true (is_name m) (are_names ms) h in
    both_true (is_name m) (are_names (ms ++ n ∷ [])) p.0 (names_then ms n p.1 k)

deeper : (n : ℕ) (ms : List (List ℕ)) (name : List ℕ) → HasRoom n ms → 1 ≤ n → is_name name ≡ true
    → HasRoom (n - 1) (ms ++ name ∷ [])
deeper n ms name h l k =
    let r : length h.others + n ≤ 64 = h.room in
    let e : length (h.others ++ name ∷ []) ≡ length h.others + 1 = length_push h.others name in
    record {
      first = h.first;
      others = h.others ++ name ∷ [];
      are = ap (λ (xs : List (List ℕ)). xs ++ name ∷ []) h.are;
      names = names_then (h.first ∷ h.others) name h.names k;
      room = omega (arith, r, e, l);
    }

mutual
  item_good : (file : ℕ) (ms : List (List ℕ)) (hidden : Bool) (earlier : List (List ℕ)) (n : ℕ) (i : PlainItem)
      → HasRoom n ms → NamedItem i → LimitedItem n i → item_size i ≤ 16777216
      → Every IsGood (item_declared file ms hidden earlier i)
  item_good file ms hidden earlier n (module_item at x from is to) h k l z = (
    record { modules = modules_of n ms h; named = k.0; within = tt },
    items_good file (ms ++ x.text ∷ []) (hidden || has_name x.text earlier) [] (n - 1) is
        (deeper n ms x.text h l.0 k.0) k.1 l.1 z,
  )
  item_good file ms hidden earlier n (struct_item s) h k l z =
      (record { modules = modules_of n ms h; named = k; within = (refl, l) }, tt)
  item_good file ms hidden earlier n (const_item c) h k l z =
      (record { modules = modules_of n ms h; named = k; within = tt }, tt)
  item_good file ms hidden earlier n (fn_item f) h k l z =
      (record { modules = modules_of n ms h; named = k; within = (refl, ((n, l), z)) }, tt)

  items_good : (file : ℕ) (ms : List (List ℕ)) (hidden : Bool) (earlier : List (List ℕ)) (n : ℕ) (is : PlainItems)
      → HasRoom n ms → NamedItems is → LimitedItems n is → items_size is ≤ 16777216
      → Every IsGood (items_declared file ms hidden earlier is)
  items_good file ms hidden earlier n no_items h k l z = tt
  items_good file ms hidden earlier n (items i is) h k l z =
      let w : item_size i + items_size is ≤ 16777216 = z in
      every_join IsGood (item_declared file ms hidden earlier i)
      (items_declared file ms hidden (earlier ++ (item_name i).text ∷ []) is)
      (item_good file ms hidden earlier n i h k.0 l.0 (omega (arith, w)))
      (items_good file ms hidden (earlier ++ (item_name i).text ∷ []) n is h k.1 l.1 (omega (arith, w)))

from_good : (file : ℕ) (sources : List Source) → AreSources sources → Every IsGood (declared_from file sources)
from_good file [] h = tt
from_good file (s ∷ ss) h =
    let is = h.0 in
    let few : length (flat_items s.items) ≤ 16777216 = is.few_tokens in
    let size : items_size s.items ≤ length (flat_items s.items) = items-size s.items in
    every_join IsGood (items_declared file (s.module_name ∷ []) false [] s.items) (declared_from (file + 1) ss)
    (items_good file (s.module_name ∷ []) false [] max_levels s.items
    (record {
      first = s.module_name;
      others = [];
      are = refl;
      names =
          both_true (is_name s.module_name) true is.named_module refl;
      room = omega arith;
    }) is.named_items
    is.limited (omega (arith, few, size)))
    (from_good (file + 1) ss h.1)

pub all_good : (sources : List Source) → AreSources sources → Every IsGood (declared sources)
unfolding declared
all_good sources h = from_good 0 sources h

-- what holds of each declaration holds of each item
pub each_of_every : (Q : Declared → Type 0) (S : Struct → Type 0) (F : Function → Type 0) (C : ℕ → Type 0) (p : Places)
    (ds : List Declared) → ((q : Places) (d : Declared) → Q d → HoldsAt S F C q d d.what) → Every Q ds
    → EachItem S F C p ds
each_of_every Q S F C p [] f h = tt
each_of_every Q S F C p (d ∷ ds) f h = (f p d h.0, each_of_every Q S F C (past p d.what) ds f h.1)

-- a struct and a function of lawful names, within their limits
pub record IsGoodStruct (x : Struct) : Type 0 where
  pub modules : IsModules x.from.modules
  pub same_name : x.from.name ≡ x.it.name
  pub named : is_name x.it.name.text ≡ true
  pub limited : LimitedStruct x.it

pub record IsGoodFunction (x : Function) : Type 0 where
  pub modules : IsModules x.from.modules
  pub same_name : x.from.name ≡ x.it.name
  pub named : is_name x.it.name.text ≡ true
  pub within : IsGoodFn x.it

good_at : (p : Places) (d : Declared) (w : What) → IsModules d.modules → is_name d.name.text ≡ true → IsGoodWhat d w
    → HoldsAt IsGoodStruct IsGoodFunction (λ (n : ℕ). Unit {0}) p d w
good_at p d a_module m n h = tt
good_at p d (a_struct s) m n h =
    record { modules = m; same_name = h.0; named = ap (λ x. is_name x.text) (sym h.0) ∙ n; limited = h.1 }
good_at p d (a_const c) m n h = tt
good_at p d (a_function f) m n h =
    record { modules = m; same_name = h.0; named = ap (λ x. is_name x.text) (sym h.0) ∙ n; within = h.1 }

pub items_are_good : (p : Places) (ds : List Declared) → Every IsGood ds
    → EachItem IsGoodStruct IsGoodFunction (λ (n : ℕ). Unit {0}) p ds
items_are_good p ds h =
    each_of_every IsGood IsGoodStruct IsGoodFunction (λ (n : ℕ). Unit {0}) p ds
    (λ q d g. good_at q d d.what g.modules g.named g.within) h
