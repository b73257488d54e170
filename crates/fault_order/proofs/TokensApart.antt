-- Where the tokens of a source are in order, those of different items are at different places.
use Rattle.std.proofs.Common.{◌≡◌, ℕ, ◌+◌, ◌<◌, refl, sym, subst as transport, arith, inl, inr, Bool, false, ◌||◌, List, [], ◌∷◌, ◌++◌}
use Rattle.lar_source.specs.declared.file.Span.{Span}
use Rattle.lar_tree.specs.declared.token.Token.{Token}
use Rattle.lar_tree.specs.Lawful.{Every}
use Rattle.lar_tree.specs.Items.{PlainItem, module_item, struct_item, const_item, fn_item, PlainItems, no_items, items, flat_item, flat_items}
use Rattle.lar_tree.specs.declared.name.Name.{Name}
use Rattle.lar_rules.specs.Declared.{Source, a_module, Declared, has_name, item_name, item_declared, items_declared, declared_from, declared}
use Rattle.lar_sound.proofs.EachOf.{every_parts, every_join, every_map}
use Rattle.fault_order.specs.Places.{HasPlace, IsEarlier, AreOrdered, item_tokens, AreSourcesOrdered}
use Rattle.fault_order.proofs.PlacesIn.{Into, into_self, into_left, into_right, into_tail}

-- no token of the first stands where one of the second does
abbrev pub AreDisjoint : List Token → List Token → Type 0
AreDisjoint xs ys = (a b : Span) → HasPlace xs a → HasPlace ys b → a.line ≡ b.line → a.col ≡ b.col → ⊥

not_earlier : (p q : Span) → IsEarlier p q → p.line ≡ q.line → p.col ≡ q.col → ⊥
not_earlier p q h e f = elim h [
  | inl l ↦ (let k : p.line < q.line = l in absurd (omega (arith, k, e)))
  | inr l ↦ (let k : p.col < q.col = l.1 in absurd (omega (arith, k, f)))
]

place_of : (P : Span → Type 0) (ts : List Token) (at : Span) → Every (λ (t : Token). P t.span) ts → HasPlace ts at
    → P at
place_of P [] at h k = absurd k
place_of P (t ∷ ts) at h k = elim k [ inl e ↦ transport P e h.0 | inr l ↦ place_of P ts at h.1 l ]

record OrderedParts (xs ys : List Token) : Type 0 where
  first : AreOrdered xs
  second : AreOrdered ys
  apart : AreDisjoint xs ys

ordered_parts : (xs ys : List Token) → AreOrdered (xs ++ ys) → OrderedParts xs ys
ordered_parts [] ys h = record { first = tt; second = h; apart = λ a b k l e f. absurd k }
ordered_parts (x ∷ xs) ys h =
    let r = ordered_parts xs ys h.1 in
    let w = every_parts (λ (u : Token). IsEarlier x.span u.span) xs ys h.0 in
    record {
      first = (w.0, r.first);
      second = r.second;
      apart = λ a b k l e f. elim k [
        | inl s ↦ not_earlier a b
            (transport (λ (p : Span). IsEarlier p b) s (place_of (λ (q : Span). IsEarlier x.span q) ys b w.1 l)) e f
        | inr m ↦ r.apart a b m l e f
      ];
    }

-- DECLARATIONS

-- their tokens stand at different places, where they are of one file
abbrev pub IsFar : Declared → Declared → Type 0
IsFar d e = d.file ≡ e.file → AreDisjoint (item_tokens d.what) (item_tokens e.what)

abbrev pub AreFar : List Declared → Type 0
AreFar [] = Unit {0}
AreFar (d ∷ ds) = Every (IsFar d) ds × AreFar ds

far_join : (xs ys : List Declared) → AreFar xs → AreFar ys → Every (λ (x : Declared). Every (IsFar x) ys) xs
    → AreFar (xs ++ ys)
far_join [] ys h k f = k
far_join (x ∷ xs) ys h k f = (every_join (IsFar x) xs ys h.0 f.0, far_join xs ys h.1 k f.1)

every_pair : {A B : Type 0} (P : A → Type 0) (Q : B → Type 0) (R : A → B → Type 0) (xs : List A) (ys : List B)
    → ((x : A) (y : B) → P x → Q y → R x y) → Every P xs → Every Q ys → Every (λ (x : A). Every (R x) ys) xs
every_pair P Q R [] ys f h k = tt
every_pair P Q R (x ∷ xs) ys f h k = (every_map Q (R x) ys (λ y q. f x y h.0 q) k, every_pair P Q R xs ys f h.1 k)

-- an item of this file, whose tokens are among these
record IsWithin (file : ℕ) (ts : List Token) (d : Declared) : Type 0 where
  same : d.file ≡ file
  tokens : Into (item_tokens d.what) ts

nothing_into : (ts : List Token) → Into [] ts
nothing_into ts = record { into = λ at h. absurd h }

mutual
  item_within : (file : ℕ) (ms : List (List ℕ)) (hidden : Bool) (earlier : List (List ℕ)) (ts : List Token)
      (i : PlainItem) → Into (flat_item i) ts → Every (IsWithin file ts) (item_declared file ms hidden earlier i)
  item_within file ms hidden earlier ts (module_item at n from is to) h = (
    record { same = refl; tokens = nothing_into ts },
    items_within file (ms ++ n.text ∷ [])
        (hidden || has_name n.text earlier) [] ts is
        (into_left (flat_items is) _ ts (into_tail _ _ ts (into_tail _ _ ts (into_tail _ _ ts h)))),
  )
  item_within file ms hidden earlier ts (struct_item s) h = (record { same = refl; tokens = h }, tt)
  item_within file ms hidden earlier ts (const_item c) h = (record { same = refl; tokens = nothing_into ts }, tt)
  item_within file ms hidden earlier ts (fn_item f) h = (record { same = refl; tokens = h }, tt)

  items_within : (file : ℕ) (ms : List (List ℕ)) (hidden : Bool) (earlier : List (List ℕ)) (ts : List Token)
      (is : PlainItems) → Into (flat_items is) ts → Every (IsWithin file ts) (items_declared file ms hidden earlier is)
  items_within file ms hidden earlier ts no_items h = tt
  items_within file ms hidden earlier ts (items i is) h =
      every_join (IsWithin file ts) (item_declared file ms hidden earlier i)
      (items_declared file ms hidden (earlier ++ (item_name i).text ∷ []) is)
      (item_within file ms hidden earlier ts i (into_left (flat_item i) (flat_items is) ts h))
      (items_within file ms hidden (earlier ++ (item_name i).text ∷ []) ts is
      (into_right (flat_item i) (flat_items is) ts h))

within_far : (file : ℕ) (xs ys : List Token) → AreDisjoint xs ys → (d e : Declared) → IsWithin file xs d
    → IsWithin file ys e → IsFar d e
within_far file xs ys f d e h k same a b p q = f a b (h.tokens.into a p) (k.tokens.into b q)

abbrev module_of : ℕ → List (List ℕ) → Bool → Name → Declared
module_of file ms hidden n = record { file = file; modules = ms; name = n; hidden = hidden; what = a_module }

empty_far : (d : Declared) (ds : List Declared) → item_tokens d.what ≡ [] → Every (IsFar d) ds
empty_far d [] e = tt
empty_far d (x ∷ xs) e =
    ((λ same a b p q l c. no_place a (transport (λ (ts : List Token). HasPlace ts a) e p)), empty_far d xs e)
  where
    no_place : (a : Span) → HasPlace [] a → ⊥
    no_place a h = h

mutual
  item_far : (file : ℕ) (ms : List (List ℕ)) (hidden : Bool) (earlier : List (List ℕ)) (i : PlainItem)
      → AreOrdered (flat_item i) → AreFar (item_declared file ms hidden earlier i)
  item_far file ms hidden earlier (module_item at n from is to) h = (
    empty_far (module_of file ms hidden n)
        (items_declared file (ms ++ n.text ∷ []) (hidden || has_name n.text earlier) [] is) refl,
    items_far file (ms ++ n.text ∷ []) (hidden || has_name n.text earlier) [] is
        (ordered_parts (flat_items is) _ h.1.1.1).first,
  )
  item_far file ms hidden earlier (struct_item s) h = (tt, tt)
  item_far file ms hidden earlier (const_item c) h = (tt, tt)
  item_far file ms hidden earlier (fn_item f) h = (tt, tt)

  items_far : (file : ℕ) (ms : List (List ℕ)) (hidden : Bool) (earlier : List (List ℕ)) (is : PlainItems)
      → AreOrdered (flat_items is) → AreFar (items_declared file ms hidden earlier is)
  items_far file ms hidden earlier no_items h = tt
  items_far file ms hidden earlier (items i is) h =
      let p = ordered_parts (flat_item i) (flat_items is) h in
      let next = earlier ++ (item_name i).text ∷ [] in
      far_join (item_declared file ms hidden earlier i) (items_declared file ms hidden next is)
      (item_far file ms hidden earlier i p.first) (items_far file ms hidden next is p.second)
      (every_pair (IsWithin file (flat_item i)) (IsWithin file (flat_items is)) IsFar
      (item_declared file ms hidden earlier i) (items_declared file ms hidden next is)
      (within_far file (flat_item i) (flat_items is) p.apart)
      (item_within file ms hidden earlier (flat_item i) i (into_self (flat_item i)))
      (items_within file ms hidden next (flat_items is) is (into_self (flat_items is))))

-- FILES

abbrev IsLater : ℕ → Declared → Type 0
IsLater file d = file < d.file

all_later : (file k : ℕ) (sources : List Source) → file < k → Every (IsLater file) (declared_from k sources)
all_later file k [] l = tt
all_later file k (s ∷ ss) l =
    every_join (IsLater file) (items_declared k (s.module_name ∷ []) false [] s.items) (declared_from (k + 1) ss)
    (every_map (IsWithin k (flat_items s.items)) (IsLater file) _
    (λ d w. transport (λ (n : ℕ). file < n) (sym w.same) l)
    (items_within k (s.module_name ∷ []) false [] (flat_items s.items) s.items
    (into_self (flat_items s.items))))
    (all_later file (k + 1) ss (omega (arith, l)))

other_files : (file : ℕ) (ts : List Token) (d e : Declared) → IsWithin file ts d → IsLater file e → IsFar d e
other_files file ts d e h k same a b p q l c =
    let f : file < e.file = k in let g : d.file ≡ file = h.same in absurd (omega (arith, f, g, same))

from_far : (file : ℕ) (sources : List Source) → AreSourcesOrdered sources → AreFar (declared_from file sources)
from_far file [] h = tt
from_far file (s ∷ ss) h =
    let ds = items_declared file (s.module_name ∷ []) false [] s.items in
    far_join ds (declared_from (file + 1) ss) (items_far file (s.module_name ∷ []) false [] s.items h.0)
    (from_far (file + 1) ss h.1)
    (every_pair (IsWithin file (flat_items s.items)) (IsLater file) IsFar ds (declared_from (file + 1) ss)
    (other_files file (flat_items s.items))
    (items_within file (s.module_name ∷ []) false [] (flat_items s.items) s.items
    (into_self (flat_items s.items))) (all_later file (file + 1) ss (omega arith)))

pub all_far : (sources : List Source) → AreSourcesOrdered sources → AreFar (declared sources)
unfolding declared
all_far sources h = from_far 0 sources h
