-- What holds of texts in byte order.
use Rattle.std.proofs.Common.{◌≡◌, ℕ, zero, suc, ◌+◌, ◌<◌, List, [], ◌∷◌, length, map, drop, get_or, refl, sym, ap, ◌∙◌, subst, arith, Bool, true, false, ◌||◌, ◌⊎◌, inl, inr, ⊎_elim}
use Rattle.std.specs.Prelude.{All, nat_eq}
use Rattle.std.specs.List.{AllByRecursion, IsDistinct, list_any}
use Rattle.std.specs.List.Sorted.{IsStrictlySortedBy}
use Rattle.std.specs.declared.cmp.Ordering.{Ordering}
use Rattle.std.specs.declared.cmp.Ordering.TheVariants.{Less, Equal, Greater}
use Rattle.std.specs.Cmp.{IsTotalOrder, nat_eq_equiv}
use Rattle.std.specs.BTreeMap.{insert_entry}
use Rattle.std.specs.Map.{keys_of}
use Rattle.std.proofs.lemmas.Cmp.{nat_list_cmp_total, tied_itself}
use Rattle.std.proofs.lemmas.Bool.{cases_lt, or_right}
use Rattle.std.proofs.lemmas.List.{drop_more, drop_all, length-map, get_or_default}
use Rattle.std.proofs.lemmas.List.Elements.{All-from_recursion}
use Rattle.std.proofs.lemmas.Map.Keys.{Less-from_sorted, IsDistinct-from_apart}
use Rattle.std.proofs.lemmas.Map.Lookups.{exact_bytes}
use Rattle.std.proofs.lemmas.Map.Views.{exact_unsigned_eq}
use Rattle.text_order.specs.TextOrder.{text_cmp, ordered, text_order, text_at, AreApart}

abbrev Entry : Type 0
Entry = List ℕ × ℕ

total : IsTotalOrder text_cmp
total = nat_list_cmp_total

-- what holds of the entries and of the new one holds of all
kept_by : (P : Entry → Type 0) (k : List ℕ) (v : ℕ) (e : Entry) (es : List Entry) (r : Ordering) → text_cmp k e.0 ≡ r → (text_cmp k e.0 ≡ Equal → P (e.0, v)) → P (k, v) → AllByRecursion P (e ∷ es) → AllByRecursion P (insert_entry text_cmp es k v) → AllByRecursion P (insert_entry text_cmp (e ∷ es) k v)
kept_by P k v e es Less is same new old rest = rw is (new, old)
kept_by P k v e es Equal is same new old rest = rw is (same is, old.1)
kept_by P k v e es Greater is same new old rest = rw is (old.0, rest)

all_insert : (P : Entry → Type 0) (k : List ℕ) (v : ℕ) (es : List Entry) → ((x : List ℕ) → text_cmp k x ≡ Equal → P (x, v)) → P (k, v) → AllByRecursion P es → AllByRecursion P (insert_entry text_cmp es k v)
all_insert P k v [] same new old = (new, tt)
all_insert P k v (e ∷ es) same new old = kept_by P k v e es (text_cmp k e.0) refl (same e.0) new old (all_insert P k v es same new old.1)

-- entries in strict order of their texts
abbrev pub Rising : List Entry → Type 0
Rising [] = Unit {0}
Rising (e ∷ es) = AllByRecursion (λ f. text_cmp e.0 f.0 ≡ Less) es × Rising es

after : (k : List ℕ) (e : Entry) (es : List Entry) → text_cmp k e.0 ≡ Less → AllByRecursion (λ f. text_cmp e.0 f.0 ≡ Less) es → AllByRecursion (λ f. text_cmp k f.0 ≡ Less) es
after k e [] l h = tt
after k e (f ∷ fs) l h = (total.trans k e.0 f.0 l h.0, after k e fs l h.1)

flipped : (a b : List ℕ) → text_cmp a b ≡ Greater → text_cmp b a ≡ Less
flipped a b h = total.antisymm b a ∙ (rw h refl)

rising_by : (k : List ℕ) (v : ℕ) (e : Entry) (es : List Entry) (r : Ordering) → text_cmp k e.0 ≡ r → Rising (e ∷ es) → Rising (insert_entry text_cmp es k v) → Rising (insert_entry text_cmp (e ∷ es) k v)
rising_by k v e es Less is old rest = rw is ((is, after k e es is old.0), old)
rising_by k v e es Equal is old rest = rw is (old.0, old.1)
rising_by k v e es Greater is old rest = rw is (all_insert (λ f. text_cmp e.0 f.0 ≡ Less) k v es (λ x same. subst (λ (y : List ℕ). text_cmp e.0 y ≡ Less) (exact_bytes k x same) (flipped k e.0 is)) (flipped k e.0 is) old.0, rest)

rising_insert : (k : List ℕ) (v : ℕ) (es : List Entry) → Rising es → Rising (insert_entry text_cmp es k v)
rising_insert k v [] old = (tt, tt)
rising_insert k v (e ∷ es) old = rising_by k v e es (text_cmp k e.0) refl old (rising_insert k v es old.1)

-- one of the entries has the text
abbrev HasText : List ℕ → List Entry → Type 0
HasText q [] = ⊥
HasText q (e ∷ es) = (e.0 ≡ q) ⊎ HasText q es

has_by : (q k : List ℕ) (v : ℕ) (e : Entry) (es : List Entry) (r : Ordering) → text_cmp k e.0 ≡ r → (HasText q (e ∷ es) ⊎ (k ≡ q)) → ((HasText q es ⊎ (k ≡ q)) → HasText q (insert_entry text_cmp es k v)) → HasText q (insert_entry text_cmp (e ∷ es) k v)
has_by q k v e es Less is (inl h) rest = rw is (inr h)
has_by q k v e es Less is (inr h) rest = rw is (inl h)
has_by q k v e es Equal is (inl (inl h)) rest = rw is (inl h)
has_by q k v e es Equal is (inl (inr h)) rest = rw is (inr h)
has_by q k v e es Equal is (inr h) rest = rw is (inl (sym (exact_bytes k e.0 is) ∙ h))
has_by q k v e es Greater is (inl (inl h)) rest = rw is (inl h)
has_by q k v e es Greater is (inl (inr h)) rest = rw is (inr (rest (inl h)))
has_by q k v e es Greater is (inr h) rest = rw is (inr (rest (inr h)))

has_insert : (q k : List ℕ) (v : ℕ) (es : List Entry) → (HasText q es ⊎ (k ≡ q)) → HasText q (insert_entry text_cmp es k v)
has_insert q k v [] (inl h) = absurd h
has_insert q k v [] (inr h) = inl h
has_insert q k v (e ∷ es) h = has_by q k v e es (text_cmp k e.0) refl h (has_insert q k v es)

-- the entries of the first n texts
record AreFirst (ts : List (List ℕ)) (n : ℕ) (es : List Entry) : Type 0 where
  rising : Rising es
  each : AllByRecursion (λ e. (e.1 < n) × (text_at ts e.1 ≡ e.0)) es
  all : (k : ℕ) → k < n → HasText (text_at ts k) es

later : (ts : List (List ℕ)) (n : ℕ) (es : List Entry) → AllByRecursion (λ e. (e.1 < n) × (text_at ts e.1 ≡ e.0)) es → AllByRecursion (λ e. (e.1 < n + 1) × (text_at ts e.1 ≡ e.0)) es
later ts n [] h = tt
later ts n (e ∷ es) h = ((let l : e.1 < n = h.0.0 in omega arith, h.0.1), later ts n es h.1)

first_more : (ts : List (List ℕ)) (n : ℕ) (es : List Entry) → AreFirst ts n es → AreFirst ts (n + 1) (insert_entry text_cmp es (text_at ts n) n)
first_more ts n es h = record {
  rising = rising_insert (text_at ts n) n es h.rising;
  each = all_insert (λ e. (e.1 < n + 1) × (text_at ts e.1 ≡ e.0)) (text_at ts n) n es (λ x same. (omega arith, exact_bytes (text_at ts n) x same)) (omega arith, refl) (later ts n es h.each);
  all = λ k l. ⊎_elim (λ lt. has_insert (text_at ts k) (text_at ts n) n es (inl (h.all k lt))) (λ ge. let same : n ≡ k = omega arith in has_insert (text_at ts k) (text_at ts n) n es (inr (ap (λ (x : ℕ). text_at ts x) same))) (cases_lt k n);
}

first_all : (ts : List (List ℕ)) (d n : ℕ) (es : List Entry) → n + d ≡ length ts → AreFirst ts n es → AreFirst ts (length ts) (ordered n es (drop n ts))
first_all ts zero n es at h =
    let same : n ≡ length ts = omega arith in
    subst (λ (m : ℕ). AreFirst ts m (ordered n es (drop n ts))) same (subst (λ (rest : List (List ℕ)). AreFirst ts n (ordered n es rest)) (sym (drop_all n ts (omega arith))) h)
first_all ts (suc d) n es at h =
    subst (λ (rest : List (List ℕ)). AreFirst ts (length ts) (ordered n es rest)) (sym (drop_more ts n [] (omega arith))) (first_all ts d (n + 1) (insert_entry text_cmp es (text_at ts n) n) (omega arith) (first_more ts n es h))

all_texts : (ts : List (List ℕ)) → AreFirst ts (length ts) (ordered 0 [] ts)
all_texts ts = first_all ts (length ts) 0 [] (omega arith) (record { rising = tt; each = tt; all = λ k l. absurd (omega arith) })

inside_from : (ts : List (List ℕ)) (es : List Entry) → AllByRecursion (λ e. (e.1 < length ts) × (text_at ts e.1 ≡ e.0)) es → AllByRecursion (λ p. p < length ts) (map (λ e. e.1) es)
inside_from ts [] h = tt
inside_from ts (e ∷ es) h = (h.0.0, inside_from ts es h.1)

-- each place is one of a text
pub order_inside : (ts : List (List ℕ)) → All (λ p. p < length ts) (text_order ts)
unfolding text_order
order_inside ts = All-from_recursion (λ p. p < length ts) (map (λ e. e.1) (ordered 0 [] ts)) (inside_from ts (ordered 0 [] ts) ((all_texts ts).each))

texts_from : (ts : List (List ℕ)) (es : List Entry) → AllByRecursion (λ e. (e.1 < length ts) × (text_at ts e.1 ≡ e.0)) es → map (text_at ts) (map (λ e. e.1) es) ≡ keys_of es
texts_from ts [] h = refl
texts_from ts (e ∷ es) h = let t : text_at ts e.1 ≡ e.0 = h.0.1 in let r : map (text_at ts) (map (λ f. f.1) es) ≡ keys_of es = texts_from ts es h.1 in cc

sorted_from : (es : List Entry) → Rising es → IsStrictlySortedBy text_cmp (keys_of es)
unfolding IsStrictlySortedBy
sorted_from [] h = tt
sorted_from (e ∷ es) h = (keys es h.0, sorted_from es h.1)
  where
    keys : (fs : List Entry) → AllByRecursion (λ f. text_cmp e.0 f.0 ≡ Less) fs → AllByRecursion (λ y. text_cmp e.0 y ≡ Less) (keys_of fs)
    keys [] g = tt
    keys (f ∷ fs) g = (g.0, keys fs g.1)

-- the texts at the places rise in byte order
pub order_rises : (ts : List (List ℕ)) → IsStrictlySortedBy text_cmp (map (text_at ts) (text_order ts))
unfolding text_order
order_rises ts = subst (IsStrictlySortedBy text_cmp) (sym (texts_from ts (ordered 0 [] ts) ((all_texts ts).each))) (sorted_from (ordered 0 [] ts) ((all_texts ts).rising))

not_one : (a b : List ℕ) → text_cmp a b ≡ Less → a ≡ b → ⊥
not_one a b l e = let t : text_cmp a a ≡ Equal = tied_itself total a in let m : text_cmp a a ≡ Less = subst (λ (x : List ℕ). text_cmp a x ≡ Less) (sym e) l in cc

-- no two members of a list of texts that rise are one
pub rising_apart : (ts : List (List ℕ)) → IsStrictlySortedBy text_cmp ts → AreApart ts
rising_apart ts h = record { each = λ i j p q e. ⊎_elim (λ lt. absurd (not_one (text_at ts i) (text_at ts j) (Less-from_sorted text_cmp ts i j [] h lt q) e)) (λ ge. ⊎_elim (λ lt. absurd (not_one (text_at ts j) (text_at ts i) (Less-from_sorted text_cmp ts j i [] h lt p) (sym e))) (λ le. omega arith) (cases_lt j i)) (cases_lt i j) }

text_at_map : (ts : List (List ℕ)) (ps : List ℕ) (i : ℕ) → i < length ps → text_at (map (text_at ts) ps) i ≡ text_at ts (get_or ps i 0)
text_at_map ts [] i l = absurd (omega arith)
text_at_map ts (p ∷ ps) zero l = refl
text_at_map ts (p ∷ ps) (suc i) l = text_at_map ts ps i (omega arith)

-- no place stands in it twice
pub order_once : (ts : List (List ℕ)) → IsDistinct nat_eq (text_order ts)
order_once ts = IsDistinct-from_apart nat_eq (text_order ts) (λ i j d p q. apart i j d p q (nat_eq (get_or (text_order ts) i d) (get_or (text_order ts) j d)) refl)
  where
    apart : (i j d : ℕ) → i < j → j < length (text_order ts) → (b : Bool) → nat_eq (get_or (text_order ts) i d) (get_or (text_order ts) j d) ≡ b → nat_eq (get_or (text_order ts) i d) (get_or (text_order ts) j d) ≡ false
    apart i j d p q false is = is
    apart i j d p q true is =
        let one : get_or (text_order ts) i d ≡ get_or (text_order ts) j d = exact_unsigned_eq _ _ is in
        let len : length (map (text_at ts) (text_order ts)) ≡ length (text_order ts) = length-map (text_order ts) (text_at ts) in
        let less : text_cmp (text_at (map (text_at ts) (text_order ts)) i) (text_at (map (text_at ts) (text_order ts)) j) ≡ Less = Less-from_sorted text_cmp (map (text_at ts) (text_order ts)) i j [] (order_rises ts) p (omega arith) in
        let a : text_at (map (text_at ts) (text_order ts)) i ≡ text_at ts (get_or (text_order ts) i d) = text_at_map ts (text_order ts) i (omega arith) ∙ ap (λ (x : ℕ). text_at ts x) (get_or_default (text_order ts) i 0 d (omega arith)) in
        let b : text_at (map (text_at ts) (text_order ts)) j ≡ text_at ts (get_or (text_order ts) j d) = text_at_map ts (text_order ts) j q ∙ ap (λ (x : ℕ). text_at ts x) (get_or_default (text_order ts) j 0 d q) in
        absurd (not_one _ _ less (a ∙ ap (λ (x : ℕ). text_at ts x) one ∙ sym b))

found_from : (ts : List (List ℕ)) (es : List Entry) (k : ℕ) → AreApart ts → k < length ts → AllByRecursion (λ e. (e.1 < length ts) × (text_at ts e.1 ≡ e.0)) es → HasText (text_at ts k) es → list_any (nat_eq k) (map (λ e. e.1) es) ≡ true
found_from ts [] k apart room each h = absurd h
found_from ts (e ∷ es) k apart room each (inl h) =
    let same : k ≡ e.1 = apart.each k e.1 room each.0.0 (sym (each.0.1 ∙ h)) in
    let t : nat_eq k e.1 ≡ true = subst (λ (x : ℕ). nat_eq k x ≡ true) same (nat_eq_equiv.refl k) in
    ap (λ b. b || list_any (nat_eq k) (map (λ f. f.1) es)) t
found_from ts (e ∷ es) k apart room each (inr h) = or_right (nat_eq k e.1) (list_any (nat_eq k) (map (λ f. f.1) es)) (found_from ts es k apart room each.1 h)

-- where no two texts are one, each place stands in it
pub order_all : (ts : List (List ℕ)) (k : ℕ) → AreApart ts → k < length ts → list_any (nat_eq k) (text_order ts) ≡ true
unfolding text_order
order_all ts k apart room = found_from ts (ordered 0 [] ts) k apart room ((all_texts ts).each) ((all_texts ts).all k room)

-- and each text is a text at one of its places
pub order_has : (ts : List (List ℕ)) (k : ℕ) → k < length ts → (r : ℕ) × (r < length (text_order ts)) × (text_at (map (text_at ts) (text_order ts)) r ≡ text_at ts k)
unfolding text_order
order_has ts k room = at (ordered 0 [] ts) ((all_texts ts).each) ((all_texts ts).all k room)
  where
    at : (es : List Entry) → AllByRecursion (λ e. (e.1 < length ts) × (text_at ts e.1 ≡ e.0)) es → HasText (text_at ts k) es → (r : ℕ) × (r < length (map (λ e. e.1) es)) × (text_at (map (text_at ts) (map (λ e. e.1) es)) r ≡ text_at ts k)
    at [] each h = absurd h
    at (e ∷ es) each (inl h) = (0, omega arith, each.0.1 ∙ h)
    at (e ∷ es) each (inr h) = let x = at es each.1 h in (suc x.0, (let l : x.0 < length (map (λ f. f.1) es) = x.1 in omega arith), x.2)
