use Rattle.std.proofs.Common.{◌≡◌, ℕ, ◌+◌, ◌<◌, List, [], ◌∷◌, length, map, drop, refl, sym, ap, ◌∙◌, subst, arith, Bool, true, false, cond, Some, None, ⊎_elim}
use Rattle.std.specs.Prelude.{if◌then◌else◌}
use denote.Ref.{Bor}
use Rattle.std.specs.Str.{bytes_eq}
use Rattle.std.specs.Ordering.{nat_cmp}
use Rattle.std.specs.declared.cmp.Ordering.{Ordering}
use Rattle.std.specs.declared.cmp.Ordering.TheVariants.{Less, Equal, Greater}
use Rattle.std.specs.Cmp.Lexicographic.{slice_cmp}
use Rattle.std.specs.BTreeMap.{BTreeMap, insert_entry, values}
use Rattle.std.proofs.lemmas.Bool.{cases_lt}
use Rattle.std.proofs.lemmas.List.{drop_more, drop_all}
use Rattle.std.proofs.lemmas.Slice.Eq.{bytes_eq-Decides}
use Rattle.text_order.specs.TextOrder.{text_cmp, ordered, text_order, text_at, entry_view, place_in, IsIndex}

by_order : (k : Bor (List ℕ)) (v : ℕ) (e : Bor (List ℕ) × ℕ) (es : List (Bor (List ℕ) × ℕ)) (r : Ordering) → text_cmp k.now e.0.now ≡ r → map entry_view (insert_entry (λ x y. slice_cmp nat_cmp x.now y.now) es k v) ≡ insert_entry text_cmp (map entry_view es) k.now v → map entry_view (insert_entry (λ x y. slice_cmp nat_cmp x.now y.now) (e ∷ es) k v) ≡ insert_entry text_cmp (entry_view e ∷ map entry_view es) k.now v
by_order k v e es Less is rest = rw is refl
by_order k v e es Equal is rest = rw is refl
by_order k v e es Greater is rest = rw is (ap (λ us. entry_view e ∷ us) rest)

-- an insert of a borrowed text is an insert of the text
pub viewed_insert : (k : Bor (List ℕ)) (v : ℕ) (es : List (Bor (List ℕ) × ℕ)) → map entry_view (insert_entry (λ x y. slice_cmp nat_cmp x.now y.now) es k v) ≡ insert_entry text_cmp (map entry_view es) k.now v
viewed_insert k v [] = refl
viewed_insert k v (e ∷ es) = by_order k v e es (text_cmp k.now e.0.now) refl (viewed_insert k v es)

-- the texts before number n are in the map
pub record Indexing (ts : List (List ℕ)) (n : ℕ) (m : BTreeMap (Bor (List ℕ)) ℕ) : Type 0 where
  pub rest : ordered n (map entry_view m.entries) (drop n ts) ≡ ordered 0 [] ts
  pub is : (q : List ℕ) (r : ℕ) → place_in m q ≡ Some r → (r < n) × (text_at ts r ≡ q)
  pub has : (k : ℕ) → k < n → (r : ℕ) × (place_in m (text_at ts k) ≡ Some r)

pub indexing_none : (ts : List (List ℕ)) (m : BTreeMap (Bor (List ℕ)) ℕ) → m.entries ≡ [] → Indexing ts 0 m
indexing_none ts m e = record {
  rest = rw e refl;
  is = λ q r h. absurd (let none : place_in m q ≡ None = rw e refl in cc);
  has = λ k l. absurd (omega arith);
}

same_text : (a b : List ℕ) → bytes_eq a b ≡ true → a ≡ b
same_text a b h = (bytes_eq-Decides a b).0 h

module _ (ts : List (List ℕ)) (n : ℕ) (m w : BTreeMap (Bor (List ℕ)) ℕ) (k : Bor (List ℕ)) (room : n < length ts) (key : k.now ≡ text_at ts n) (old : Indexing ts n m) (put : w.entries ≡ insert_entry (λ x y. slice_cmp nat_cmp x.now y.now) m.entries k n) (says : (q : List ℕ) → place_in w q ≡ (if bytes_eq k.now q then Some n else place_in m q)) where
  is_by : (q : List ℕ) (r : ℕ) (b : Bool) → bytes_eq k.now q ≡ b → cond b (Some n) (place_in m q) ≡ Some r → (r < n + 1) × (text_at ts r ≡ q)
  is_by q r true same e =
      let at : n ≡ r = cc in
      let t : text_at ts n ≡ q = sym key ∙ same_text k.now q same in
      (omega arith, subst (λ (x : ℕ). text_at ts x ≡ q) at t)
  is_by q r false same e = let h : (r < n) × (text_at ts r ≡ q) = old.is q r e in let l : r < n = h.0 in (omega arith, h.1)

  has_by : (q : List ℕ) (b : Bool) → (b ≡ false → (r : ℕ) × (place_in m q ≡ Some r)) → (r : ℕ) × (cond b (Some n) (place_in m q) ≡ Some r)
  has_by q true h = (n, refl)
  has_by q false h = h refl

  has_at : (q : List ℕ) → (bytes_eq k.now q ≡ false → (r : ℕ) × (place_in m q ≡ Some r)) → (r : ℕ) × (place_in w q ≡ Some r)
  has_at q h = let x = has_by q (bytes_eq k.now q) h in (x.0, says q ∙ x.1)

  pub indexing_more : Indexing ts (n + 1) w
  indexing_more = record {
    rest = ap (λ es. ordered (n + 1) es (drop (n + 1) ts)) (ap (λ es. map entry_view es) put ∙ viewed_insert k n m.entries ∙ ap (λ (t : List ℕ). insert_entry text_cmp (map entry_view m.entries) t n) key) ∙ sym (ap (λ rest. ordered n (map entry_view m.entries) rest) (drop_more ts n [] room)) ∙ old.rest;
    is = λ q r h. is_by q r (bytes_eq k.now q) refl (sym (says q) ∙ h);
    has = λ j l. has_at (text_at ts j) (λ no. ⊎_elim (λ lt. old.has j lt) (λ ge. absurd (let at : j ≡ n = omega arith in let e : bytes_eq k.now (text_at ts j) ≡ true = (bytes_eq-Decides k.now (text_at ts j)).1 (key ∙ sym (ap (λ (x : ℕ). text_at ts x) at)) in cc)) (cases_lt j n));
  }

pub indexing_all : (ts : List (List ℕ)) (n : ℕ) (m : BTreeMap (Bor (List ℕ)) ℕ) → n ≡ length ts → Indexing ts n m → (map entry_view m.entries ≡ ordered 0 [] ts) × IsIndex ts m
indexing_all ts n m all h =
    let none : drop n ts ≡ [] = drop_all n ts (omega arith) in
    (sym (ap (λ rest. ordered n (map entry_view m.entries) rest) none) ∙ h.rest, record { is = λ q r e. (let x : (r < n) × (text_at ts r ≡ q) = h.is q r e in let l : r < n = x.0 in (omega arith, x.1)); has = λ k l. h.has k (omega arith) })

values_viewed : (es : List (Bor (List ℕ) × ℕ)) → map (λ e. e.1) (map entry_view es) ≡ map (λ e. e.1) es
values_viewed [] = refl
values_viewed (e ∷ es) = ap (λ vs. e.1 ∷ vs) (values_viewed es)

pub order_is : (ts : List (List ℕ)) (m : BTreeMap (Bor (List ℕ)) ℕ) → map entry_view m.entries ≡ ordered 0 [] ts → values m ≡ text_order ts
unfolding text_order
order_is ts m h = sym (values_viewed m.entries) ∙ ap (λ es. map (λ e. e.1) es) h
