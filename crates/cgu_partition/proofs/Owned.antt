-- The owners of items and the sizes of homes.
use Rattle.std.proofs.Common.{◌≡◌, ◌≢◌, ℕ, zero, suc, ◌+◌, ◌*◌, ◌<◌, ◌≤◌, List, [], ◌∷◌, ◌++◌, length, map, take, get_or, set, sum, refl, sym, ap, ◌∙◌, subst, arith, Bool, true, false, cond, ◌&&◌, Option, Some, None, ⊎_elim}
use denote.Ref.{Bor}
use Rattle.std.specs.Prelude.{filter, sum_by, replicate, if◌then◌else◌, IfSome}
use Rattle.std.specs.Str.{bytes_eq}
use Rattle.std.specs.BTreeMap.{BTreeMap}
use Rattle.std.proofs.lemmas.Bool.{cases_lt, cases_eq}
use Rattle.std.proofs.lemmas.List.{take_all, length_push, length-map, length-set, get_or-set_same, get_or-set_other, get_or_default, get_or_append_left, get_or_at, ext_get_or}
use Rattle.std.proofs.lemmas.List.Sums.{sum_by-cons, sum_by-set, sum_by_more}
use Rattle.std.proofs.lemmas.Slice.Eq.{bytes_eq-Decides}
use Rattle.text_order.specs.TextOrder.{text_at, text_order, AreApart, place_in, IsIndex}
use Rattle.text_order.proofs.Ordered.{order_has}
use Rattle.mono_items.specs.declared.items.MonoItem.{MonoItem}
use Rattle.mono_items.specs.Homes.{has_home, home_of, homes, first_names, is_home, home_size}
use Rattle.cgu_partition.specs.Owners.{owner_in, IsOwner, AreOwners, with_size}

-- the home of an item that has one is among the homes
home_in : (items : List MonoItem) (i : ℕ) (x d : MonoItem) → i < length items → get_or items i d ≡ x → has_home x ≡ true → (k : ℕ) × (k < length (homes items)) × (text_at (homes items) k ≡ home_of x)
home_in [] i x d room at h = absurd (omega arith)
home_in (y ∷ ys) zero x d room at h = by (has_home y) refl
  where
    by : (b : Bool) → has_home y ≡ b → (k : ℕ) × (k < length (map home_of (cond b (y ∷ filter has_home ys) (filter has_home ys)))) × (text_at (map home_of (cond b (y ∷ filter has_home ys) (filter has_home ys))) k ≡ home_of x)
    by true is = (0, omega arith, ap home_of at)
    by false is = absurd (let e : has_home y ≡ true = ap has_home at ∙ h in cc)
home_in (y ∷ ys) (suc i) x d room at h = by (has_home y) (home_in ys i x d (omega arith) at h)
  where
    by : (b : Bool) → (k : ℕ) × (k < length (homes ys)) × (text_at (homes ys) k ≡ home_of x) → (k : ℕ) × (k < length (map home_of (cond b (y ∷ filter has_home ys) (filter has_home ys)))) × (text_at (map home_of (cond b (y ∷ filter has_home ys) (filter has_home ys))) k ≡ home_of x)
    by true r = (suc r.0, (let l : r.0 < length (homes ys) = r.1 in omega arith), r.2)
    by false r = r

first_name_in : (items : List MonoItem) (i : ℕ) (x d : MonoItem) → i < length items → get_or items i d ≡ x → has_home x ≡ true → (r : ℕ) × (r < length (first_names items)) × (text_at (first_names items) r ≡ home_of x)
unfolding first_names
first_name_in items i x d room at h =
    let k = home_in items i x d room at h in
    let r = order_has (homes items) k.0 k.1 in
    let len : length (map (text_at (homes items)) (text_order (homes items))) ≡ length (text_order (homes items)) = length-map (text_order (homes items)) (text_at (homes items)) in
    (r.0, subst (λ (n : ℕ). r.0 < n) (sym len) r.1, r.2 ∙ k.2)

module _ (names : List (List ℕ)) (items : List MonoItem) where
  -- the owners of the items before number i
  pub record Owners (i : ℕ) (owners : List (Option ℕ)) : Type 0 where
    pub within : i ≤ length items
    pub count : length owners ≡ i
    pub each : (k : ℕ) (x : MonoItem) (o : Option ℕ) → k < i → IsOwner names (get_or items k x) (get_or owners k o)

  pub owners_none : (owners : List (Option ℕ)) → owners ≡ [] → Owners 0 owners
  owners_none owners none = record { within = omega arith; count = ap length none; each = λ k x o l. absurd (omega arith) }

  owner_by : (index : BTreeMap (Bor (List ℕ)) ℕ) (x : MonoItem) (b : Bool) → has_home x ≡ b → (b ≡ true → (r : ℕ) × (place_in index (home_of x) ≡ Some r) × (r < length names) × (text_at names r ≡ home_of x)) → IsOwner names x (if b then place_in index (home_of x) else None)
  owner_by index x false is found = is
  owner_by index x true is found = let f = found refl in rw f.1 (is, f.2, f.3)

  is_owner : (index : BTreeMap (Bor (List ℕ)) ℕ) (i : ℕ) (x d : MonoItem) → names ≡ first_names items → IsIndex names index → i < length items → get_or items i d ≡ x → IsOwner names x (owner_in index x)
  is_owner index i x d same h room at = owner_by index x (has_home x) refl (λ home.
      let f = first_name_in items i x d room at home in
      let l : f.0 < length names = subst (λ ns. f.0 < length ns) (sym same) f.1 in
      let t : text_at names f.0 ≡ home_of x = ap (λ ns. text_at ns f.0) same ∙ f.2 in
      let g = h.has f.0 l in
      let e : place_in index (home_of x) ≡ Some g.0 = sym (ap (λ (q : List ℕ). place_in index q) t) ∙ g.1 in
      let k = h.is (home_of x) g.0 e in
      (g.0, e, k.0, k.1))

  pub owners_more : (index : BTreeMap (Bor (List ℕ)) ℕ) (i : ℕ) (owners vs : List (Option ℕ)) (x : MonoItem) (o : Option ℕ) → names ≡ first_names items → IsIndex names index → i < length items → x ≡ get_or items i x → o ≡ owner_in index x → vs ≡ owners ++ o ∷ [] → Owners i owners → Owners (i + 1) vs
  owners_more index i owners vs x o same at room item is put h = record {
    within = omega arith;
    count = ap length put ∙ length_push owners o ∙ ap (λ n. n + 1) h.count;
    each = λ k y p l. ⊎_elim (λ lt. old k y p lt) (λ ge. new k y p (omega arith)) (cases_lt k i);
  }
    where
      old : (k : ℕ) (y : MonoItem) (p : Option ℕ) → k < i → IsOwner names (get_or items k y) (get_or vs k p)
      old k y p lt = subst (λ (q : Option ℕ). IsOwner names (get_or items k y) q) (sym (ap (λ ys. get_or ys k p) put ∙ get_or_append_left owners (o ∷ []) p k (omega (arith, h.count)))) (h.each k y p lt)

      new : (k : ℕ) (y : MonoItem) (p : Option ℕ) → k ≡ i → IsOwner names (get_or items k y) (get_or vs k p)
      new k y p e =
          let x_is : get_or items k y ≡ x = ap (λ (n : ℕ). get_or items n y) e ∙ get_or_default items i y x room ∙ sym item in
          let o_is : get_or vs k p ≡ owner_in index x = ap (λ ys. get_or ys k p) put ∙ get_or_at owners o [] p k (h.count ∙ sym e) ∙ is in
          rw (x_is, o_is) (is_owner index i x x same at room (sym item))

  pub owners_all : (i : ℕ) (owners : List (Option ℕ)) → length items ≤ i → Owners i owners → AreOwners names items owners
  owners_all i owners over h = record { count = omega (arith, h.count, h.within); each = λ k x o l. h.each k x o (omega arith) }

abbrev zeros : ℕ → List ℕ
zeros n = replicate n 0

zero_at : (n r : ℕ) → get_or (zeros n) r 0 ≡ 0
zero_at zero r = refl
zero_at (suc n) zero = refl
zero_at (suc n) (suc r) = zero_at n r

no_sum : (n : ℕ) → sum (zeros n) ≡ 0
no_sum zero = refl
no_sum (suc n) = let s : sum (zeros (suc n)) ≡ 0 + sum (zeros n) = sum_by-cons (λ x. x) 0 (zeros n) in let t : sum (zeros n) ≡ 0 = no_sum n in omega arith

no_length : (n : ℕ) → length (zeros n) ≡ n
no_length zero = refl
no_length (suc n) = ap suc (no_length n)

get_map : (f : List ℕ → ℕ) (ns : List (List ℕ)) (r : ℕ) → r < length ns → get_or (map f ns) r 0 ≡ f (text_at ns r)
get_map f [] r l = absurd (omega arith)
get_map f (n ∷ ns) zero l = refl
get_map f (n ∷ ns) (suc r) l = get_map f ns r (omega arith)

size_more : (items : List MonoItem) (i : ℕ) (x : MonoItem) (n : List ℕ) → i < length items → x ≡ get_or items i x → home_size (take (i + 1) items) n ≡ home_size (take i items) n + (if is_home n x then x.size else 0)
unfolding home_size
size_more items i x n room at = sum_by_more (λ y. if is_home n y then y.size else 0) items i x room ∙ ap (λ (y : MonoItem). sum_by (λ z. if is_home n z then z.size else 0) (take i items) + (if is_home n y then y.size else 0)) (sym at)

size_none : (items : List MonoItem) (n : List ℕ) → home_size (take 0 items) n ≡ 0
unfolding home_size
size_none items n = refl

size_all : (items : List MonoItem) (i : ℕ) (n : List ℕ) → length items ≤ i → home_size (take i items) n ≡ home_size items n
size_all items i n over = ap (λ xs. home_size xs n) (take_all i items over)

not_home : (n : List ℕ) (x : MonoItem) → has_home x ≡ false → (if is_home n x then x.size else 0) ≡ 0
not_home n x is = ap (λ b. cond (b && bytes_eq (home_of x) n) x.size 0) is

at_home : (n : List ℕ) (x : MonoItem) → has_home x ≡ true → n ≡ home_of x → (if is_home n x then x.size else 0) ≡ x.size
at_home n x is same = ap (λ b. cond (b && bytes_eq (home_of x) n) x.size 0) is ∙ ap (λ b. cond b x.size 0) ((bytes_eq-Decides (home_of x) n).1 (sym same))

elsewhere : (n : List ℕ) (x : MonoItem) → (home_of x ≡ n → ⊥) → (if is_home n x then x.size else 0) ≡ 0
elsewhere n x apart = by (has_home x) (bytes_eq (home_of x) n) refl
  where
    by : (a b : Bool) → bytes_eq (home_of x) n ≡ b → cond (a && b) x.size 0 ≡ 0
    by false b is = refl
    by true false is = refl
    by true true is = absurd (apart ((bytes_eq-Decides (home_of x) n).0 is))

module _ (names : List (List ℕ)) (items : List MonoItem) where
  -- the sizes of the homes of the items before number i
  pub record Sizing (i : ℕ) (sizes : List ℕ) : Type 0 where
    pub count : length sizes ≡ length names
    pub each : (r : ℕ) → r < length names → get_or sizes r 0 ≡ home_size (take i items) (text_at names r)
    pub total : sum sizes ≤ i * 4294967296

  pub sizing_none : (n : ℕ) (sizes : List ℕ) → sizes ≡ replicate n 0 → n ≡ length names → Sizing 0 sizes
  sizing_none n sizes is len = rw is (record { count = no_length n ∙ len; each = λ r l. zero_at n r ∙ sym (size_none items (text_at names r)); total = (let s : sum (zeros n) ≡ 0 = no_sum n in omega arith) })

  module _ (apart : AreApart names) (i : ℕ) (x : MonoItem) (room : i < length items) (at : x ≡ get_or items i x) (small : x.size < 4294967296) (sizes : List ℕ) (h : Sizing i sizes) where
    more_none : has_home x ≡ false → Sizing (i + 1) sizes
    more_none is = record {
      count = h.count;
      each = λ r l. (let e : get_or sizes r 0 ≡ home_size (take i items) (text_at names r) = h.each r l in let m : home_size (take (i + 1) items) (text_at names r) ≡ home_size (take i items) (text_at names r) + (if is_home (text_at names r) x then x.size else 0) = size_more items i x (text_at names r) room at in let z : (if is_home (text_at names r) x then x.size else 0) ≡ 0 = not_home (text_at names r) x is in omega arith);
      total = (let t : sum sizes ≤ i * 4294967296 = h.total in omega arith);
    }

    more_some : (k : ℕ) → has_home x ≡ true → k < length names → text_at names k ≡ home_of x → Sizing (i + 1) (set sizes k (get_or sizes k 0 + x.size))
    more_some k is inside home = record {
      count = length-set sizes k (get_or sizes k 0 + x.size) ∙ h.count;
      each = λ r l. ⊎_elim (λ same. here r same l) (λ other. there r other l) (cases_eq r k);
      total = (let s : sum (set sizes k (get_or sizes k 0 + x.size)) + get_or sizes k 0 ≡ sum sizes + (get_or sizes k 0 + x.size) = sum_by-set (λ y. y) sizes k (get_or sizes k 0 + x.size) 0 (omega (arith, h.count)) in let t : sum sizes ≤ i * 4294967296 = h.total in omega arith);
    }
      where
        here : (r : ℕ) → r ≡ k → r < length names → get_or (set sizes k (get_or sizes k 0 + x.size)) r 0 ≡ home_size (take (i + 1) items) (text_at names r)
        here r same l =
            let e : get_or sizes k 0 ≡ home_size (take i items) (text_at names k) = h.each k inside in
            let m : home_size (take (i + 1) items) (text_at names k) ≡ home_size (take i items) (text_at names k) + (if is_home (text_at names k) x then x.size else 0) = size_more items i x (text_at names k) room at in
            let z : (if is_home (text_at names k) x then x.size else 0) ≡ x.size = at_home (text_at names k) x is home in
            let g : get_or (set sizes k (get_or sizes k 0 + x.size)) k 0 ≡ get_or sizes k 0 + x.size = get_or-set_same sizes k (get_or sizes k 0 + x.size) 0 (omega (arith, h.count)) in
            let all : get_or (set sizes k (get_or sizes k 0 + x.size)) k 0 ≡ home_size (take (i + 1) items) (text_at names k) = omega arith in
            subst (λ (q : ℕ). get_or (set sizes k (get_or sizes k 0 + x.size)) q 0 ≡ home_size (take (i + 1) items) (text_at names q)) (sym same) all

        there : (r : ℕ) → r ≢ k → r < length names → get_or (set sizes k (get_or sizes k 0 + x.size)) r 0 ≡ home_size (take (i + 1) items) (text_at names r)
        there r other l =
            let e : get_or sizes r 0 ≡ home_size (take i items) (text_at names r) = h.each r l in
            let m : home_size (take (i + 1) items) (text_at names r) ≡ home_size (take i items) (text_at names r) + (if is_home (text_at names r) x then x.size else 0) = size_more items i x (text_at names r) room at in
            let z : (if is_home (text_at names r) x then x.size else 0) ≡ 0 = elsewhere (text_at names r) x (λ same. other (apart.each r k l inside (sym same ∙ sym home))) in
            let g : get_or (set sizes k (get_or sizes k 0 + x.size)) r 0 ≡ get_or sizes r 0 = get_or-set_other sizes k r (get_or sizes k 0 + x.size) 0 other in
            omega arith

    pub sizing_more : (o : Option ℕ) (now : List ℕ) → IsOwner names x o → now ≡ with_size o x.size sizes → Sizing (i + 1) now
    sizing_more None now own put = rw put (more_none own)
    sizing_more (Some k) now own put = rw put (more_some k own.0 own.1 own.2)

  pub sizing_all : (i : ℕ) (sizes : List ℕ) → length items ≤ i → Sizing i sizes → sizes ≡ map (home_size items) names
  sizing_all i sizes over h = ext_get_or 0 sizes (map (home_size items) names) (h.count ∙ sym (length-map names (home_size items))) (λ r l. h.each r (omega (arith, h.count)) ∙ size_all items i (text_at names r) over ∙ sym (get_map (home_size items) names r (omega (arith, h.count))))

pub owner_inside : (names : List (List ℕ)) (x : MonoItem) (o : Option ℕ) (n : ℕ) → n ≡ length names → IsOwner names x o → IfSome o (λ r. r < n)
owner_inside names x None n same own = tt
owner_inside names x (Some r) n same own = subst (λ (m : ℕ). r < m) (sym same) own.1
