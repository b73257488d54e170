-- Where the innermost local of a name stands: kept as locals are declared and left.
use Rattle.std.proofs.Common.{◌≡◌, ℕ, zero, suc, ◌+◌, ◌<◌, ◌≤◌, List, [], ◌∷◌, ◌++◌, length, take, get_or, cond, refl, sym, ap, ◌∙◌, subst, arith, Bool, true, false, Option, Some, None, ◌⊎◌, inl, inr, length-append, length-take-le, get_or-take}
use Rattle.std.specs.Prelude.{if◌then◌else◌}
use Rattle.std.specs.Str.{bytes_eq}
use Rattle.std.proofs.lemmas.Slice.Eq.{bytes_eq-Decides}
use Rattle.std.proofs.Math.Nat.{eq-or-lt_of_le}
use Rattle.std.proofs.Math.Seq.{get_or-append_seam}
use Rattle.std.proofs.lemmas.List.{take_more, take_all, take_at, take-take, take-append-le, get_or_append_left}
use Rattle.type_table.specs.declared.row.Row.{Row}
use Rattle.lar_rules.specs.Judged as rules
use Rattle.lar_rules.specs.Exprs.{local_named}
use Rattle.lar_judge.specs.declared.locals.Local.{Local}
use Rattle.lar_judge.specs.Locals.{local_in, locals_in, later, place_from, place, IsIndexed}
use Rattle.lar_judge.proofs.Scopes.{named_at}

later_cond : (b : Bool) (n : ℕ) (o p : Option ℕ) → later (cond b (Some n) o) p ≡ cond b (Some n) (later o p)
later_cond true n o p = refl
later_cond false n o p = refl

-- the last local is the innermost one of its name
place_last : (k : ℕ) (name : List ℕ) (ls : List Local) (l : Local) → place_from k name (ls ++ l ∷ []) ≡ cond (bytes_eq l.name.now name) (Some (k + length ls)) (place_from k name ls)
place_last k name [] l =
    let e : k ≡ k + 0 = omega arith in
    ap (λ n. cond (bytes_eq l.name.now name) (Some n) None) e
place_last k name (x ∷ ls) l =
    let e : suc k + length ls ≡ k + suc (length ls) = omega arith in
    let first : Option ℕ = cond (bytes_eq x.name.now name) (Some k) None in
    ap (λ o. later o first) (place_last (suc k) name ls l) ∙ later_cond (bytes_eq l.name.now name) (suc k + length ls) (place_from (suc k) name ls) first
    ∙ ap (λ n. cond (bytes_eq l.name.now name) (Some n) (later (place_from (suc k) name ls) first)) e

place_more : (name : List ℕ) (ls : List Local) (i : ℕ) (d : Local) → i < length ls → place name (take (i + 1) ls) ≡ cond (bytes_eq (get_or ls i d).name.now name) (Some i) (place name (take i ls))
place_more name ls i d h =
    let e : 0 + length (take i ls) ≡ i = omega (arith, length-take-le i ls (omega (arith, h))) in
    ap (place name) (take_more ls i d h) ∙ place_last 0 name (take i ls) (get_or ls i d) ∙ ap (λ n. cond (bytes_eq (get_or ls i d).name.now name) (Some n) (place name (take i ls))) e

-- ---- a name means what stands at its place

abbrev at_place : List Row → List Local → Local → Option ℕ → Option rules.Local
at_place rows ls d None = None
at_place rows ls d (Some i) = Some (local_in rows (get_or ls i d))

abbrev Below : ℕ → Option ℕ → Type 0
Below n None = Unit {0}
Below n (Some i) = i < n

below_more : (b : Bool) (n : ℕ) (o : Option ℕ) → Below n o → Below (n + 1) (cond b (Some n) o)
below_more true n o h = omega arith
below_more false n None h = tt
below_more false n (Some i) h = omega (arith, h)

by_name : (b : Bool) (rows : List Row) (ls : List Local) (d : Local) (n : ℕ) (o : Option ℕ) (x : Option rules.Local) → x ≡ at_place rows ls d o → (if b then Some (local_in rows (get_or ls n d)) else x) ≡ at_place rows ls d (cond b (Some n) o)
by_name true rows ls d n o x e = refl
by_name false rows ls d n o x e = e

record Agrees (rows : List Row) (name : List ℕ) (ls : List Local) (d : Local) (n : ℕ) : Type 0 where
  pub is : local_named name (locals_in rows (take n ls)) ≡ at_place rows ls d (place name (take n ls))
  pub below : Below n (place name (take n ls))

agrees : (rows : List Row) (name : List ℕ) (ls : List Local) (d : Local) (n : ℕ) → n ≤ length ls → Agrees rows name ls d n
agrees rows name ls d zero h = record { is = refl; below = tt }
agrees rows name ls d (suc n) h =
    let a = agrees rows name ls d n (omega (arith, h)) in
    let more = place_more name ls n d (omega (arith, h)) in
    let b : Bool = bytes_eq (get_or ls n d).name.now name in
    let s : n + 1 ≡ suc n = omega arith in
    subst (Agrees rows name ls d) s (record {
      is = named_at rows name ls n d (omega (arith, h)) ∙ by_name b rows ls d n (place name (take n ls)) (local_named name (locals_in rows (take n ls))) a.is ∙ ap (at_place rows ls d) (sym more);
      below = subst (Below (n + 1)) (sym more) (below_more b n (place name (take n ls)) a.below);
    })

whole : (rows : List Row) (name : List ℕ) (ls : List Local) (d : Local) → Agrees rows name ls d (length ls)
whole rows name ls d = agrees rows name ls d (length ls) (omega arith)

whole_list : (ls : List Local) → take (length ls) ls ≡ ls
whole_list ls = take_all (length ls) ls (omega arith)

named_is : (rows : List Row) (name : List ℕ) (ls : List Local) (d : Local) → local_named name (locals_in rows ls) ≡ at_place rows ls d (place name ls)
named_is rows name ls d = subst (λ xs. local_named name (locals_in rows xs) ≡ at_place rows ls d (place name xs)) (whole_list ls) (whole rows name ls d).is

-- the place of a name is one of the list
pub place_below : (name : List ℕ) (ls : List Local) (d : Local) (i : ℕ) → place name ls ≡ Some i → i < length ls
place_below name ls d i e = subst (Below (length ls)) (ap (place name) (whole_list ls) ∙ e) (whole [] name ls d).below

pub none_named : (rows : List Row) (name : List ℕ) (ls : List Local) (d : Local) → place name ls ≡ None → local_named name (locals_in rows ls) ≡ None
none_named rows name ls d e = named_is rows name ls d ∙ ap (at_place rows ls d) e

pub one_named : (rows : List Row) (name : List ℕ) (ls : List Local) (d : Local) (i : ℕ) → place name ls ≡ Some i → local_named name (locals_in rows ls) ≡ Some (local_in rows (get_or ls i d))
one_named rows name ls d i e = named_is rows name ls d ∙ ap (at_place rows ls d) e

-- ---- locals come and go

pub none_yet : (known : List ℕ → Option ℕ) → ((q : List ℕ) → known q ≡ None) → IsIndexed [] [] known
none_yet known none = record { count = refl; each = none; hides = λ i d e h. absurd (omega (arith, h)) }

cond_same : (b : Bool) (x y z w : Option ℕ) → x ≡ z → y ≡ w → cond b x y ≡ cond b z w
cond_same true x y z w e f = e
cond_same false x y z w e f = f

hides_at : (ls : List Local) (hidden : List (Option ℕ)) (l : Local) (o : Option ℕ) (i : ℕ) (d : Local) (e : Option ℕ) → length hidden ≡ length ls → o ≡ place l.name.now ls
    → ((i : ℕ) (d : Local) (e : Option ℕ) → i < length ls → get_or hidden i e ≡ place (get_or ls i d).name.now (take i ls)) → (i ≡ length ls) ⊎ (i < length ls)
    → get_or (hidden ++ o ∷ []) i e ≡ place (get_or (ls ++ l ∷ []) i d).name.now (take i (ls ++ l ∷ []))
hides_at ls hidden l o i d e count is hides (inl k) =
    ap (λ n. get_or (hidden ++ o ∷ []) n e) (k ∙ sym count) ∙ get_or-append_seam hidden o [] e ∙ is
    ∙ sym (ap (λ n. place (get_or (ls ++ l ∷ []) n d).name.now (take n (ls ++ l ∷ []))) k ∙ ap (λ (x : Local). place x.name.now (take (length ls) (ls ++ l ∷ []))) (get_or-append_seam ls l [] d) ∙ ap (place l.name.now) (take_at ls (l ∷ []) (length ls) refl))
hides_at ls hidden l o i d e count is hides (inr k) =
    get_or_append_left hidden (o ∷ []) e i (omega (arith, k, count)) ∙ hides i d e k
    ∙ sym (ap (λ (x : Local). place x.name.now (take i (ls ++ l ∷ []))) (get_or_append_left ls (l ∷ []) d i k) ∙ ap (place (get_or ls i d).name.now) (take-append-le i ls (l ∷ []) (omega (arith, k))))

hides_more : (ls : List Local) (hidden : List (Option ℕ)) (l : Local) (o : Option ℕ) (i : ℕ) (d : Local) (e : Option ℕ) → length hidden ≡ length ls → o ≡ place l.name.now ls
    → ((i : ℕ) (d : Local) (e : Option ℕ) → i < length ls → get_or hidden i e ≡ place (get_or ls i d).name.now (take i ls)) → i < length (ls ++ l ∷ [])
    → get_or (hidden ++ o ∷ []) i e ≡ place (get_or (ls ++ l ∷ []) i d).name.now (take i (ls ++ l ∷ []))
hides_more ls hidden l o i d e count is hides h = hides_at ls hidden l o i d e count is hides (eq-or-lt_of_le (omega (arith, h, length-append ls (l ∷ []))))

pub declared : (ls : List Local) (hidden : List (Option ℕ)) (known new : List ℕ → Option ℕ) (l : Local) (o : Option ℕ) → IsIndexed ls hidden known → o ≡ known l.name.now → ((q : List ℕ) → new q ≡ cond (bytes_eq l.name.now q) (Some (length ls)) (known q))
    → IsIndexed (ls ++ l ∷ []) (hidden ++ o ∷ []) new
declared ls hidden known new l o x is put = record {
  count = omega (arith, x.count, length-append hidden (o ∷ []), length-append ls (l ∷ []));
  each = λ q. put q ∙ cond_same (bytes_eq l.name.now q) (Some (length ls)) (known q) (Some (0 + length ls)) (place q ls) (ap Some (omega arith)) (x.each q) ∙ sym (place_last 0 q ls l);
  hides = λ i d e h. hides_more ls hidden l o i d e x.count (is ∙ x.each l.name.now) x.hides h;
}

-- the innermost one is left
same_bytes : (a b : List ℕ) → bytes_eq a b ≡ true → a ≡ b
same_bytes a b e = (bytes_eq-Decides a b).0 e

left_name : (name q : List ℕ) (b : Bool) (h known_q : Option ℕ) (ls : List Local) → bytes_eq name q ≡ b → h ≡ place name ls → known_q ≡ cond b (Some (length ls)) (place q ls) → cond b h known_q ≡ place q ls
left_name name q true h known_q ls e is k = is ∙ ap (λ (n : List ℕ). place n ls) (same_bytes name q e)
left_name name q false h known_q ls e is k = k

left_at : (ls : List Local) (hidden : List (Option ℕ)) (known : List ℕ → Option ℕ) (n : ℕ) (d : Local) (e : Option ℕ) → IsIndexed ls hidden known → n + 1 ≡ length ls → (q : List ℕ)
    → cond (bytes_eq (get_or ls n d).name.now q) (get_or hidden n e) (known q) ≡ place q (take n ls)
left_at ls hidden known n d e x last q =
    let l : Local = get_or ls n d in
    let all : take (n + 1) ls ≡ ls = take_all (n + 1) ls (omega (arith, last)) in
    let size : length (take n ls) ≡ n = length-take-le n ls (omega (arith, last)) in
    let k : known q ≡ cond (bytes_eq l.name.now q) (Some (length (take n ls))) (place q (take n ls)) =
    x.each q ∙ ap (place q) (sym all) ∙ place_more q ls n d (omega (arith, last)) ∙ ap (λ m. cond (bytes_eq l.name.now q) (Some m) (place q (take n ls))) (sym size) in
    left_name l.name.now q (bytes_eq l.name.now q) (get_or hidden n e) (known q) (take n ls) refl (x.hides n d e (omega (arith, last))) k

pub left : (ls : List Local) (hidden : List (Option ℕ)) (known new : List ℕ → Option ℕ) (n : ℕ) (d : Local) (e : Option ℕ) → IsIndexed ls hidden known → n + 1 ≡ length ls
    → ((q : List ℕ) → new q ≡ cond (bytes_eq (get_or ls n d).name.now q) (get_or hidden n e) (known q)) → IsIndexed (take n ls) (take n hidden) new
left ls hidden known new n d e x last put = record {
  count = length-take-le n hidden (omega (arith, last, x.count)) ∙ sym (length-take-le n ls (omega (arith, last)));
  each = λ q. put q ∙ left_at ls hidden known n d e x last q;
  hides = λ i d e h.
      let size : length (take n ls) ≡ n = length-take-le n ls (omega (arith, last)) in
      let below : i < n = omega (arith, h, size) in
      get_or-take n hidden i e below ∙ x.hides i d e (omega (arith, below, last)) ∙ sym (ap (λ (y : Local). place y.name.now (take i (take n ls))) (get_or-take n ls i d below) ∙ ap (place (get_or ls i d).name.now) (take-take i n ls (omega (arith, below))));
}

same_name : (b : Bool) (n : ℕ) (o : Option ℕ) → b ≡ true → cond b (Some n) o ≡ Some n
same_name b n o e = ap (λ c. cond c (Some n) o) e

-- the innermost one has a place
pub is_there : (ls : List Local) (hidden : List (Option ℕ)) (known : List ℕ → Option ℕ) (n : ℕ) (d : Local) → IsIndexed ls hidden known → n + 1 ≡ length ls → known (get_or ls n d).name.now ≡ Some n
is_there ls hidden known n d x last =
    let l : Local = get_or ls n d in
    let all : take (n + 1) ls ≡ ls = take_all (n + 1) ls (omega (arith, last)) in
    x.each l.name.now ∙ ap (place l.name.now) (sym all) ∙ place_more l.name.now ls n d (omega (arith, last)) ∙ same_name (bytes_eq (get_or ls n d).name.now (get_or ls n d).name.now) n (place l.name.now (take n ls)) ((bytes_eq-Decides (get_or ls n d).name.now (get_or ls n d).name.now).1 refl)

-- the same where what is left stands in front
pub left_last : (ls : List Local) (hidden : List (Option ℕ)) (l : Local) (h : Option ℕ) (known new : List ℕ → Option ℕ) → IsIndexed (ls ++ l ∷ []) (hidden ++ h ∷ []) known
    → ((q : List ℕ) → new q ≡ cond (bytes_eq l.name.now q) h (known q)) → IsIndexed ls hidden new
left_last ls hidden l h known new x put =
    let n : ℕ = length ls in
    let count : length hidden ≡ n = omega (arith, x.count, length-append ls (l ∷ []), length-append hidden (h ∷ [])) in
    let last : n + 1 ≡ length (ls ++ l ∷ []) = omega (arith, length-append ls (l ∷ [])) in
    let hid : get_or (hidden ++ h ∷ []) n h ≡ h = ap (λ m. get_or (hidden ++ h ∷ []) m h) (sym count) ∙ get_or-append_seam hidden h [] h in
    subst (λ xs. IsIndexed xs hidden new) (take_at ls (l ∷ []) n refl) (subst (λ hs. IsIndexed (take n (ls ++ l ∷ [])) hs new) (take_at hidden (h ∷ []) n count)
    (left (ls ++ l ∷ []) (hidden ++ h ∷ []) known new n l h x last
    (λ q. put q ∙ sym (ap (λ (y : Local). cond (bytes_eq y.name.now q) (get_or (hidden ++ h ∷ []) n h) (known q)) (get_or-append_seam ls l [] l) ∙ ap (λ o. cond (bytes_eq l.name.now q) o (known q)) hid))))

pub there_last : (ls : List Local) (hidden : List (Option ℕ)) (l : Local) (known : List ℕ → Option ℕ) → IsIndexed (ls ++ l ∷ []) hidden known → known l.name.now ≡ Some (length ls)
there_last ls hidden l known x =
    ap (λ (y : Local). known y.name.now) (sym (get_or-append_seam ls l [] l)) ∙ is_there (ls ++ l ∷ []) hidden known (length ls) l x (omega (arith, length-append ls (l ∷ [])))
