-- The text of a path, and the generic that its name means.
use Rattle.std.proofs.Common.{◌≡◌, ℕ, zero, suc, ◌+◌, ◌<◌, ◌≤◌, Bool, true, false, List, [], ◌∷◌, ◌++◌, length, map, take, drop, get_or, Option, Some, None, option_map, codes, refl, sym, ap, ◌∙◌, arith}
use Rattle.std.specs.Prelude.{if◌then◌else◌}
use Rattle.std.specs.Str.{bytes_eq}
use Rattle.std.proofs.lemmas.List.{append_assoc, drop_more, take_more, map-append, take_all}
use Rattle.lar_tree.specs.declared.name.Segment.{Segment}
use Rattle.lar_rules.specs.Generics.{GenericName, Placed, generic_from}
use Rattle.lar_rules.specs.Printed.{joined}
use Rattle.type_table.specs.declared.sort.Sort.{Sort}
use Rattle.lar_written.specs.declared.generics.GenericItem.{GenericItem}
use Rattle.lar_written.specs.Sites.{generic_view}

joined_more : (n : List ℕ) (ns : List (List ℕ)) (y : List ℕ) → joined (n ∷ (ns ++ y ∷ [])) ≡ (joined (n ∷ ns) ++ codes "::") ++ y
joined_more n [] y = sym (append_assoc n (codes "::") y)
joined_more n (m ∷ ms) y =
    ap (λ (t : List ℕ). n ++ (codes "::" ++ t)) (joined_more m ms y)
    ∙ sym (append_assoc (n ++ (codes "::" ++ joined (m ∷ ms))) (codes "::") y
    ∙ append_assoc n (codes "::" ++ joined (m ∷ ms)) (codes "::" ++ y)
    ∙ ap (λ (t : List ℕ). n ++ t) (append_assoc (codes "::") (joined (m ∷ ms)) (codes "::" ++ y)
    ∙ ap (λ (t : List ℕ). codes "::" ++ t) (sym (append_assoc (joined (m ∷ ms)) (codes "::") y))))

-- the names of the first segments
abbrev pub texts : List Segment → List (List ℕ)
texts segments = map (λ n. n.text) (map (λ s. s.name) segments)

texts_more : (xs : List Segment) (i : ℕ) (x : Segment) → i < length xs → texts (take (i + 1) xs) ≡ texts (take i xs) ++ (get_or xs i x).name.text ∷ []
texts_more xs i x below =
    ap texts (take_more xs i x below) ∙ ap (map (λ n. n.text)) (map-append (λ s. s.name) (take i xs) (get_or xs i x ∷ []))
    ∙ map-append (λ n. n.text) (map (λ s. s.name) (take i xs)) ((get_or xs i x).name ∷ [])

pub path_step : (first : List ℕ) (segments : List Segment) (i : ℕ) (x : Segment) (old mid new : List ℕ)
    → old ≡ joined (first ∷ texts (take i segments)) → mid ≡ old ++ codes "::" → new ≡ mid ++ x.name.text → x ≡ get_or segments i x → i < length segments
    → new ≡ joined (first ∷ texts (take (i + 1) segments))
path_step first segments i x old mid new so_far sep name at below =
    name ∙ ap (λ (t : List ℕ). t ++ x.name.text) (sep ∙ ap (λ (t : List ℕ). t ++ codes "::") so_far)
    ∙ sym (joined_more first (texts (take i segments)) x.name.text)
    ∙ ap (λ (y : Segment). joined (first ∷ (texts (take i segments) ++ y.name.text ∷ []))) at
    ∙ ap (λ (ts : List (List ℕ)). joined (first ∷ ts)) (sym (texts_more segments i x below))

pub path_end : (first : List ℕ) (segments : List Segment) (i : ℕ) (out : List ℕ) → out ≡ joined (first ∷ texts (take i segments)) → length segments ≤ i → out ≡ joined (first ∷ texts segments)
path_end first segments i out is past = is ∙ ap (λ (ss : List Segment). joined (first ∷ texts ss)) (take_all i segments past)

-- THE FIRST GENERIC OF A NAME

abbrev pub pair : Placed → ℕ × Sort
pair p = (p.place, p.sort)

from_here : (gs : List GenericItem) (name : List ℕ) (i : ℕ) (x : GenericItem) → x ≡ get_or gs i x → i < length gs
    → generic_from i name (map generic_view (drop i gs)) ≡ (if bytes_eq x.name.now.text name then Some (record { place = i; sort = x.sort }) else generic_from (suc i) name (map generic_view (drop (i + 1) gs)))
from_here gs name i x at below = ap (λ (ys : List GenericItem). generic_from i name (map generic_view ys)) (drop_more gs i x below ∙ ap (λ (y : GenericItem). y ∷ drop (i + 1) gs) (sym at))

pub generic_found : (gs : List GenericItem) (name : List ℕ) (i : ℕ) (x : GenericItem) (r : Option Placed) → x ≡ get_or gs i x → i < length gs
    → generic_from i name (map generic_view (drop i gs)) ≡ r → bytes_eq x.name.now.text name ≡ true → ◌≡◌ {A = Option (ℕ × Sort)} (Some (i, x.sort)) (option_map pair r)
generic_found gs name i x r at below so_far same =
    ap (option_map pair) (sym (from_here gs name i x at below
    ∙ ap (λ (b : Bool). if b then Some (record { place = i; sort = x.sort }) else generic_from (suc i) name (map generic_view (drop (i + 1) gs))) same) ∙ so_far)

pub generic_further : (gs : List GenericItem) (name : List ℕ) (i : ℕ) (x : GenericItem) (r : Option Placed) → x ≡ get_or gs i x → i < length gs
    → generic_from i name (map generic_view (drop i gs)) ≡ r → bytes_eq x.name.now.text name ≡ false → generic_from (i + 1) name (map generic_view (drop (i + 1) gs)) ≡ r
generic_further gs name i x r at below so_far other =
    ap (λ (k : ℕ). generic_from k name (map generic_view (drop (i + 1) gs))) (let e : i + 1 ≡ suc i = omega arith in e)
    ∙ sym (from_here gs name i x at below
    ∙ ap (λ (b : Bool). if b then Some (record { place = i; sort = x.sort }) else generic_from (suc i) name (map generic_view (drop (i + 1) gs))) other) ∙ so_far

drop_past : {A : Type 0} (xs : List A) (n : ℕ) → length xs ≤ n → drop n xs ≡ []
drop_past [] zero h = refl
drop_past [] (suc n) h = refl
drop_past (x ∷ xs) zero h = absurd (omega arith)
drop_past (x ∷ xs) (suc n) h = drop_past xs n (omega arith)

pub generic_missing : (gs : List GenericItem) (name : List ℕ) (i : ℕ) (r : Option Placed) → length gs ≤ i
    → generic_from i name (map generic_view (drop i gs)) ≡ r → ◌≡◌ {A = Option (ℕ × Sort)} None (option_map pair r)
generic_missing gs name i r past so_far =
    ap (option_map pair) (ap (λ (ys : List GenericItem). generic_from i name (map generic_view ys)) (sym (drop_past gs i past)) ∙ so_far)
