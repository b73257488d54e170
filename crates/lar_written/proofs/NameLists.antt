-- Names that earlier ones have.
use Rattle.std.proofs.Common.{◌≡◌, ℕ, zero, suc, ◌+◌, ◌<◌, ◌≤◌, Bool, true, false, ◌||◌, List, [], ◌∷◌, ◌++◌, length, map, take, drop, get_or, Option, Some, None, refl, sym, ap, ◌∙◌, arith}
use Rattle.std.specs.Prelude.{if◌then◌else◌}
use Rattle.std.specs.Borrow.{Bor}
use Rattle.std.specs.Str.{bytes_eq}
use Rattle.std.proofs.lemmas.List.{drop_more, map_more}
use Rattle.lar_tree.specs.declared.name.Name.{Name}
use Rattle.lar_rules.specs.Fault.{Fault, kept, least}
use Rattle.lar_rules.specs.Twice.{is_among, twice, repeated}
use Rattle.lar_rules.proofs.Least.{least_append}
use Rattle.lar_written.specs.Names.{names, twice_if}

among_here : (ns : List (Bor Name)) (text : List ℕ) (i : ℕ) (x : Bor Name) → x ≡ get_or ns i x → i < length ns → is_among (names (drop i ns)) text ≡ (bytes_eq x.now.text text || is_among (names (drop (i + 1) ns)) text)
among_here ns text i x at below = ap (λ (ys : List (Bor Name)). is_among (names ys) text) (drop_more ns i x below ∙ ap (λ (y : Bor Name). y ∷ drop (i + 1) ns) (sym at))

pub among_found : (ns : List (Bor Name)) (text : List ℕ) (i : ℕ) (x : Bor Name) (r : Bool) → x ≡ get_or ns i x → i < length ns → is_among (names (drop i ns)) text ≡ r → bytes_eq x.now.text text ≡ true → true ≡ r
among_found ns text i x r at below so_far same = sym (among_here ns text i x at below ∙ ap (λ (b : Bool). b || is_among (names (drop (i + 1) ns)) text) same) ∙ so_far

pub among_further : (ns : List (Bor Name)) (text : List ℕ) (i : ℕ) (x : Bor Name) (r : Bool) → x ≡ get_or ns i x → i < length ns → is_among (names (drop i ns)) text ≡ r → bytes_eq x.now.text text ≡ false → is_among (names (drop (i + 1) ns)) text ≡ r
among_further ns text i x r at below so_far other = sym (among_here ns text i x at below ∙ ap (λ (b : Bool). b || is_among (names (drop (i + 1) ns)) text) other) ∙ so_far

drop_past : {A : Type 0} (xs : List A) (n : ℕ) → length xs ≤ n → drop n xs ≡ []
drop_past [] zero h = refl
drop_past [] (suc n) h = refl
drop_past (x ∷ xs) zero h = absurd (omega arith)
drop_past (x ∷ xs) (suc n) h = drop_past xs n (omega arith)

pub among_none : (ns : List (Bor Name)) (text : List ℕ) (i : ℕ) (r : Bool) → length ns ≤ i → is_among (names (drop i ns)) text ≡ r → false ≡ r
among_none ns text i r past so_far = ap (λ (ys : List (Bor Name)). is_among (names ys) text) (sym (drop_past ns i past)) ∙ so_far

pub twice_noted : (file : ℕ) (earlier : List Name) (n : Name) (best after : Option Fault) → is_among earlier n.text ≡ true → after ≡ kept best (twice file n) → after ≡ least best (twice_if file earlier n)
unfolding least
twice_noted file earlier n best after e noted = noted ∙ ap (λ (b : Bool). least best (if b then twice file n ∷ [] else [])) (sym e)

pub twice_none : (file : ℕ) (earlier : List Name) (n : Name) (best : Option Fault) → is_among earlier n.text ≡ false → best ≡ least best (twice_if file earlier n)
unfolding least
twice_none file earlier n best e = ap (λ (b : Bool). least best (if b then twice file n ∷ [] else [])) (sym e)

pub repeated_further : (file : ℕ) (ns earlier : List (Bor Name)) (i : ℕ) (x : Bor Name) (before after start : Option Fault) → i < length ns → earlier ≡ take i ns
    → after ≡ least before (twice_if file (names earlier) (get_or ns i x).now) → least before (repeated file (names (take i ns)) (names (drop i ns))) ≡ start
    → least after (repeated file (names (take (i + 1) ns)) (names (drop (i + 1) ns))) ≡ start
repeated_further file ns earlier i x before after start below same told so_far =
    let n = (get_or ns i x).now in
    let rest = repeated file (names (take i ns) ++ n ∷ []) (names (drop (i + 1) ns)) in
    ap (λ (ys : List Name). least after (repeated file ys (names (drop (i + 1) ns)))) (map_more (λ y. y.now) ns i x below)
    ∙ ap (λ (o : Option Fault). least o rest) (told ∙ ap (λ (es : List (Bor Name)). least before (twice_if file (names es) n)) same)
    ∙ sym (least_append before (twice_if file (names (take i ns)) n) rest)
    ∙ ap (λ (ys : List (Bor Name)). least before (repeated file (names (take i ns)) (names ys))) (sym (drop_more ns i x below)) ∙ so_far

pub repeated_end : (file : ℕ) (ns : List (Bor Name)) (i : ℕ) (best start : Option Fault) → length ns ≤ i → least best (repeated file (names (take i ns)) (names (drop i ns))) ≡ start → best ≡ start
unfolding least
repeated_end file ns i best start past so_far = ap (λ (ys : List (Bor Name)). least best (repeated file (names (take i ns)) (names ys))) (sym (drop_past ns i past)) ∙ so_far
