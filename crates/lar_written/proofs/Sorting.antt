-- Generics against sorts, one by one.
use Rattle.std.proofs.Common.{◌≡◌, ℕ, zero, suc, ◌+◌, ◌-◌, ◌<◌, ◌≤◌, Bool, true, false, List, [], ◌∷◌, length, map, drop, get_or, Option, Some, None, refl, sym, ap, ◌∙◌, arith}
use Rattle.std.specs.Prelude.{if◌then◌else◌}
use Rattle.std.proofs.lemmas.List.{drop_more}
use Rattle.lar_source.specs.declared.file.Span.{Span}
use Rattle.type_table.specs.declared.row.Row.{Row}
use Rattle.type_table.specs.declared.sort.Sort.{Sort}
use Rattle.type_table.specs.TypeOf.{TypeOf, end}
use Rattle.type_table.specs.Lawful.{same_sort}
use Rattle.type_table.specs.Rows.{Keeps, Stands}
use Rattle.lar_rules.specs.Fault.{Fault, kept, least}
use Rattle.lar_rules.specs.Written.{Site, missorted, sorted_list, then_type}
use Rattle.lar_written.specs.declared.given.Given.{Given}
use Rattle.lar_written.specs.Given.{marks, given_view, other_sort, sort_faults}
use Rattle.lar_written.specs.Standing.{number_type, Inside, AllInside, StandsIf}
use Rattle.lar_written.proofs.Standings.{type_kept, inside_kept, leaf_stands}

-- what is missorted from a place on, by the generic at that place
missorted_here : (s : Site) (ws : List Sort) (gs : List Given) (i : ℕ) (w : Sort) (g : Given) → i < length ws → i < length gs
    → missorted s (drop i ws) (map marks (drop i gs)) ≡ (if same_sort (get_or ws i w) (get_or gs i g).sort then missorted s (drop (i + 1) ws) (map marks (drop (i + 1) gs)) else other_sort s (get_or gs i g).at (get_or ws i w) (get_or gs i g).sort ∷ missorted s (drop (i + 1) ws) (map marks (drop (i + 1) gs)))
missorted_here s ws gs i w g a b =
    ap (λ (vs : List Sort). missorted s vs (map marks (drop i gs))) (drop_more ws i w a)
    ∙ ap (λ (hs : List Given). missorted s (get_or ws i w ∷ drop (i + 1) ws) (map marks hs)) (drop_more gs i g b)

one_sort : (s : Site) (before : Option Fault) (w : Sort) (g : Given) (rest : List Fault) (c : Bool) → least before (if c then rest else other_sort s g.at w g.sort ∷ rest) ≡ least (least before (if c then [] else other_sort s g.at w g.sort ∷ [])) rest
unfolding least
one_sort s before w g rest true = refl
one_sort s before w g rest false = refl

-- one generic further
pub missorted_further : (s : Site) (ws : List Sort) (gs : List Given) (i : ℕ) (w : Sort) (g : Given) (before after start : Option Fault) → i < length ws → i < length gs
    → after ≡ least before (sort_faults s (get_or gs i g).at (get_or ws i w) (get_or gs i g).sort)
    → least before (missorted s (drop i ws) (map marks (drop i gs))) ≡ start → least after (missorted s (drop (i + 1) ws) (map marks (drop (i + 1) gs))) ≡ start
missorted_further s ws gs i w g before after start a b told so_far =
    let rest = missorted s (drop (i + 1) ws) (map marks (drop (i + 1) gs)) in
    ap (λ (o : Option Fault). least o rest) told ∙ sym (one_sort s before (get_or ws i w) (get_or gs i g) rest (same_sort (get_or ws i w) (get_or gs i g).sort))
    ∙ ap (least before) (sym (missorted_here s ws gs i w g a b)) ∙ so_far

pub sort_same : (s : Site) (at : Span) (w f : Sort) (best : Option Fault) → same_sort w f ≡ true → best ≡ least best (sort_faults s at w f)
unfolding least
sort_same s at w f best e = ap (λ (b : Bool). least best (if b then [] else other_sort s at w f ∷ [])) (sym e)

pub sort_other : (s : Site) (at : Span) (w f : Sort) (best after : Option Fault) → same_sort w f ≡ false → after ≡ kept best (other_sort s at w f) → after ≡ least best (sort_faults s at w f)
unfolding least
sort_other s at w f best after e noted = noted ∙ ap (λ (b : Bool). least best (if b then [] else other_sort s at w f ∷ [])) (sym e)

drop_past : {A : Type 0} (xs : List A) (n : ℕ) → length xs ≤ n → drop n xs ≡ []
drop_past [] zero h = refl
drop_past [] (suc n) h = refl
drop_past (x ∷ xs) zero h = absurd (omega arith)
drop_past (x ∷ xs) (suc n) h = drop_past xs n (omega arith)

pub missorted_end : (s : Site) (ws : List Sort) (gs : List Given) (i : ℕ) (before start : Option Fault) → length ws ≤ i
    → least before (missorted s (drop i ws) (map marks (drop i gs))) ≡ start → before ≡ start
unfolding least
missorted_end s ws gs i before start past so_far =
    ap (λ (vs : List Sort). least before (missorted s vs (map marks (drop i gs)))) (sym (drop_past ws i past)) ∙ so_far

-- THE LIST OF THE GENERICS

pub sorted_end : (old new : List Row) (ws : List Sort) (gs : List Given) (at n : ℕ) → at ≡ length ws → length ws ≡ length gs → Stands new n end → StandsIf new (Some n) (sorted_list (drop at ws) (map (given_view old) (drop at gs)))
sorted_end old new ws gs at n e same s = rw (drop_past ws at (omega arith), drop_past gs at (omega arith)) (leaf_stands new end n s)

sorted_here : (old : List Row) (ws : List Sort) (gs : List Given) (i : ℕ) (w : Sort) (g : Given) → i < length ws → i < length gs
    → sorted_list (drop i ws) (map (given_view old) (drop i gs)) ≡ then_type (if same_sort (get_or ws i w) (get_or gs i g).sort then number_type old (get_or gs i g).of else None) (sorted_list (drop (i + 1) ws) (map (given_view old) (drop (i + 1) gs)))
sorted_here old ws gs i w g a b =
    ap (λ (vs : List Sort). sorted_list vs (map (given_view old) (drop i gs))) (drop_more ws i w a)
    ∙ ap (λ (hs : List Given). sorted_list (get_or ws i w ∷ drop (i + 1) ws) (map (given_view old) hs)) (drop_more gs i g b)

pub given_inside : (rows : List Row) (gs : List Given) (i : ℕ) (g : Given) → AllInside rows (map (λ x. x.of) gs) → i < length gs → Inside rows (get_or gs i g).of
given_inside rows [] i g h below = absurd (omega arith)
given_inside rows (x ∷ gs) zero g h below = h.0
given_inside rows (x ∷ gs) (suc i) g h below = given_inside rows gs i g h.1 (omega arith)

-- a generic of its sort
pub sorted_further : (old mid new : List Row) (ws : List Sort) (gs : List Given) (at i : ℕ) (w : Sort) (g : Given) (list n : Option ℕ) → Keeps old mid → AllInside old (map (λ x. x.of) gs)
    → i + 1 ≡ at → at ≤ length ws → length ws ≡ length gs → same_sort (get_or ws i w) (get_or gs i g).sort ≡ true
    → StandsIf mid list (sorted_list (drop at ws) (map (given_view old) (drop at gs)))
    → StandsIf new n (then_type (number_type mid (get_or gs i g).of) (number_type mid list))
    → StandsIf new n (sorted_list (drop i ws) (map (given_view old) (drop i gs)))
sorted_further old mid new ws gs at i w g list n k h e below lengths same so_far s =
    let x = (get_or gs i g).of in
    let kept_type : number_type mid x ≡ number_type old x = type_kept old mid x k (given_inside old gs i g h (omega arith)) in
    record {
      within = s.within;
      is = s.is ∙ ap (λ (t : Option TypeOf). then_type t (number_type mid list)) kept_type ∙ ap (then_type (number_type old x)) so_far.is
          ∙ ap (λ (j : ℕ). then_type (number_type old x) (sorted_list (drop j ws) (map (given_view old) (drop j gs)))) (sym e)
          ∙ sym (sorted_here old ws gs i w g (omega arith) (omega arith) ∙ ap (λ (c : Bool). then_type (if c then number_type old x else None) (sorted_list (drop (i + 1) ws) (map (given_view old) (drop (i + 1) gs)))) same);
    }

-- one of another
pub sorted_missing : (old mid : List Row) (ws : List Sort) (gs : List Given) (at i : ℕ) (w : Sort) (g : Given) → i + 1 ≡ at → at ≤ length ws → length ws ≡ length gs → same_sort (get_or ws i w) (get_or gs i g).sort ≡ false
    → StandsIf mid None (sorted_list (drop i ws) (map (given_view old) (drop i gs)))
sorted_missing old mid ws gs at i w g e below lengths other = record {
  within = tt;
  is = sym (sorted_here old ws gs i w g (omega arith) (omega arith) ∙ ap (λ (c : Bool). then_type (if c then number_type old (get_or gs i g).of else None) (sorted_list (drop (i + 1) ws) (map (given_view old) (drop (i + 1) gs)))) other);
}
