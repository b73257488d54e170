-- One part further in the loops over parts and over what fields are set to.
use Rattle.std.proofs.Common.{◌≡◌, ℕ, zero, suc, ◌+◌, ◌<◌, ◌≤◌, List, [], ◌∷◌, ◌++◌, length, map, take, drop, get_or, Option, refl, sym, ap, ◌∙◌, subst, arith}
use Rattle.std.proofs.lemmas.List.{drop_more, map_more, take_all}
use Rattle.type_table.specs.declared.row.Row.{Row}
use Rattle.type_table.specs.Rows.{Keeps}
use Rattle.lar_rules.specs.Fault.{Fault, least}
use Rattle.lar_rules.specs.Judged.{all_faults}
use Rattle.lar_rules.specs.Judged as rules
use Rattle.lar_judge.specs.declared.judged.Judged.{Judged}
use Rattle.lar_judge.specs.Known.{Knows}
use Rattle.lar_judge.proofs.Least.{least_none, least_append}
use Rattle.lar_exprs.specs.Walks.{AllKnown}
use Rattle.lar_exprs.proofs.Growing.{all_known_kept, all_known_more}

pub parts_first : (rows : List Row) (js : List Judged) (j : Judged) (d : rules.Judged) → Knows rows j d → js ≡ j ∷ [] → AllKnown rows js (d ∷ [])
parts_first rows js j d h e = rw e (record { within = (h.within, tt); are = ap (λ (x : rules.Judged). x ∷ []) h.is })

pub parts_further : {A : Type 0} (mid new : List Row) (f : A → rules.Judged) (d : rules.Judged) (ms : List A) (i : ℕ) (x : A) (js after : List Judged) (j : Judged) → Keeps mid new → x ≡ get_or ms i x → i < length ms
    → AllKnown mid js (d ∷ map f (take i ms)) → after ≡ js ++ j ∷ [] → Knows new j (f x) → AllKnown new after (d ∷ map f (take (i + 1) ms))
parts_further mid new f d ms i x js after j k at below so_far push one =
    let more : AllKnown new (js ++ j ∷ []) ((d ∷ map f (take i ms)) ++ f x ∷ []) = all_known_more new js (d ∷ map f (take i ms)) j (f x) (all_known_kept mid new js (d ∷ map f (take i ms)) k so_far) one in
    let same : (d ∷ map f (take i ms)) ++ f x ∷ [] ≡ d ∷ map f (take (i + 1) ms) =
    ap (λ y. d ∷ (map f (take i ms) ++ f y ∷ [])) at ∙ sym (ap (λ (ys : List rules.Judged). d ∷ ys) (map_more f ms i x below)) in
    rw push (subst (λ (ds : List rules.Judged). AllKnown new (js ++ j ∷ []) ds) same more)

pub parts_told : {A : Type 0} (f : A → rules.Judged) (ms : List A) (i : ℕ) (x : A) (before after start : Option Fault) → x ≡ get_or ms i x → i < length ms
    → least before (all_faults (map f (drop i ms))) ≡ start → after ≡ least before (f x).faults → least after (all_faults (map f (drop (i + 1) ms))) ≡ start
parts_told {A} f ms i x before after start at below so_far told =
    let rest : List Fault = all_faults (map f (drop (i + 1) ms)) in
    let split : drop i ms ≡ x ∷ drop (i + 1) ms = drop_more ms i x below ∙ ap (λ y. y ∷ drop (i + 1) ms) (sym at) in
    ap (λ (o : Option Fault). least o rest) told ∙ sym (least_append before (f x).faults rest)
    ∙ ap (λ (ys : List A). least before (all_faults (map f ys))) (sym split) ∙ so_far

pub parts_begun : (d : rules.Judged) (ds : List rules.Judged) (best now : Option Fault) → now ≡ least best d.faults → least now (all_faults ds) ≡ least best (all_faults (d ∷ ds))
parts_begun d ds best now told = ap (λ (o : Option Fault). least o (all_faults ds)) told ∙ sym (least_append best d.faults (all_faults ds))

drop_past : {A : Type 0} (xs : List A) (n : ℕ) → length xs ≤ n → drop n xs ≡ []
drop_past [] zero h = refl
drop_past [] (suc n) h = refl
drop_past (x ∷ xs) zero h = absurd (omega arith)
drop_past (x ∷ xs) (suc n) h = drop_past xs n (omega arith)

mapped_twice : {A B : Type 0} (f : B → rules.Judged) (g : A → B) (xs : List A) → map (λ x. f (g x)) xs ≡ map f (map g xs)
mapped_twice f g [] = refl
mapped_twice f g (x ∷ xs) = ap (λ (ys : List rules.Judged). f (g x) ∷ ys) (mapped_twice f g xs)

pub parts_end : {A B : Type 0} (rows : List Row) (f : B → rules.Judged) (g : A → B) (d : rules.Judged) (ms more : List A) (i : ℕ) (js : List Judged) → ms ≡ more → length ms ≤ i → AllKnown rows js (d ∷ map (λ x. f (g x)) (take i ms)) → AllKnown rows js (d ∷ map f (map g more))
parts_end {A} rows f g d ms more i js e past h =
    let same : map (λ x. f (g x)) (take i ms) ≡ map f (map g more) = ap (λ (ys : List A). map (λ x. f (g x)) ys) (take_all i ms past ∙ e) ∙ mapped_twice f g more in
    subst (λ (ds : List rules.Judged). AllKnown rows js (d ∷ ds)) same h

pub parts_all_told : {A B : Type 0} (f : B → rules.Judged) (g : A → B) (d : rules.Judged) (ms more : List A) (i : ℕ) (best now : Option Fault) → ms ≡ more → length ms ≤ i
    → least now (all_faults (map (λ x. f (g x)) (drop i ms))) ≡ least best (all_faults (d ∷ map (λ x. f (g x)) ms)) → now ≡ least best (all_faults (d ∷ map f (map g more)))
parts_all_told {A} f g d ms more i best now e past h =
    let same : map (λ x. f (g x)) ms ≡ map f (map g more) = ap (λ (ys : List A). map (λ x. f (g x)) ys) e ∙ mapped_twice f g more in
    sym (least_none now) ∙ ap (λ (ys : List A). least now (all_faults (map (λ x. f (g x)) ys))) (sym (drop_past ms i past)) ∙ h
    ∙ ap (λ (ds : List rules.Judged). least best (all_faults (d ∷ ds))) same
