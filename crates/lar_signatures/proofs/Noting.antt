-- The faults of all items of a kind, one item after the other, and in the words of the order in which they may be noted.
use Rattle.std.proofs.Common.{◌≡◌, ℕ, zero, suc, ◌+◌, ◌<◌, ◌≤◌, List, [], ◌∷◌, ◌++◌, length, map, drop, get_or, Option, refl, sym, ap, ◌∙◌, arith}
use Rattle.std.proofs.lemmas.List.{drop_more}
use Rattle.lar_rules.specs.Fault.{Fault, least}
use Rattle.lar_rules.specs.Declared.{Declared, Places, past, What, a_module, a_struct, a_const, a_function}
use Rattle.lar_rules.specs.Faults.{none_yet}
use Rattle.lar_rules.proofs.Least.{least_append}
use Rattle.lar_names.specs.Numbered.{structs, functions, struct_of, function_of, with_first}
use Rattle.fault_order.specs.Order.{struct_part, head_part, parts_from}
use Rattle.lar_signatures.specs.Noted.{faults_of_all, faults_of_struct, faults_of_head}

drop_past : {A : Type 0} (xs : List A) (n : ℕ) → length xs ≤ n → drop n xs ≡ []
drop_past [] zero h = refl
drop_past [] (suc n) h = refl
drop_past (x ∷ xs) zero h = absurd (omega arith)
drop_past (x ∷ xs) (suc n) h = drop_past xs n (omega arith)

-- one item further
pub noted_further : {B I : Type 0} (f : ℕ → B → List Fault) (g : I → B) (items : List I) (i : ℕ) (x : I) (before after start : Option Fault) → x ≡ get_or items i x → i < length items
    → least before (faults_of_all f i (map g (drop i items))) ≡ start → after ≡ least before (f i (g x)) → least after (faults_of_all f (i + 1) (map g (drop (i + 1) items))) ≡ start
noted_further {I = I} f g items i x before after start at below so_far told =
    let next : suc i ≡ i + 1 = omega arith in
    let rest = faults_of_all f (suc i) (map g (drop (i + 1) items)) in
    let split : drop i items ≡ x ∷ drop (i + 1) items = drop_more items i x below ∙ ap (λ (y : I). y ∷ drop (i + 1) items) (sym at) in
    ap (λ (k : ℕ). least after (faults_of_all f k (map g (drop (i + 1) items)))) (sym next)
    ∙ ap (λ (o : Option Fault). least o rest) told ∙ sym (least_append before (f i (g x)) rest)
    ∙ ap (λ (ys : List I). least before (faults_of_all f i (map g ys))) (sym split) ∙ so_far

pub noted_end : {B I : Type 0} (f : ℕ → B → List Fault) (g : I → B) (items : List I) (i : ℕ) (ys : List B) (best start : Option Fault) → length items ≤ i → map g items ≡ ys
    → least best (faults_of_all f i (map g (drop i items))) ≡ least start (faults_of_all f 0 (map g items)) → best ≡ least start (faults_of_all f 0 ys)
unfolding least
noted_end {B = B} {I = I} f g items i ys best start past e so_far =
    ap (λ (zs : List I). least best (faults_of_all f i (map g zs))) (sym (drop_past items i past)) ∙ so_far ∙ ap (λ (zs : List B). least start (faults_of_all f 0 zs)) e

struct_case : (all : List Declared) (p : Places) (d : Declared) (ds : List Declared) (w : What) → ((q : Places) → parts_from struct_part all q ds ≡ faults_of_all (faults_of_struct all) q.structs (structs ds))
    → struct_part all p d w ++ parts_from struct_part all (past p w) ds ≡ faults_of_all (faults_of_struct all) p.structs (with_first (struct_of d w) (structs ds))
unfolding faults_of_struct
struct_case all p d ds a_module h = h p
struct_case all p d ds (a_const c) h = h (past p (a_const c))
struct_case all p d ds (a_function f) h = h (past p (a_function f))
struct_case all p d ds (a_struct s) h = ap (λ (fs : List Fault). faults_of_struct all p.structs (d, s) ++ fs) (h (past p (a_struct s)))

-- the faults of structs among those of all items
pub struct_parts : (all : List Declared) (p : Places) (ds : List Declared) → parts_from struct_part all p ds ≡ faults_of_all (faults_of_struct all) p.structs (structs ds)
struct_parts all p [] = refl
struct_parts all p (d ∷ ds) = struct_case all p d ds d.what (λ q. struct_parts all q ds)

head_case : (all : List Declared) (p : Places) (d : Declared) (ds : List Declared) (w : What) → ((q : Places) → parts_from head_part all q ds ≡ faults_of_all (faults_of_head all) q.functions (functions ds))
    → head_part all p d w ++ parts_from head_part all (past p w) ds ≡ faults_of_all (faults_of_head all) p.functions (with_first (function_of d w) (functions ds))
unfolding faults_of_head
head_case all p d ds a_module h = h p
head_case all p d ds (a_const c) h = h (past p (a_const c))
head_case all p d ds (a_struct s) h = h (past p (a_struct s))
head_case all p d ds (a_function f) h = ap (λ (fs : List Fault). faults_of_head all p.functions (d, f) ++ fs) (h (past p (a_function f)))

-- the faults of functions' names and types among those of all items
pub head_parts : (all : List Declared) (p : Places) (ds : List Declared) → parts_from head_part all p ds ≡ faults_of_all (faults_of_head all) p.functions (functions ds)
head_parts all p [] = refl
head_parts all p (d ∷ ds) = head_case all p d ds d.what (λ q. head_parts all q ds)

-- those of the structs, and then those of the functions
pub all_noted : (all : List Declared) (best mid new : Option Fault) → mid ≡ least best (faults_of_all (faults_of_struct all) 0 (structs all)) → new ≡ least mid (faults_of_all (faults_of_head all) 0 (functions all))
    → new ≡ least best (parts_from struct_part all none_yet all ++ parts_from head_part all none_yet all)
all_noted all best mid new a b =
    b ∙ ap (λ (o : Option Fault). least o (faults_of_all (faults_of_head all) 0 (functions all))) a
    ∙ sym (least_append best (faults_of_all (faults_of_struct all) 0 (structs all)) (faults_of_all (faults_of_head all) 0 (functions all)))
    ∙ ap (λ (fs : List Fault). least best (fs ++ faults_of_all (faults_of_head all) 0 (functions all))) (sym (struct_parts all none_yet all))
    ∙ ap (λ (fs : List Fault). least best (parts_from struct_part all none_yet all ++ fs)) (sym (head_parts all none_yet all))
