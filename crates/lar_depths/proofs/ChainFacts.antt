-- The longest chains of the graph of numbers are those of the structs.
use Rattle.std.proofs.Common.{◌≡◌, ℕ, zero, suc, ◌≤◌, max, List, [], ◌∷◌, ◌++◌, length, map, take, get_or, Some, refl, sym, ap, ◌∙◌, subst, arith, append_assoc}
use Rattle.std.specs.Prelude.{slice_get}
use Rattle.std.proofs.lemmas.List.{take_all}
use Rattle.struct_chains.specs.Chains.{longest, round, all_followers}
use Rattle.lar_tree.specs.Items.{PlainStruct}
use Rattle.lar_tree.specs.Lawful.{Every}
use Rattle.lar_rules.specs.Declared.{What, a_module, a_struct, a_const, a_function, Declared, Places, past, Struct}
use Rattle.lar_rules.specs.Signatures.{struct_site, list_in}
use Rattle.lar_rules.specs.Structs.{next_structs, most_of, followers, max_chain}
use Rattle.lar_rules.specs.Faults.{none_yet}
use Rattle.lar_sound.specs.Items.{HoldsAt, EachItem}
use Rattle.lar_sound.specs.InOrder.{struct_before, structs_from}
use Rattle.lar_sound.proofs.Depths.{fields_hold}
use Rattle.lar_sound.proofs.ItemsMeant.{struct_meant_holds}
use Rattle.lar_names.specs.Numbered as numbered
use Rattle.lar_names.specs.Numbered.{with_first, struct_of}
use Rattle.lar_depths.specs.Depths.{structs, depths, numbers, next_numbers}

-- THE ROWS OF THE GRAPH

abbrev pub row : List Declared → Struct → List ℕ
row all x = numbers (next_structs all x)

one_row : (all : List Declared) (p : Places) (d : Declared) (w : What) (xs : List Struct) (ys : List (Declared × PlainStruct))
    → map (next_numbers all) ys ≡ map (row all) xs → map (next_numbers all) (with_first (struct_of d w) ys) ≡ map (row all) (struct_before p d w xs)
one_row all p d a_module xs ys e = e
one_row all p d (a_const c) xs ys e = e
one_row all p d (a_function f) xs ys e = e
one_row all p d (a_struct s) xs ys e = ap (λ (rows : List (List ℕ)). row all (record { number = 0; from = d; it = s }) ∷ rows) e

rows_from : (all : List Declared) (p : Places) (ds : List Declared) → map (next_numbers all) (numbered.structs ds) ≡ map (row all) (structs_from p ds)
rows_from all p [] = refl
rows_from all p (d ∷ ds) = one_row all p d d.what (structs_from (past p d.what) ds) (numbered.structs ds) (rows_from all (past p d.what) ds)

map_twice : {A B C : Type 0} (f : B → C) (g : A → B) (xs : List A) → map (λ x. f (g x)) xs ≡ map f (map g xs)
map_twice f g [] = refl
map_twice f g (x ∷ xs) = ap (λ ys. f (g x) ∷ ys) (map_twice f g xs)

-- the rows of all items, at the end of the loop over them
pub all_rows : {A B C : Type 0} (f : B → C) (g : A → B) (xs : List A) (i : ℕ) (out : List C) (all : List B) → length xs ≤ i → out ≡ map (λ x. f (g x)) (take i xs) → map g xs ≡ all → out ≡ map f all
all_rows f g xs i out all past so_far is = so_far ∙ ap (map (λ x. f (g x))) (take_all i xs past) ∙ map_twice f g xs ∙ ap (map f) is

-- EACH STRUCT STANDS AT ITS NUMBER

abbrev IsAt : List Struct → Struct → Type 0
IsAt xs y = slice_get xs y.number ≡ Some y

get_behind : (pre : List Struct) (x : Struct) (post : List Struct) (n : ℕ) → n ≡ length pre → slice_get (pre ++ x ∷ post) n ≡ Some x
get_behind [] x post zero e = refl
get_behind [] x post (suc n) e = absurd (omega arith)
get_behind (y ∷ pre) x post zero e = absurd (omega arith)
get_behind (y ∷ pre) x post (suc n) e = get_behind pre x post n (omega arith)

length_behind : (pre : List Struct) (x : Struct) → length (pre ++ x ∷ []) ≡ suc (length pre)
length_behind [] x = refl
length_behind (y ∷ pre) x = ap suc (length_behind pre x)

abbrev Anything : {A : Type 0} → A → Type 0
Anything x = Unit {0}

one_at : (pre : List Struct) (p : Places) (d : Declared) (w : What) (ds : List Declared) → p.structs ≡ length pre
    → ((qs : List Struct) (q : Places) → q.structs ≡ length qs → EachItem (IsAt (qs ++ structs_from q ds)) Anything Anything q ds)
    → HoldsAt (IsAt (pre ++ struct_before p d w (structs_from (past p w) ds))) Anything Anything p d w
    × EachItem (IsAt (pre ++ struct_before p d w (structs_from (past p w) ds))) Anything Anything (past p w) ds
one_at pre p d a_module ds e more = (tt, more pre p e)
one_at pre p d (a_const c) ds e more = (tt, more pre (past p (a_const c)) e)
one_at pre p d (a_function f) ds e more = (tt, more pre (past p (a_function f)) e)
one_at pre p d (a_struct s) ds e more =
    let x : Struct = record { number = p.structs; from = d; it = s } in
    let q : Places = past p (a_struct s) in
    let k : q.structs ≡ length (pre ++ x ∷ []) = ap suc e ∙ sym (length_behind pre x) in (
      get_behind pre x (structs_from q ds) p.structs e,
      subst (λ (xs : List Struct). EachItem (IsAt xs) Anything Anything q ds) (append_assoc pre (x ∷ []) (structs_from q ds)) (more (pre ++ x ∷ []) q k),
    )

each_at : (pre : List Struct) (p : Places) (ds : List Declared) → p.structs ≡ length pre → EachItem (IsAt (pre ++ structs_from p ds)) Anything Anything p ds
each_at pre p [] e = tt
each_at pre p (d ∷ ds) e = one_at pre p d d.what ds e (λ qs q f. each_at qs q ds f)

all_at : (all : List Declared) → EachItem (IsAt (structs all)) Anything Anything none_yet all
all_at all = each_at [] none_yet all refl

-- so does each that a field mentions
next_at : (all : List Declared) (x : Struct) → Every (IsAt (structs all)) (next_structs all x)
next_at all x = fields_hold (IsAt (structs all)) (struct_site all x) (λ here p. struct_meant_holds (IsAt (structs all)) Anything Anything all here p (all_at all)) (list_in x.it.fields)

-- ROUNDS

entry_at : (g : Struct → ℕ) (xs : List Struct) (n : ℕ) (y : Struct) → slice_get xs n ≡ Some y → get_or (map g xs) n 0 ≡ g y
entry_at g [] n y e = cc
entry_at g (x ∷ xs) zero y e = let same : x ≡ y = cc in ap g same
entry_at g (x ∷ xs) (suc n) y e = entry_at g xs n y e

longest_is : (g : Struct → ℕ) (xs ys : List Struct) → Every (IsAt xs) ys → longest (λ node. get_or (map g xs) node 0) (numbers ys) ≡ most_of g ys
longest_is g xs [] h = refl
longest_is g xs (y ∷ ys) h =
    ap (λ (k : ℕ). max (suc k) (longest (λ node. get_or (map g xs) node 0) (numbers ys))) (entry_at g xs y.number y h.0)
    ∙ ap (max (suc (g y))) (longest_is g xs ys h.1)

none_follow : (all : List Declared) (xs : List Struct) → map (λ next. 0) (map (row all) xs) ≡ map (followers all zero) xs
none_follow all [] = refl
none_follow all (x ∷ xs) = ap (λ (ns : List ℕ). 0 ∷ ns) (none_follow all xs)

more_follow : (all : List Declared) (n : ℕ) (xs : List Struct) → round (map (row all) xs) (map (followers all n) (structs all)) ≡ map (followers all (suc n)) xs
more_follow all n [] = refl
more_follow all n (x ∷ xs) =
    ap (λ (k : ℕ). k ∷ round (map (row all) xs) (map (followers all n) (structs all))) (longest_is (followers all n) (structs all) (next_structs all x) (next_at all x))
    ∙ ap (λ (ns : List ℕ). followers all (suc n) x ∷ ns) (more_follow all n xs)

rounds : (all : List Declared) (n : ℕ) → all_followers (map (row all) (structs all)) n ≡ map (followers all n) (structs all)
unfolding all_followers
rounds all zero = none_follow all (structs all)
rounds all (suc n) = ap (round (map (row all) (structs all))) (rounds all n) ∙ more_follow all n (structs all)

-- how many follow in the graph of all structs
pub graph_followers : (all : List Declared) (graph : List (List ℕ)) (out : List ℕ) → graph ≡ map (next_numbers all) (numbered.structs all) → out ≡ all_followers graph 64 → out ≡ depths all
unfolding depths
graph_followers all graph out e is = is ∙ ap (λ (g : List (List ℕ)). all_followers g 64) (e ∙ rows_from all none_yet all) ∙ rounds all max_chain
