-- The function `main::main`, by its number.
use Rattle.std.proofs.Common.{◌≡◌, ℕ, zero, suc, ◌<◌, ◌≤◌, Bool, ◌&&◌, List, [], ◌∷◌, ◌++◌, length, map, get_or, Option, Some, None, option_map, refl, sym, ap, ◌∙◌, subst, arith, append_assoc}
use Rattle.std.specs.Prelude.{slice_get}
use Rattle.type_table.specs.declared.row.Row.{Row}
use Rattle.lar_tree.specs.Items.{PlainFn}
use Rattle.lar_tree.specs.ItemView.{fn_view}
use Rattle.lar_tree.specs.Stmts.{IfThere}
use Rattle.lar_rules.specs.Declared.{What, a_module, a_struct, a_const, a_function, Declared, Places, past, Function}
use Rattle.lar_rules.specs.Faults.{none_yet, has_none, is_unit_there, is_lawful_main, main_meant}
use Rattle.lar_rules.specs.Generics.{function_generics}
use Rattle.lar_rules.specs.Signatures.{list_in}
use Rattle.lar_sound.specs.Items.{HoldsAt, EachItem}
use Rattle.lar_sound.proofs.ItemsMeant.{main_meant_holds}
use Rattle.lar_names.specs.declared.items.FunctionItem.{FunctionItem}
use Rattle.lar_names.specs.Items.{function_item}
use Rattle.lar_names.specs.Numbered.{with_first, function_of, functions, function_at, function_numbered}
use Rattle.lar_written.specs.Standing.{number_type, Inside}
use Rattle.lar_signatures.specs.declared.function.FunctionSignature.{FunctionSignature}
use Rattle.lar_signatures.specs.Signatures.{FunctionStands}
use Rattle.lar_signatures.specs.EachStands.{IfStands}

-- EACH FUNCTION STANDS AT ITS NUMBER

abbrev IsAt : List (Declared × PlainFn) → Function → Type 0
IsAt ps y = option_map (function_at y.number) (slice_get ps y.number) ≡ Some y

get_behind : (pre : List (Declared × PlainFn)) (p : Declared × PlainFn) (post : List (Declared × PlainFn)) (n : ℕ) → n ≡ length pre → slice_get (pre ++ p ∷ post) n ≡ Some p
get_behind [] p post zero e = refl
get_behind [] p post (suc n) e = absurd (omega arith)
get_behind (q ∷ pre) p post zero e = absurd (omega arith)
get_behind (q ∷ pre) p post (suc n) e = get_behind pre p post n (omega arith)

length_behind : (pre : List (Declared × PlainFn)) (p : Declared × PlainFn) → length (pre ++ p ∷ []) ≡ suc (length pre)
length_behind [] p = refl
length_behind (q ∷ pre) p = ap suc (length_behind pre p)

abbrev Anything : {A : Type 0} → A → Type 0
Anything x = Unit {0}

one_at : (pre : List (Declared × PlainFn)) (p : Places) (d : Declared) (w : What) (ds : List Declared) → p.functions ≡ length pre
    → ((qs : List (Declared × PlainFn)) (q : Places) → q.functions ≡ length qs → EachItem Anything (IsAt (qs ++ functions ds)) Anything q ds)
    → HoldsAt Anything (IsAt (pre ++ with_first (function_of d w) (functions ds))) Anything p d w
    × EachItem Anything (IsAt (pre ++ with_first (function_of d w) (functions ds))) Anything (past p w) ds
one_at pre p d a_module ds e more = (tt, more pre p e)
one_at pre p d (a_const c) ds e more = (tt, more pre (past p (a_const c)) e)
one_at pre p d (a_struct s) ds e more = (tt, more pre (past p (a_struct s)) e)
one_at pre p d (a_function f) ds e more =
    let q : Places = past p (a_function f) in
    let k : q.functions ≡ length (pre ++ (d, f) ∷ []) = ap suc e ∙ sym (length_behind pre (d, f)) in (
      ap (option_map (function_at p.functions)) (get_behind pre (d, f) (functions ds) p.functions e),
      subst (λ (xs : List (Declared × PlainFn)). EachItem Anything (IsAt xs) Anything q ds) (append_assoc pre ((d, f) ∷ []) (functions ds)) (more (pre ++ (d, f) ∷ []) q k),
    )

each_at : (pre : List (Declared × PlainFn)) (p : Places) (ds : List Declared) → p.functions ≡ length pre → EachItem Anything (IsAt (pre ++ functions ds)) Anything p ds
each_at pre p [] e = tt
each_at pre p (d ∷ ds) e = one_at pre p d d.what ds e (λ qs q f. each_at qs q ds f)

there : {A : Type 0} (P : A → Type 0) (o : Option A) (x : A) → IfThere P o → o ≡ Some x → P x
there P None x h e = absurd (let no : ⊥ = cc in no)
there P (Some y) x h e = let same : y ≡ x = cc in subst P same h

-- the function that `main::main` means is the one of its number
pub main_numbered : (all : List Declared) (x : Function) → main_meant all ≡ Some x → function_numbered all x.number ≡ Some x
main_numbered all x e = there (IsAt (functions all)) (main_meant all) x (main_meant_holds Anything (IsAt (functions all)) Anything all (each_at [] none_yet all refl)) e

-- WHAT IS SAID OF IT

pub get_there : {A : Type 0} (xs : List A) (n : ℕ) (x : A) → n < length xs → x ≡ get_or xs n x → slice_get xs n ≡ Some x
get_there [] n x below e = absurd (omega arith)
get_there (y ∷ xs) zero x below e = ap Some (sym e)
get_there (y ∷ xs) (suc n) x below e = get_there xs n x (omega arith) e

pub get_gone : {A : Type 0} (xs : List A) (n : ℕ) → length xs ≤ n → slice_get xs n ≡ None
get_gone [] n past_end = refl
get_gone (y ∷ xs) zero past_end = absurd (omega arith)
get_gone (y ∷ xs) (suc n) past_end = get_gone xs n (omega arith)

pub sig_inside : (rows : List Row) (all : List Declared) (f : FunctionSignature) (o : Option Function) → IfStands (FunctionStands rows all) (Some f) o → Inside rows f.outcome
sig_inside rows all f None h = absurd h
sig_inside rows all f (Some x) h = (h.outcome_stands).within

-- the signature that was found
pub sig_found : (rows : List Row) (all : List Declared) (sigs fs : List FunctionSignature) (n : ℕ) (f : FunctionSignature) (o : Option Function) → IfStands (FunctionStands rows all) (slice_get fs n) o → sigs ≡ fs → n < length sigs → f ≡ get_or sigs n f
    → IfStands (FunctionStands rows all) (Some f) o
sig_found rows all sigs fs n f o h e below at =
    subst (λ (s : Option FunctionSignature). IfStands (FunctionStands rows all) s o) (ap (λ (xs : List FunctionSignature). slice_get xs n) (sym e) ∙ get_there sigs n f below at) h

pub sig_missing : (rows : List Row) (all : List Declared) (o : Option FunctionSignature) (x : Function) (y : Option Function) → IfStands (FunctionStands rows all) o y → o ≡ None → y ≡ Some x → ⊥
sig_missing rows all None x None h e g = let no : ⊥ = cc in no
sig_missing rows all None x (Some y) h e g = h
sig_missing rows all (Some f) x y h e g = let no : ⊥ = cc in no

item_numbered : (lists : List (List (List ℕ))) (items : List FunctionItem) (n k : ℕ) (i : FunctionItem) → slice_get items n ≡ Some i → option_map (function_at k) (slice_get (map (function_item lists) items) n) ≡ Some (function_at k (function_item lists i))
item_numbered lists [] n k i e = absurd (let no : ⊥ = cc in no)
item_numbered lists (j ∷ items) zero k i e = let same : j ≡ i = cc in ap (λ (y : FunctionItem). Some (function_at k (function_item lists y))) same
item_numbered lists (j ∷ items) (suc n) k i e = item_numbered lists items n k i e

-- where the item and the signature of a function are found, it is lawful exactly where these say so
pub main_is : (rows : List Row) (all : List Declared) (lists : List (List (List ℕ))) (items : List FunctionItem) (n : ℕ) (i : FunctionItem) (f : FunctionSignature) (x : Function)
    → slice_get items n ≡ Some i → map (function_item lists) items ≡ functions all → function_numbered all n ≡ Some x → IfStands (FunctionStands rows all) (Some f) (function_numbered all n)
    → (has_none (function_generics (fn_view (i.it).now).generics) && (has_none (list_in (fn_view (i.it).now).params) && is_unit_there (number_type rows f.outcome))) ≡ is_lawful_main all (Some x)
main_is rows all lists items n i f x at items_are numbered stands =
    let y : Function = function_at n (function_item lists i) in
    let s : FunctionStands rows all f x = subst (λ (o : Option Function). IfStands (FunctionStands rows all) (Some f) o) numbered stands in
    let g : Some y ≡ Some x = sym (item_numbered lists items n n i at) ∙ ap (λ (ps : List (Declared × PlainFn)). option_map (function_at n) (slice_get ps n)) items_are ∙ numbered in
    let same : y ≡ x = cc in
    ap (λ (z : Function). has_none (function_generics z.it.generics) && (has_none (list_in z.it.params) && is_unit_there (number_type rows f.outcome))) same
    ∙ ap (λ o. has_none (function_generics x.it.generics) && (has_none (list_in x.it.params) && is_unit_there o)) (s.outcome_stands).is

-- the same of main::main by its number
pub main_by_number : (all : List Declared) (n : ℕ) (b : Bool) (o : Option Function) → Some n ≡ option_map (λ (x : Function). x.number) o → main_meant all ≡ o
    → ((x : Function) → function_numbered all n ≡ Some x → b ≡ is_lawful_main all (Some x)) → b ≡ is_lawful_main all (main_meant all)
main_by_number all n b None e is h = absurd (let no : ⊥ = cc in no)
main_by_number all n b (Some x) e is h =
    let same : n ≡ x.number = cc in
    h x (ap (function_numbered all) same ∙ main_numbered all x is) ∙ ap (is_lawful_main all) (sym is)
