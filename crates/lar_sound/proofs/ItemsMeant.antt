-- What holds of each item holds of the one that a path or a number means.
use Rattle.std.proofs.Common.{◌≡◌, ℕ, zero, suc, ◌+◌, refl, ap, subst as transport, arith, Bool, true, false, if◌then◌else◌, List, [], ◌∷◌, Option, Some, None, option_and_then}
use Rattle.lar_tree.specs.declared.name.Path.{Path}
use Rattle.lar_tree.specs.Stmts.{IfThere}
use Rattle.lar_rules.specs.Declared.{What, a_module, a_struct, a_const, a_function, Declared, Places, past, is_named, meant_from, Struct, Function, as_struct, as_const, as_function, path_meant, struct_meant, const_meant, function_meant}
use Rattle.lar_rules.specs.Signatures.{this_or_later, struct_from, struct_numbered}
use Rattle.lar_rules.specs.Structs.{struct_faults}
use Rattle.lar_rules.specs.Functions.{function_faults}
use Rattle.lar_rules.specs.Faults.{item_faults, faults_from, none_yet, main_meant}
use Rattle.lar_sound.specs.Known.{IsFaultless}
use Rattle.lar_sound.specs.Items.{HoldsAt, EachItem}
use Rattle.lar_sound.proofs.Known.{faultless_parts}

abbrev Found : (Struct → Type 0) → (Function → Type 0) → (ℕ → Type 0) → Places × Declared → Type 0
Found S F C m = HoldsAt S F C m.0 m.1 (m.1).what

abbrev IfFound : (Struct → Type 0) → (Function → Type 0) → (ℕ → Type 0) → Option (Places × Declared) → Type 0
IfFound S F C None = Unit {0}
IfFound S F C (Some m) = Found S F C m

one_meant : (S : Struct → Type 0) (F : Function → Type 0) (C : ℕ → Type 0) (p : Places) (d : Declared) (b : Bool)
    (o : Option (Places × Declared)) → HoldsAt S F C p d d.what → IfFound S F C o
    → IfFound S F C (if b then Some (p, d) else o)
one_meant S F C p d true o h k = h
one_meant S F C p d false o h k = k

meant_holds : (S : Struct → Type 0) (F : Function → Type 0) (C : ℕ → Type 0) (p : Places) (modules : List (List ℕ))
    (name : List ℕ) (ds : List Declared) → EachItem S F C p ds → IfFound S F C (meant_from p modules name ds)
meant_holds S F C p modules name [] h = tt
meant_holds S F C p modules name (d ∷ ds) h =
    one_meant S F C p d (is_named modules name d) (meant_from (past p d.what) modules name ds) h.0
    (meant_holds S F C (past p d.what) modules name ds h.1)

as_struct_holds : (S : Struct → Type 0) (F : Function → Type 0) (C : ℕ → Type 0) (m : Places × Declared) (w : What)
    → HoldsAt S F C m.0 m.1 w → IfThere S (as_struct m w)
as_struct_holds S F C m a_module h = tt
as_struct_holds S F C m (a_struct s) h = h
as_struct_holds S F C m (a_const c) h = tt
as_struct_holds S F C m (a_function f) h = tt

as_const_holds : (S : Struct → Type 0) (F : Function → Type 0) (C : ℕ → Type 0) (m : Places × Declared) (w : What)
    → HoldsAt S F C m.0 m.1 w → IfThere C (as_const m w)
as_const_holds S F C m a_module h = tt
as_const_holds S F C m (a_struct s) h = tt
as_const_holds S F C m (a_const c) h = h
as_const_holds S F C m (a_function f) h = tt

as_function_holds : (S : Struct → Type 0) (F : Function → Type 0) (C : ℕ → Type 0) (m : Places × Declared) (w : What)
    → HoldsAt S F C m.0 m.1 w → IfThere F (as_function m w)
as_function_holds S F C m a_module h = tt
as_function_holds S F C m (a_struct s) h = tt
as_function_holds S F C m (a_const c) h = tt
as_function_holds S F C m (a_function f) h = h

struct_in : (S : Struct → Type 0) (F : Function → Type 0) (C : ℕ → Type 0) (o : Option (Places × Declared))
    → IfFound S F C o → IfThere S (option_and_then (λ m. as_struct m ((m.1).what)) o)
struct_in S F C None h = tt
struct_in S F C (Some m) h = as_struct_holds S F C m ((m.1).what) h

const_in : (S : Struct → Type 0) (F : Function → Type 0) (C : ℕ → Type 0) (o : Option (Places × Declared))
    → IfFound S F C o → IfThere C (option_and_then (λ m. as_const m ((m.1).what)) o)
const_in S F C None h = tt
const_in S F C (Some m) h = as_const_holds S F C m ((m.1).what) h

function_in : (S : Struct → Type 0) (F : Function → Type 0) (C : ℕ → Type 0) (o : Option (Places × Declared))
    → IfFound S F C o → IfThere F (option_and_then (λ m. as_function m ((m.1).what)) o)
function_in S F C None h = tt
function_in S F C (Some m) h = as_function_holds S F C m ((m.1).what) h

pub struct_meant_holds : (S : Struct → Type 0) (F : Function → Type 0) (C : ℕ → Type 0) (all : List Declared)
    (here : List (List ℕ)) (p : Path) → EachItem S F C none_yet all → IfThere S (struct_meant all here p)
struct_meant_holds S F C all here p h = struct_in S F C (path_meant all here p) (meant_holds S F C none_yet _ _ all h)

pub const_meant_holds : (S : Struct → Type 0) (F : Function → Type 0) (C : ℕ → Type 0) (all : List Declared)
    (here : List (List ℕ)) (p : Path) → EachItem S F C none_yet all → IfThere C (const_meant all here p)
const_meant_holds S F C all here p h = const_in S F C (path_meant all here p) (meant_holds S F C none_yet _ _ all h)

pub function_meant_holds : (S : Struct → Type 0) (F : Function → Type 0) (C : ℕ → Type 0) (all : List Declared)
    (here : List (List ℕ)) (p : Path) → EachItem S F C none_yet all → IfThere F (function_meant all here p)
function_meant_holds S F C all here p h =
    function_in S F C (path_meant all here p) (meant_holds S F C none_yet _ _ all h)

pub main_meant_holds : (S : Struct → Type 0) (F : Function → Type 0) (C : ℕ → Type 0) (all : List Declared)
    → EachItem S F C none_yet all → IfThere F (main_meant all)
main_meant_holds S F C all h = function_in S F C _ (meant_holds S F C none_yet _ _ all h)

-- the struct with a number, which is its own
abbrev Numbered : (Struct → Type 0) → ℕ → Struct → Type 0
Numbered S n x = S x × (x.number ≡ n)

this_holds : (S : Struct → Type 0) (F : Function → Type 0) (C : ℕ → Type 0) (p : Places) (d : Declared) (w : What)
    (ds : List Declared) (n k m : ℕ) → p.structs ≡ k → k + n ≡ m → HoldsAt S F C p d w
    → ((i j : ℕ) → (past p w).structs ≡ j → j + i ≡ m → IfThere (Numbered S m) (struct_from ds i j))
    → IfThere (Numbered S m) (this_or_later d w n k (struct_from ds))
this_holds S F C p d a_module ds n k m e f h more = more n k e f
this_holds S F C p d (a_const c) ds n k m e f h more = more n k e f
this_holds S F C p d (a_function g) ds n k m e f h more = more n k e f
this_holds S F C p d (a_struct s) ds zero k m e f h more =
    let g : k ≡ m = omega (arith, f) in
    (transport (λ (i : ℕ). S (let x : Struct = record { number = i; from = d; it = s } in x)) e h, g)
this_holds S F C p d (a_struct s) ds (suc n) k m e f h more = more n (suc k) (ap suc e) (omega (arith, f))

struct_from_holds : (S : Struct → Type 0) (F : Function → Type 0) (C : ℕ → Type 0) (p : Places) (ds : List Declared)
    (n k m : ℕ) → p.structs ≡ k → k + n ≡ m → EachItem S F C p ds → IfThere (Numbered S m) (struct_from ds n k)
struct_from_holds S F C p [] n k m e f h = tt
struct_from_holds S F C p (d ∷ ds) n k m e f h =
    this_holds S F C p d d.what ds n k m e f h.0
    (λ i j e2 f2. struct_from_holds S F C (past p d.what) ds i j m e2 f2 h.1)

pub struct_numbered_holds : (S : Struct → Type 0) (F : Function → Type 0) (C : ℕ → Type 0) (all : List Declared) (n : ℕ)
    → EachItem S F C none_yet all → IfThere (λ (x : Struct). S x × (x.number ≡ n)) (struct_numbered all n)
struct_numbered_holds S F C all n h = struct_from_holds S F C none_yet all n 0 n refl (omega arith) h

-- EACH ITEM

pub each_map : (S T : Struct → Type 0) (F G : Function → Type 0) (C D : ℕ → Type 0) (p : Places) (ds : List Declared)
    → ((x : Struct) → S x → T x) → ((x : Function) → F x → G x) → ((n : ℕ) → C n → D n) → EachItem S F C p ds
    → EachItem T G D p ds
each_map S T F G C D p [] f g c h = tt
each_map S T F G C D p (d ∷ ds) f g c h = (one d.what h.0, each_map S T F G C D (past p d.what) ds f g c h.1)
  where
    one : (w : What) → HoldsAt S F C p d w → HoldsAt T G D p d w
    one a_module k = tt
    one (a_struct s) k = f _ k
    one (a_const x) k = c _ k
    one (a_function x) k = g _ k

pub each_both : (S T : Struct → Type 0) (F G : Function → Type 0) (C D : ℕ → Type 0) (p : Places) (ds : List Declared)
    → EachItem S F C p ds → EachItem T G D p ds
    → EachItem (λ (x : Struct). S x × T x) (λ (x : Function). F x × G x) (λ (n : ℕ). C n × D n) p ds
each_both S T F G C D p [] h k = tt
each_both S T F G C D p (d ∷ ds) h k = (one d.what h.0 k.0, each_both S T F G C D (past p d.what) ds h.1 k.1)
  where
    one : (w : What) → HoldsAt S F C p d w → HoldsAt T G D p d w
        → HoldsAt (λ (x : Struct). S x × T x) (λ (x : Function). F x × G x) (λ (n : ℕ). C n × D n) p d w
    one a_module i j = tt
    one (a_struct s) i j = (i, j)
    one (a_const x) i j = (i, j)
    one (a_function x) i j = (i, j)

-- no item has a fault where no fault is found
pub each_faultless : (all : List Declared) (p : Places) (ds : List Declared) → IsFaultless (faults_from all p ds)
    → EachItem (λ (x : Struct). IsFaultless (struct_faults all x))
    (λ (x : Function). IsFaultless (function_faults all x)) (λ (n : ℕ). Unit {0}) p ds
each_faultless all p [] h = tt
each_faultless all p (d ∷ ds) h =
    let q = faultless_parts (item_faults all p d d.what) (faults_from all (past p d.what) ds) h in
    (one d.what q.0, each_faultless all (past p d.what) ds q.1)
  where
    one : (w : What) → IsFaultless (item_faults all p d w)
        → HoldsAt (λ (x : Struct). IsFaultless (struct_faults all x))
        (λ (x : Function). IsFaultless (function_faults all x)) (λ (n : ℕ). Unit {0}) p d w
    one a_module k = tt
    one (a_struct s) k = k
    one (a_const x) k = tt
    one (a_function x) k = k
