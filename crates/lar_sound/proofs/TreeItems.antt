-- The typed program has each item at its place.
use Rattle.std.proofs.Common.{◌≡◌, ℕ, zero, suc, ◌+◌, ◌<◌, ◌≤◌, refl, sym, ap, ◌∙◌, subst as transport, arith, zero-add, add-zero, List, [], ◌∷◌, length, slice_get, Option, Some, None}
use Rattle.lar_typed.specs.Trees.{PlainTree, PlainFunction as TypedFunction, PlainStruct as TypedStruct}
use Rattle.lar_typed.specs.declared.tree.TypedConst.{TypedConst}
use Rattle.lar_tree.specs.Items.{PlainStruct, PlainFn}
use Rattle.lar_tree.specs.Lawful.{Every}
use Rattle.lar_rules.specs.Declared.{What, a_module, a_struct, a_const, a_function, Declared, Places, past, Struct, Function}
use Rattle.lar_rules.specs.Faults.{none_yet, one_less, past_limit}
use Rattle.lar_rules.specs.Checked.{typed_struct, typed_function, typed_const, with_struct, with_function, with_const, with_item, tree_from}
use Rattle.lar_sound.specs.Known.{IsFaultless}
use Rattle.lar_sound.specs.Items.{HoldsAt, EachItem}
use Rattle.lar_sound.proofs.Known.{some_same, none_some}

abbrev pub struct_at : Places → Declared → PlainStruct → Struct
struct_at p d s = record { number = p.structs; from = d; it = s }

abbrev pub function_at : Places → Declared → PlainFn → Function
function_at p d f = record { number = p.functions; from = d; it = f }

abbrev pub more_structs : TypedStruct → PlainTree → PlainTree
more_structs y u = record u { structs = y ∷ u.structs }

abbrev pub more_functions : TypedFunction → PlainTree → PlainTree
more_functions y u = record u { functions = y ∷ u.functions }

abbrev pub more_consts : TypedConst → PlainTree → PlainTree
more_consts c u = record u { consts = c ∷ u.consts }

-- how the program t is made of an item and the program u of the items after it
abbrev pub Split : List Declared → Places → Declared → What → PlainTree → PlainTree → Type 0
Split all p d a_module u t = u ≡ t
Split all p d (a_struct s) u t =
    (y : TypedStruct) × (typed_struct all (struct_at p d s) ≡ Some y) × (more_structs y u ≡ t)
Split all p d (a_const c) u t = more_consts (typed_const d c) u ≡ t
Split all p d (a_function f) u t =
    (y : TypedFunction) × (typed_function all (function_at p d f) ≡ Some y) × (more_functions y u ≡ t)

split_struct : (a : Option TypedStruct) (o : Option PlainTree) (t : PlainTree) → with_struct a o ≡ Some t
    → (u : PlainTree) × (o ≡ Some u) × (y : TypedStruct) × (a ≡ Some y) × (more_structs y u ≡ t)
split_struct None o t e = absurd (none_some t e)
split_struct (Some y) None t e = absurd (none_some t e)
split_struct (Some y) (Some u) t e = (u, refl, y, refl, some_same (more_structs y u) t e)

split_function : (a : Option TypedFunction) (o : Option PlainTree) (t : PlainTree) → with_function a o ≡ Some t
    → (u : PlainTree) × (o ≡ Some u) × (y : TypedFunction) × (a ≡ Some y) × (more_functions y u ≡ t)
split_function None o t e = absurd (none_some t e)
split_function (Some y) None t e = absurd (none_some t e)
split_function (Some y) (Some u) t e = (u, refl, y, refl, some_same (more_functions y u) t e)

split_const : (c : TypedConst) (o : Option PlainTree) (t : PlainTree) → with_const c o ≡ Some t
    → (u : PlainTree) × (o ≡ Some u) × (more_consts c u ≡ t)
split_const c None t e = absurd (none_some t e)
split_const c (Some u) t e = (u, refl, some_same (more_consts c u) t e)

pub split : (all : List Declared) (p : Places) (d : Declared) (w : What) (o : Option PlainTree) (t : PlainTree)
    → with_item all p d w o ≡ Some t → (u : PlainTree) × (o ≡ Some u) × Split all p d w u t
split all p d a_module None t e = absurd (none_some t e)
split all p d a_module (Some u) t e = (u, refl, some_same u t e)
split all p d (a_struct s) o t e =
    let r = split_struct (typed_struct all (struct_at p d s)) o t e in (r.0, r.1, (r.2, r.3, r.4))
split all p d (a_const c) o t e = split_const (typed_const d c) o t e
split all p d (a_function f) o t e =
    let r = split_function (typed_function all (function_at p d f)) o t e in (r.0, r.1, (r.2, r.3, r.4))

-- AT ITS PLACE

-- the program u has what the program whole has from these places on
pub record IsBehind (whole : PlainTree) (p : Places) (u : PlainTree) : Type 0 where
  pub structs : (i : ℕ) → slice_get whole.structs (p.structs + i) ≡ slice_get u.structs i
  pub functions : (i : ℕ) → slice_get whole.functions (p.functions + i) ≡ slice_get u.functions i
  pub consts : length whole.consts ≡ p.consts + length u.consts

pub behind_itself : (whole : PlainTree) → IsBehind whole none_yet whole
behind_itself whole = record {
  structs = λ i. ap (slice_get whole.structs) (zero-add i);
  functions = λ i. ap (slice_get whole.functions) (zero-add i);
  consts = sym (zero-add (length whole.consts));
}

-- a struct and a function are typed, and stand at their places
pub record StructThere (whole : PlainTree) (all : List Declared) (x : Struct) : Type 0 where
  pub it : TypedStruct
  pub typed : typed_struct all x ≡ Some it
  pub there : slice_get whole.structs x.number ≡ Some it

pub record FunctionThere (whole : PlainTree) (all : List Declared) (x : Function) : Type 0 where
  pub it : TypedFunction
  pub typed : typed_function all x ≡ Some it
  pub there : slice_get whole.functions x.number ≡ Some it

abbrev There : PlainTree → List Declared → Places → Declared → What → Type 0
There whole all p d w =
    HoldsAt (StructThere whole all) (FunctionThere whole all) (λ (n : ℕ). n < length whole.consts) p d w

item_there : (whole : PlainTree) (all : List Declared) (p : Places) (d : Declared) (w : What) (u t : PlainTree)
    → Split all p d w u t → IsBehind whole p t → IsBehind whole (past p w) u × There whole all p d w
item_there whole all p d a_module u t e b = (transport (IsBehind whole p) (sym e) b, tt)
item_there whole all p d (a_struct s) u t e b =
    let c : IsBehind whole p (more_structs e.0 u) = transport (IsBehind whole p) (sym e.2) b in (
      record {
        structs = λ i. ap (slice_get whole.structs) (let k : suc p.structs + i ≡ p.structs + suc i = omega arith in k)
            ∙ c.structs (suc i);
        functions = c.functions;
        consts = c.consts;
      },
      record { it = e.0; typed = e.1; there = ap (slice_get whole.structs) (sym (add-zero p.structs)) ∙ c.structs 0 },
    )
item_there whole all p d (a_const x) u t e b =
    let c : IsBehind whole p (more_consts (typed_const d x) u) = transport (IsBehind whole p) (sym e) b in
    let k : length whole.consts ≡ p.consts + suc (length u.consts) = c.consts in
    (record { structs = c.structs; functions = c.functions; consts = omega (arith, k) }, omega (arith, k))
item_there whole all p d (a_function f) u t e b =
    let c : IsBehind whole p (more_functions e.0 u) = transport (IsBehind whole p) (sym e.2) b in (
      record {
        structs = c.structs;
        functions =
            λ i. ap (slice_get whole.functions) (let k : suc p.functions + i ≡ p.functions + suc i = omega arith in k)
            ∙ c.functions (suc i);
        consts = c.consts;
      },
      record {
        it = e.0;
        typed = e.1;
        there = ap (slice_get whole.functions) (sym (add-zero p.functions))
            ∙ c.functions 0;
      },
    )

pub items_there : (whole : PlainTree) (all : List Declared) (p : Places) (ds : List Declared) (t : PlainTree)
    → tree_from all p ds ≡ Some t → IsBehind whole p t
    → EachItem (StructThere whole all) (FunctionThere whole all) (λ (n : ℕ). n < length whole.consts) p ds
items_there whole all p [] t e b = tt
items_there whole all p (d ∷ ds) t e b =
    let r = split all p d d.what (tree_from all (past p d.what) ds) t e in
    let w = item_there whole all p d d.what r.0 t r.2 b in
    (w.1, items_there whole all (past p d.what) ds r.0 r.1 w.0)

-- EACH OF THEM

item_each : (S : TypedStruct → Type 0) (F : TypedFunction → Type 0) (all : List Declared) (p : Places) (d : Declared)
    (w : What) (u t : PlainTree) → Split all p d w u t
    → HoldsAt (λ (x : Struct). (y : TypedStruct) → typed_struct all x ≡ Some y → S y)
    (λ (x : Function). (y : TypedFunction) → typed_function all x ≡ Some y → F y) (λ (n : ℕ). Unit {0}) p d w
    → Every S u.structs × Every F u.functions → Every S t.structs × Every F t.functions
item_each S F all p d a_module u t e h r = transport (λ (v : PlainTree). Every S v.structs × Every F v.functions) e r
item_each S F all p d (a_struct s) u t e h r =
    transport (λ (v : PlainTree). Every S v.structs × Every F v.functions) e.2 ((h e.0 e.1, r.0), r.1)
item_each S F all p d (a_const c) u t e h r = transport (λ (v : PlainTree). Every S v.structs × Every F v.functions) e r
item_each S F all p d (a_function f) u t e h r =
    transport (λ (v : PlainTree). Every S v.structs × Every F v.functions) e.2 (r.0, (h e.0 e.1, r.1))

-- what holds of each item where it is typed holds of each struct and each function of the program
pub each_typed : (S : TypedStruct → Type 0) (F : TypedFunction → Type 0) (all : List Declared) (p : Places)
    (ds : List Declared) (t : PlainTree) → tree_from all p ds ≡ Some t
    → EachItem (λ (x : Struct). (y : TypedStruct) → typed_struct all x ≡ Some y → S y)
    (λ (x : Function). (y : TypedFunction) → typed_function all x ≡ Some y → F y) (λ (n : ℕ). Unit {0}) p ds
    → Every S t.structs × Every F t.functions
each_typed S F all p [] t e h = transport (λ (v : PlainTree). Every S v.structs × Every F v.functions) (some_same _ t e)
    (tt, tt)
each_typed S F all p (d ∷ ds) t e h =
    let r = split all p d d.what (tree_from all (past p d.what) ds) t e in
    item_each S F all p d d.what r.0 t r.2 h.0 (each_typed S F all (past p d.what) ds r.0 r.1 h.1)

-- HOW MANY

item_few : (all : List Declared) (p : Places) (d : Declared) (w : What) (ds : List Declared) (u t : PlainTree) (n : ℕ)
    → Split all p d w u t → IsFaultless (one_less d w n (past_limit ds))
    → ((m : ℕ) → IsFaultless (past_limit ds m) → length u.functions ≤ m) → length t.functions ≤ n
item_few all p d a_module ds u t n e h r = transport (λ (v : PlainTree). length v.functions ≤ n) e (r n h)
item_few all p d (a_struct s) ds u t n e h r = transport (λ (v : PlainTree). length v.functions ≤ n) e.2 (r n h)
item_few all p d (a_const c) ds u t n e h r = transport (λ (v : PlainTree). length v.functions ≤ n) e (r n h)
item_few all p d (a_function f) ds u t zero e h r = absurd h
item_few all p d (a_function f) ds u t (suc n) e h r =
    let k : length u.functions ≤ n = r n h in
    transport (λ (v : PlainTree). length v.functions ≤ suc n) e.2 (omega (arith, k))

pub few_functions : (all : List Declared) (p : Places) (ds : List Declared) (t : PlainTree) (n : ℕ)
    → tree_from all p ds ≡ Some t → IsFaultless (past_limit ds n) → length t.functions ≤ n
few_functions all p [] t n e h = transport (λ (v : PlainTree). length v.functions ≤ n) (some_same _ t e) (omega arith)
few_functions all p (d ∷ ds) t n e h =
    let r = split all p d d.what (tree_from all (past p d.what) ds) t e in
    item_few all p d d.what ds r.0 t n r.2 h (λ m k. few_functions all (past p d.what) ds r.0 m r.1 k)
