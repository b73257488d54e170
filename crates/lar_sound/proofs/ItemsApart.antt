-- Where no name is defined twice, no two structs and no two functions have one path.
use Rattle.std.proofs.Common.{◌≡◌, ℕ, zero, suc, ◌<◌, refl, sym, ap, ◌∙◌, subst as transport, arith, true≢false, Bool, true, false, ◌&&◌, ◌||◌, if◌then◌else◌, List, [], ◌∷◌, ◌++◌, length, get_or, Some, bytes_eq}
use Rattle.std.proofs.lemmas.Slice.Eq.{bytes_eq-Decides}
use Rattle.lar_typed.specs.Trees.{PlainTree, PlainFunction as TypedFunction, PlainStruct as TypedStruct}
use Rattle.lar_typed.specs.Paths.{item_path}
use Rattle.lar_typed.proofs.SameTypes.{both_true}
use Rattle.lar_tree.specs.Lawful.{Every}
use Rattle.lar_rules.specs.Printed.{joined}
use Rattle.lar_rules.specs.Declared.{What, a_module, a_struct, a_const, a_function, Declared, Places, past, same_modules, Struct, Function}
use Rattle.lar_rules.specs.Twice.{has_item, repeated_items}
use Rattle.lar_rules.specs.Checked.{typed_struct, typed_function, tree_from}
use Rattle.lar_sound.specs.Known.{IsFaultless}
use Rattle.lar_sound.specs.Items.{HoldsAt}
use Rattle.lar_sound.proofs.Known.{faultless_parts, told_false, or_false, some_same}
use Rattle.lar_sound.proofs.EachOf.{every_map, every_both, every_at}
use Rattle.lar_sound.proofs.NamesJoined.{paths_same}
use Rattle.lar_sound.proofs.TreeItems.{struct_at, function_at, Split, split, each_typed}
use Rattle.lar_sound.proofs.SourceItems.{IsGoodWhat, IsGood, each_of_every}
use Rattle.lar_sound.proofs.TypedParts.{struct_parts, function_made}

-- NAMES ARE DIFFERENT

-- an earlier declaration and a later one have one name in one module
abbrev same_item : Declared → Declared → Bool
same_item e d = same_modules e.modules d.modules && bytes_eq e.name.text d.name.text

abbrev Differs : Declared → Declared → Type 0
Differs e d = same_item e d ≡ false

abbrev pub AreApart : List Declared → Type 0
AreApart [] = Unit {0}
AreApart (d ∷ ds) = Every (Differs d) ds × AreApart ds

has_parts : (d e : Declared) (es : List Declared) → has_item d (es ++ e ∷ []) ≡ false
    → (has_item d es ≡ false) × Differs e d
has_parts d e [] h = let p = or_false (same_item e d) false h in (refl, p.0)
has_parts d e (f ∷ fs) h =
    let p = or_false (same_item f d) (has_item d (fs ++ e ∷ [])) h in
    let q = has_parts d e fs p.1 in
    (ap (λ (b : Bool). b || has_item d fs) p.0 ∙ q.0, q.1)

apart_from : (es ds : List Declared) → IsFaultless (repeated_items es ds)
    → Every (λ (d : Declared). has_item d es ≡ false) ds × AreApart ds
apart_from es [] h = (tt, tt)
apart_from es (d ∷ ds) h =
    let p = faultless_parts (if has_item d es then _ ∷ [] else []) (repeated_items (es ++ d ∷ []) ds) h in
    let f : has_item d es ≡ false = told_false (has_item d es) _ p.0 in
    let r = apart_from (es ++ d ∷ []) ds p.1 in (
      (
        f,
        every_map (λ (e : Declared). has_item e (es ++ d ∷ []) ≡ false) (λ (e : Declared). has_item e es ≡ false) ds
            (λ e k. (has_parts e d es k).0) r.0,
      ),
      (
        every_map (λ (e : Declared). has_item e (es ++ d ∷ []) ≡ false) (Differs d) ds
            (λ e k. (has_parts e d es k).1) r.0,
        r.1,
      ),
    )

pub apart : (ds : List Declared) → IsFaultless (repeated_items [] ds) → AreApart ds
apart ds h = (apart_from [] ds h).1

bytes_itself : (xs : List ℕ) → bytes_eq xs xs ≡ true
bytes_itself xs = (bytes_eq-Decides xs xs).1 refl

modules_itself : (ms : List (List ℕ)) → same_modules ms ms ≡ true
modules_itself [] = refl
modules_itself (m ∷ ms) = both_true (bytes_eq m m) (same_modules ms ms) (bytes_itself m) (modules_itself ms)

-- PATHS ARE DIFFERENT

-- the path is not that of a declaration
abbrev Unlike : Declared → List ℕ → Type 0
Unlike d path = item_path (joined d.modules) d.name.text ≡ path → ⊥

unlike : (d e : Declared) → IsGood d → IsGood e → Differs d e → Unlike d (item_path (joined e.modules) e.name.text)
unlike d e g h f k =
    let w = paths_same d.modules e.modules d.name.text e.name.text g.modules h.modules g.named h.named k in
    let same : same_item d e ≡ true = both_true (same_modules d.modules e.modules) (bytes_eq d.name.text e.name.text)
    (transport (λ (ms : List (List ℕ)). same_modules d.modules ms ≡ true) w.0 (modules_itself d.modules))
    (transport (λ (n : List ℕ). bytes_eq d.name.text n ≡ true) w.1 (bytes_itself d.name.text)) in
    true≢false (sym same ∙ f)

abbrev pub struct_path : TypedStruct → List ℕ
struct_path y = item_path y.module_path y.name

abbrev pub function_path : TypedFunction → List ℕ
function_path y = item_path y.module_path y.name

struct_path_is : (all : List Declared) (x : Struct) (y : TypedStruct) → x.from.name ≡ x.it.name
    → typed_struct all x ≡ Some y → struct_path y ≡ item_path (joined x.from.modules) x.from.name.text
struct_path_is all x y e t =
    let p = struct_parts all x y t in
    ap struct_path (sym p.is) ∙ ap (λ n. item_path (joined x.from.modules) n.text) (sym e)

function_path_is : (all : List Declared) (x : Function) (y : TypedFunction) → x.from.name ≡ x.it.name
    → typed_function all x ≡ Some y → function_path y ≡ item_path (joined x.from.modules) x.from.name.text
function_path_is all x y e t =
    let p = function_made all x y t in
    ap function_path (sym p.is) ∙ ap (λ n. item_path (joined x.from.modules) n.text) (sym e)

record Other (d e : Declared) : Type 0 where
  good : IsGood e
  differs : Differs d e

other_at : (all : List Declared) (d : Declared) → IsGood d → (q : Places) (e : Declared) (w : What) → IsGoodWhat e w
    → Other d e
    → HoldsAt (λ (x : Struct). (y : TypedStruct) → typed_struct all x ≡ Some y → Unlike d (struct_path y))
    (λ (x : Function). (y : TypedFunction) → typed_function all x ≡ Some y → Unlike d (function_path y))
    (λ (n : ℕ). Unit {0}) q e w
other_at all d g q e a_module k o = tt
other_at all d g q e (a_struct s) k o =
    λ y t same. unlike d e g o.good o.differs (same ∙ struct_path_is all (struct_at q e s) y k.0 t)
other_at all d g q e (a_const c) k o = tt
other_at all d g q e (a_function f) k o =
    λ y t same. unlike d e g o.good o.differs (same ∙ function_path_is all (function_at q e f) y k.0 t)

unlike_each : (all : List Declared) (d : Declared) (p : Places) (ds : List Declared) (t : PlainTree) → IsGood d
    → Every IsGood ds → Every (Differs d) ds → tree_from all p ds ≡ Some t
    → Every (λ (y : TypedStruct). Unlike d (struct_path y)) t.structs × Every
    (λ (y : TypedFunction). Unlike d (function_path y)) t.functions
unlike_each all d p ds t g h f e =
    each_typed (λ (y : TypedStruct). Unlike d (struct_path y)) (λ (y : TypedFunction). Unlike d (function_path y)) all p
    ds t e
    (each_of_every (Other d) (λ (x : Struct). (y : TypedStruct) → typed_struct all x ≡ Some y
    → Unlike d (struct_path y)) (λ (x : Function). (y : TypedFunction) → typed_function all x ≡ Some y
    → Unlike d (function_path y)) (λ (n : ℕ). Unit {0}) p ds
    (λ q x o. other_at all d g q x x.what (o.good).within o)
    (every_both IsGood (Differs d) (Other d) ds (λ x a b. record { good = a; differs = b }) h f))

-- no two of the list have one path
abbrev pub PathsApart : {A : Type 0} → (A → List ℕ) → List A → Type 0
PathsApart path [] = Unit {0}
PathsApart path (x ∷ xs) = Every (λ y. path x ≡ path y → ⊥) xs × PathsApart path xs

pub apart_at : {A : Type 0} (path : A → List ℕ) (xs : List A) (i j : ℕ) (d : A) → PathsApart path xs → i < length xs
    → j < length xs → path (get_or xs i d) ≡ path (get_or xs j d) → i ≡ j
apart_at path [] i j d h k l e = absurd (omega (arith, k))
apart_at path (x ∷ xs) zero zero d h k l e = refl
apart_at path (x ∷ xs) zero (suc j) d h k l e =
    absurd (every_at (λ y. path x ≡ path y → ⊥) xs j d h.0 (omega (arith, l)) e)
apart_at path (x ∷ xs) (suc i) zero d h k l e =
    absurd (every_at (λ y. path x ≡ path y → ⊥) xs i d h.0 (omega (arith, k)) (sym e))
apart_at path (x ∷ xs) (suc i) (suc j) d h k l e =
    ap suc (apart_at path xs i j d h.1 (omega (arith, k)) (omega (arith, l)) e)

abbrev BothApart : PlainTree → Type 0
BothApart t = PathsApart struct_path t.structs × PathsApart function_path t.functions

item_apart : (all : List Declared) (p : Places) (d : Declared) (w : What) (u t : PlainTree) → IsGoodWhat d w
    → Split all p d w u t
    → Every (λ (y : TypedStruct). Unlike d (struct_path y)) u.structs × Every
    (λ (y : TypedFunction). Unlike d (function_path y)) u.functions → BothApart u → BothApart t
item_apart all p d a_module u t g e n h = transport BothApart e h
item_apart all p d (a_struct s) u t g e n h =
    let is = struct_path_is all (struct_at p d s) e.0 g.0 e.1 in
    transport BothApart e.2 (
      (
        every_map (λ (y : TypedStruct). Unlike d (struct_path y))
            (λ (y : TypedStruct). struct_path e.0 ≡ struct_path y → ⊥) u.structs (λ y f k. f (sym is ∙ k)) n.0,
        h.0,
      ),
      h.1,
    )
item_apart all p d (a_const c) u t g e n h = transport BothApart e h
item_apart all p d (a_function f) u t g e n h =
    let is = function_path_is all (function_at p d f) e.0 g.0 e.1 in
    transport BothApart e.2 (
      h.0,
      (
        every_map (λ (y : TypedFunction). Unlike d (function_path y))
            (λ (y : TypedFunction). function_path e.0 ≡ function_path y → ⊥) u.functions (λ y m k. m (sym is ∙ k)) n.1,
        h.1,
      ),
    )

pub tree_apart : (all : List Declared) (p : Places) (ds : List Declared) (t : PlainTree) → tree_from all p ds ≡ Some t
    → Every IsGood ds → AreApart ds → PathsApart struct_path t.structs × PathsApart function_path t.functions
tree_apart all p [] t e g a = transport BothApart (some_same _ t e) (tt, tt)
tree_apart all p (d ∷ ds) t e g a =
    let r = split all p d d.what (tree_from all (past p d.what) ds) t e in
    item_apart all p d d.what r.0 t (g.0).within r.2 (unlike_each all d (past p d.what) ds r.0 g.0 g.1 a.0 r.1)
    (tree_apart all (past p d.what) ds r.0 r.1 g.1 a.1)
