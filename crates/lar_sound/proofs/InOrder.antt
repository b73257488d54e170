-- A typed program is made of all that is known of its items, in reading order.
use Rattle.std.proofs.Common.{◌≡◌, refl, sym, ap, ◌∙◌, List, [], ◌∷◌, map, Option, Some, None}
use Rattle.lar_typed.specs.Trees.{PlainTree, PlainFunction as TypedFunction, PlainStruct as TypedStruct}
use Rattle.lar_rules.specs.Declared.{Source, What, a_module, a_struct, a_const, a_function, Declared, Places, past, declared}
use Rattle.lar_rules.specs.Faults.{none_yet, first_fault}
use Rattle.lar_rules.specs.Checked.{typed_struct, typed_const, typed_function, tree_from, typed}
use Rattle.lar_sound.specs.InOrder.{struct_before, const_before, function_before, structs_from, consts_from, functions_from, known_of, known_from, known_tree}
use Rattle.lar_sound.proofs.Known.{some_same}
use Rattle.lar_sound.proofs.ProgramTold.{program_typed}
use Rattle.lar_sound.proofs.TreeItems.{struct_at, function_at, more_structs, more_functions, more_consts, Split, split}

abbrev structs_are : PlainTree → List TypedStruct → PlainTree
structs_are u ys = record u { structs = ys }

abbrev functions_are : PlainTree → List TypedFunction → PlainTree
functions_are u ys = record u { functions = ys }

-- the structs behind a struct, and the functions behind a function, with what is known of it
abbrev structs_with : List Declared → Places → List Declared → Option TypedStruct → List TypedStruct
structs_with all p ds o = known_of (o ∷ map (typed_struct all) (structs_from p ds))

abbrev functions_with : List Declared → Places → List Declared → Option TypedFunction → List TypedFunction
functions_with all p ds o = known_of (o ∷ map (typed_function all) (functions_from p ds))

-- what is known of the declarations from d on, told by what d is
abbrev with_item_known : List Declared → Places → Declared → What → List Declared → PlainTree
with_item_known all p d a_module ds = known_from all p ds
with_item_known all p d (a_struct s) ds =
    structs_are (known_from all (past p (a_struct s)) ds)
    (structs_with all (past p (a_struct s)) ds (typed_struct all (struct_at p d s)))
with_item_known all p d (a_const c) ds = more_consts (typed_const d c) (known_from all (past p (a_const c)) ds)
with_item_known all p d (a_function f) ds =
    functions_are (known_from all (past p (a_function f)) ds)
    (functions_with all (past p (a_function f)) ds (typed_function all (function_at p d f)))

item_known : (all : List Declared) (p : Places) (d : Declared) (w : What) (ds : List Declared) (u t : PlainTree)
    → Split all p d w u t → known_from all (past p w) ds ≡ u → with_item_known all p d w ds ≡ t
item_known all p d a_module ds u t e h = h ∙ e
item_known all p d (a_struct s) ds u t e h =
    let q = past p (a_struct s) in
    ap (λ (o : Option TypedStruct). structs_are (known_from all q ds) (structs_with all q ds o)) e.1
    ∙ ap (more_structs e.0) h ∙ e.2
item_known all p d (a_const c) ds u t e h = ap (more_consts (typed_const d c)) h ∙ e
item_known all p d (a_function f) ds u t e h =
    let q = past p (a_function f) in
    ap (λ (o : Option TypedFunction). functions_are (known_from all q ds) (functions_with all q ds o)) e.1
    ∙ ap (more_functions e.0) h ∙ e.2

-- the same, told by the lists
abbrev known_cons : List Declared → Places → Declared → What → List Declared → PlainTree
known_cons all p d w ds = record {
  structs = known_of (map (typed_struct all) (struct_before p d w (structs_from (past p w) ds)));
  consts = map (λ c. typed_const c.0 c.1) (const_before d w (consts_from ds));
  functions = known_of (map (typed_function all) (function_before p d w (functions_from (past p w) ds)));
}

cons_known : (all : List Declared) (p : Places) (d : Declared) (w : What) (ds : List Declared)
    → known_cons all p d w ds ≡ with_item_known all p d w ds
cons_known all p d a_module ds = refl
cons_known all p d (a_struct s) ds = refl
cons_known all p d (a_const c) ds = refl
cons_known all p d (a_function f) ds = refl

pub tree_known : (all : List Declared) (p : Places) (ds : List Declared) (t : PlainTree) → tree_from all p ds ≡ Some t
    → known_from all p ds ≡ t
tree_known all p [] t e = some_same (known_from all p []) t e
tree_known all p (d ∷ ds) t e =
    let r = split all p d d.what (tree_from all (past p d.what) ds) t e in
    cons_known all p d d.what ds ∙ item_known all p d d.what ds r.0 t r.2 (tree_known all (past p d.what) ds r.0 r.1)

pub program_known : (sources : List Source) → first_fault sources ≡ None
    → typed sources ≡ Some (known_tree (declared sources))
unfolding typed
program_known sources e =
    let t = program_typed sources e in
    t.1 ∙ ap (λ (x : PlainTree). Some x) (sym (tree_known (declared sources) none_yet (declared sources) t.0 t.1))
