-- The program of all that is known of its items, and the first fault.
use Rattle.std.proofs.Common.{◌≡◌, ℕ, List, [], ◌∷◌, ◌++◌, map, Option, Some, None, option_map, refl, sym, ap, ◌∙◌, append_assoc}
use Rattle.type_table.specs.declared.row.Row.{Row}
use Rattle.type_table.specs.declared.decl.StructDecl.{StructDecl}
use Rattle.type_table.specs.TypeOf.{TypeOf}
use Rattle.lar_typed.specs.declared.tree.TypedConst.{TypedConst}
use Rattle.lar_typed.specs.declared.tree.TypedFunction.{TypedFunction}
use Rattle.lar_typed.specs.Trees.{PlainTree, PlainStruct, PlainFunction}
use Rattle.lar_typed.specs.TreeView.{contents, plain}
use Rattle.lar_tree.specs.declared.item.Const.{Const}
use Rattle.lar_rules.specs.Fault.{Fault, least}
use Rattle.lar_rules.specs.Declared.{Source, What, a_module, a_struct, a_const, a_function, Declared, Places, past, declared, Struct, Function}
use Rattle.lar_rules.specs.Faults.{none_yet, faults, fault_or_main, first_fault}
use Rattle.lar_rules.specs.Checked.{typed_struct_of, typed_struct, typed_const, all_known}
use Rattle.lar_rules.specs.Signatures.{fields}
use Rattle.lar_rules.specs.Structs.{struct_faults}
use Rattle.lar_rules.specs.Functions.{function_faults}
use Rattle.lar_rules.proofs.Least.{least_append}
use Rattle.lar_sound.specs.Known.{IsKnown, IsFaultless}
use Rattle.lar_sound.specs.Items.{HoldsAt, EachItem}
use Rattle.lar_sound.specs.InOrder.{struct_before, const_before, structs_from, consts_from, known_of, known_tree}
use Rattle.lar_sound.proofs.ItemsMeant.{each_faultless}
use Rattle.lar_sound.proofs.ProgramTold.{no_fault, struct_told}
use Rattle.lar_names.specs.Numbered.{with_first, const_of, consts}
use Rattle.lar_assembled.specs.Programs.{or_no_types, struct_if_known, ItemsStand}

-- STRUCTS

one_known : (all : List Declared) (x : Struct) (o : Option (List TypeOf)) (ys : List PlainStruct) (os : List (Option PlainStruct)) → IsKnown (option_map (typed_struct_of all x) o) → ys ≡ known_of os
    → typed_struct_of all x (or_no_types o) ∷ ys ≡ known_of (option_map (typed_struct_of all x) o ∷ os)
one_known all x None ys os h e = absurd h
one_known all x (Some ts) ys os h e = ap (λ (zs : List PlainStruct). typed_struct_of all x ts ∷ zs) e

struct_known : (all : List Declared) (p : Places) (d : Declared) (w : What) (xs : List Struct)
    → HoldsAt (λ (x : Struct). IsFaultless (struct_faults all x)) (λ (x : Function). IsFaultless (function_faults all x)) (λ (n : ℕ). Unit {0}) p d w
    → map (struct_if_known all) xs ≡ known_of (map (typed_struct all) xs)
    → map (struct_if_known all) (struct_before p d w xs) ≡ known_of (map (typed_struct all) (struct_before p d w xs))
struct_known all p d a_module xs h e = e
struct_known all p d (a_const c) xs h e = e
struct_known all p d (a_function f) xs h e = e
struct_known all p d (a_struct s) xs h e =
    let x : Struct = record { number = p.structs; from = d; it = s } in
    one_known all x (all_known (map (λ m. m.1) (fields all x))) (map (struct_if_known all) xs) (map (typed_struct all) xs) (struct_told all x h) e

structs_known : (all : List Declared) (p : Places) (ds : List Declared)
    → EachItem (λ (x : Struct). IsFaultless (struct_faults all x)) (λ (x : Function). IsFaultless (function_faults all x)) (λ (n : ℕ). Unit {0}) p ds
    → map (struct_if_known all) (structs_from p ds) ≡ known_of (map (typed_struct all) (structs_from p ds))
structs_known all p [] h = refl
structs_known all p (d ∷ ds) h = struct_known all p d d.what (structs_from (past p d.what) ds) h.0 (structs_known all (past p d.what) ds h.1)

-- CONSTANTS

const_same : (d : Declared) (w : What) (xs ys : List (Declared × Const)) → xs ≡ ys → with_first (const_of d w) xs ≡ const_before d w ys
const_same d a_module xs ys e = e
const_same d (a_struct s) xs ys e = e
const_same d (a_function f) xs ys e = e
const_same d (a_const c) xs ys e = ap (λ (zs : List (Declared × Const)). (d, c) ∷ zs) e

consts_same : (ds : List Declared) → consts ds ≡ consts_from ds
consts_same [] = refl
consts_same (d ∷ ds) = const_same d d.what (consts ds) (consts_from ds) (consts_same ds)

-- THE PROGRAM

pub all_stand : (sources : List Source) (rows : List Row) (ss : List StructDecl) (cs : List TypedConst) (fs : List TypedFunction)
    → first_fault sources ≡ None → ItemsStand rows (declared sources) ss cs fs → plain (contents rows ss cs fs) ≡ known_tree (declared sources)
all_stand sources rows ss cs fs none st =
    let all = declared sources in
    let known = structs_known all none_yet all (each_faultless all none_yet all (no_fault sources none).items) in
    let c = contents rows ss cs fs in
    ap (λ (ys : List PlainStruct). let t : PlainTree = record { structs = ys; consts = cs; functions = (plain c).functions } in t) ((st.structs_stand).are ∙ known)
    ∙ ap (λ (ks : List TypedConst). let t : PlainTree = record { structs = (known_tree all).structs; consts = ks; functions = (plain c).functions } in t) (st.consts_are ∙ ap (map (λ p. typed_const p.0 p.1)) (consts_same all))
    ∙ ap (λ (gs : List PlainFunction). let t : PlainTree = record { structs = (known_tree all).structs; consts = (known_tree all).consts; functions = gs } in t) (st.functions_stand).are

-- THE FIRST FAULT

pub noted_in_order : (r p s h b : List Fault) → least (least (least None (r ++ p)) (s ++ h)) b ≡ least None ((r ++ p) ++ (s ++ (h ++ b)))
noted_in_order r p s h b =
    sym (ap (least None) (ap (λ (fs : List Fault). (r ++ p) ++ fs) (sym (append_assoc s h b)))
    ∙ least_append None (r ++ p) ((s ++ h) ++ b) ∙ least_append (least None (r ++ p)) (s ++ h) b)

pub first_is : (sources : List Source) (o : Option Fault) → least None (faults sources) ≡ o → first_fault sources ≡ fault_or_main o (declared sources)
unfolding first_fault
first_is sources o e = ap (λ (f : Option Fault). fault_or_main f (declared sources)) e
