-- A program without a fault has a lawful typed tree.
use Rattle.std.proofs.Common.{◌≡◌, ℕ, List, Some, None}
use Rattle.lar_typed.specs.Trees.{PlainTree, PlainFunction as TypedFunction, PlainStruct as TypedStruct}
use Rattle.lar_typed.specs.IsTyped.{IsStruct, IsFunction, IsTyped}
use Rattle.lar_rules.specs.Declared.{Source, declared, Declared, Struct, Function}
use Rattle.lar_rules.specs.Structs.{struct_faults}
use Rattle.lar_rules.specs.Functions.{function_faults}
use Rattle.lar_rules.specs.Faults.{none_yet, max_functions, first_fault}
use Rattle.lar_rules.specs.Checked.{typed_struct, typed_function, typed}
use Rattle.lar_sound.specs.Known.{IsFaultless}
use Rattle.lar_sound.specs.Sources.{AreSources}
use Rattle.lar_sound.proofs.EachOf.{every_at}
use Rattle.lar_sound.proofs.ItemsMeant.{each_map, each_both, each_faultless}
use Rattle.lar_sound.proofs.ProgramTold.{no_fault}
use Rattle.lar_sound.proofs.TreeItems.{behind_itself, items_there, each_typed, few_functions}
use Rattle.lar_sound.proofs.SourceItems.{IsGoodStruct, IsGoodFunction, all_good, items_are_good}
use Rattle.lar_sound.proofs.ItemsApart.{struct_path, function_path, apart, apart_at, tree_apart}
use Rattle.lar_sound.proofs.StructsSound.{struct_sound}
use Rattle.lar_sound.proofs.FunctionsSound.{function_sound}
use Rattle.lar_sound.proofs.MainSound.{main_sound}

abbrev GoodStruct : List Declared → Struct → Type 0
GoodStruct all x = IsGoodStruct x × IsFaultless (struct_faults all x)

abbrev GoodFunction : List Declared → Function → Type 0
GoodFunction all x = IsGoodFunction x × IsFaultless (function_faults all x)

pub program_sound : (sources : List Source) (t : PlainTree) → AreSources sources → first_fault sources ≡ None
    → typed sources ≡ Some t → IsTyped t
unfolding typed
program_sound sources t are none e =
    let all = declared sources in
    let n = no_fault sources none in
    let good = all_good sources are in
    let goods = items_are_good none_yet all good in
    let items = items_there t all none_yet all t e (behind_itself t) in
    let faultless = each_faultless all none_yet all n.items in
    let both = each_both IsGoodStruct (λ (x : Struct). IsFaultless (struct_faults all x)) IsGoodFunction
    (λ (x : Function). IsFaultless (function_faults all x)) (λ (k : ℕ). Unit {0}) (λ (k : ℕ). Unit {0}) none_yet all
    goods faultless in
    let each = each_typed (IsStruct t) (IsFunction t) all none_yet all t e
    (each_map (GoodStruct all) (λ (x : Struct). (y : TypedStruct) → typed_struct all x ≡ Some y → IsStruct t y)
    (GoodFunction all) (λ (x : Function). (y : TypedFunction) → typed_function all x ≡ Some y → IsFunction t y)
    (λ (k : ℕ). Unit {0} × Unit {0}) (λ (k : ℕ). Unit {0}) none_yet all
    (λ x h. struct_sound t all items x h.0 h.1) (λ x h. function_sound t all items x h.0 h.1)
    (λ k h. tt) both) in
    let paths = tree_apart all none_yet all t e good (apart all n.none_twice) in
    let main = main_sound t all items goods n.main in
    record {
      structs = λ i d l. every_at (IsStruct t) t.structs i d each.0 l;
      functions = λ i d l. every_at (IsFunction t) t.functions i d each.1 l;
      few_functions = few_functions all none_yet all t max_functions e n.few;
      structs_apart = λ i j d k l same. apart_at struct_path t.structs i j d paths.0 k l same;
      functions_apart = λ i j d k l same. apart_at function_path t.functions i j d paths.1 k l same;
      main = main.main;
      main_there = main.there;
      main_is = main.is;
    }
