-- The items of a program in reading order, and the program that is made of all that is known of them.
use Rattle.std.specs.Prelude.{List, [], ◌∷◌, map, Option, Some, None}
use Rattle.lar_typed.specs.Trees.{PlainTree}
use Rattle.lar_tree.specs.declared.item.Const.{Const}
use Rattle.lar_rules.specs.Declared.{What, a_module, a_struct, a_const, a_function, Declared, Places, past, Struct, Function}
use Rattle.lar_rules.specs.Faults.{none_yet}
use Rattle.lar_rules.specs.Checked.{typed_struct, typed_const, typed_function}

abbrev pub struct_before : Places → Declared → What → List Struct → List Struct
struct_before p d (a_struct s) xs = record { number = p.structs; from = d; it = s } ∷ xs
struct_before p d a_module xs = xs
struct_before p d (a_const c) xs = xs
struct_before p d (a_function f) xs = xs

abbrev pub const_before : Declared → What → List (Declared × Const) → List (Declared × Const)
const_before d (a_const c) xs = (d, c) ∷ xs
const_before d a_module xs = xs
const_before d (a_struct s) xs = xs
const_before d (a_function f) xs = xs

abbrev pub function_before : Places → Declared → What → List Function → List Function
function_before p d (a_function f) xs = record { number = p.functions; from = d; it = f } ∷ xs
function_before p d a_module xs = xs
function_before p d (a_struct s) xs = xs
function_before p d (a_const c) xs = xs

-- the structs, the constants and the functions, where these places come before them
abbrev pub structs_from : Places → List Declared → List Struct
structs_from p [] = []
structs_from p (d ∷ ds) = struct_before p d d.what (structs_from (past p d.what) ds)

abbrev pub consts_from : List Declared → List (Declared × Const)
consts_from [] = []
consts_from (d ∷ ds) = const_before d d.what (consts_from ds)

abbrev pub functions_from : Places → List Declared → List Function
functions_from p [] = []
functions_from p (d ∷ ds) = function_before p d d.what (functions_from (past p d.what) ds)

-- what is known, in order
abbrev pub known_of : {A : Type 0} → List (Option A) → List A
known_of [] = []
known_of (None ∷ os) = known_of os
known_of (Some x ∷ os) = x ∷ known_of os

-- the program of all items that are known
abbrev pub known_from : List Declared → Places → List Declared → PlainTree
known_from all p ds = record {
  structs = known_of (map (typed_struct all) (structs_from p ds));
  consts = map (λ c. typed_const c.0 c.1) (consts_from ds);
  functions = known_of (map (typed_function all) (functions_from p ds));
}

abbrev pub known_tree : List Declared → PlainTree
known_tree all = known_from all none_yet all
