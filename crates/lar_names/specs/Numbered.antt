-- Declarations of one kind, by number.
use Rattle.std.specs.Prelude.{ℕ, List, [], ◌∷◌, Option, Some, None, option_map, slice_get}
use Rattle.lar_tree.specs.declared.item.Const.{Const}
use Rattle.lar_tree.specs.Items.{PlainStruct, PlainFn}
use Rattle.lar_rules.specs.Declared.{What, a_struct, a_const, a_function, Declared, Struct, Function}

abbrev pub with_first : {A : Type 0} → Option A → List A → List A
with_first None xs = xs
with_first (Some x) xs = x ∷ xs

-- what is picked from each, in order
abbrev pub picked : {A B : Type 0} → (B → Option A) → List B → List A
picked pick [] = []
picked pick (d ∷ ds) = with_first (pick d) (picked pick ds)

abbrev pub struct_of : Declared → What → Option (Declared × PlainStruct)
struct_of d (a_struct s) = Some (d, s)
struct_of d _ = None

abbrev pub const_of : Declared → What → Option (Declared × Const)
const_of d (a_const c) = Some (d, c)
const_of d _ = None

abbrev pub function_of : Declared → What → Option (Declared × PlainFn)
function_of d (a_function f) = Some (d, f)
function_of d _ = None

abbrev pub structs : List Declared → List (Declared × PlainStruct)
structs = picked (λ d. struct_of d d.what)

abbrev pub consts : List Declared → List (Declared × Const)
consts = picked (λ d. const_of d d.what)

abbrev pub functions : List Declared → List (Declared × PlainFn)
functions = picked (λ d. function_of d d.what)

-- the function with this number
abbrev pub function_at : ℕ → Declared × PlainFn → Function
function_at n p = record { number = n; from = p.0; it = p.1 }

abbrev pub function_numbered : List Declared → ℕ → Option Function
function_numbered all n = option_map (function_at n) (slice_get (functions all) n)

abbrev pub struct_at : ℕ → Declared × PlainStruct → Struct
struct_at n p = record { number = n; from = p.0; it = p.1 }
