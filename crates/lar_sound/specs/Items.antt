-- What holds of each item of a program, by its kind and its place.
use Rattle.std.specs.Prelude.{ℕ, List, [], ◌∷◌}
use Rattle.lar_rules.specs.Declared.{What, a_module, a_struct, a_const, a_function, Declared, Places, past, Struct, Function}

-- one item: what holds of structs, of functions, and of the places of constants
abbrev pub HoldsAt : (Struct → Type 0) → (Function → Type 0) → (ℕ → Type 0) → Places → Declared → What → Type 0
HoldsAt S F C p d a_module = Unit {0}
HoldsAt S F C p d (a_struct s) = S (record { number = p.structs; from = d; it = s })
HoldsAt S F C p d (a_const c) = C p.consts
HoldsAt S F C p d (a_function f) = F (record { number = p.functions; from = d; it = f })

-- items in reading order, where these places come before them
abbrev pub EachItem : (Struct → Type 0) → (Function → Type 0) → (ℕ → Type 0) → Places → List Declared → Type 0
EachItem S F C p [] = Unit {0}
EachItem S F C p (d ∷ ds) = HoldsAt S F C p d d.what × EachItem S F C (past p d.what) ds
