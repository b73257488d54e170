-- The faults of a program in another order: those of all declarations first, and then those of all bodies.
use Rattle.std.specs.Prelude.{◌≡◌, List, [], ◌∷◌, ◌++◌, map, Option, Some, None}
use Rattle.std.specs.declared.cmp.Ordering.TheVariants.{Equal}
use Rattle.lar_tree.specs.Lawful.{Every}
use Rattle.lar_rules.specs.Fault.{Fault, fault_cmp, kept}
use Rattle.lar_rules.specs.Declared.{What, a_module, a_struct, a_const, a_function, Declared, Places, past, Function}
use Rattle.lar_rules.specs.Generics.{function_generics}
use Rattle.lar_rules.specs.Signatures.{function_site, list_in}
use Rattle.lar_rules.specs.Twice.{repeated}
use Rattle.lar_rules.specs.Structs.{field_faults, struct_faults}
use Rattle.lar_rules.specs.Functions.{output_faults, ending_faults, body_done}

-- a function's faults in its names and types, and those in its body
abbrev pub head_faults : List Declared → Function → List Fault
head_faults all x =
    repeated x.from.file []
    (map (λ g. g.name) (function_generics x.it.generics) ++ map (λ p. p.0) (list_in x.it.params))
    ++ (field_faults (function_site all x) (list_in x.it.params) ++ output_faults (function_site all x) x.it.output)

abbrev pub body_faults : List Declared → Function → List Fault
body_faults all x = (body_done all x).faults ++ ending_faults all x

abbrev pub struct_part : List Declared → Places → Declared → What → List Fault
struct_part all p d (a_struct s) = struct_faults all (record { number = p.structs; from = d; it = s })
struct_part all p d a_module = []
struct_part all p d (a_const c) = []
struct_part all p d (a_function f) = []

abbrev pub head_part : List Declared → Places → Declared → What → List Fault
head_part all p d (a_function f) = head_faults all (record { number = p.functions; from = d; it = f })
head_part all p d a_module = []
head_part all p d (a_struct s) = []
head_part all p d (a_const c) = []

abbrev pub body_part : List Declared → Places → Declared → What → List Fault
body_part all p d (a_function f) = body_faults all (record { number = p.functions; from = d; it = f })
body_part all p d a_module = []
body_part all p d (a_struct s) = []
body_part all p d (a_const c) = []

-- those of a struct, and of a function's names and types
abbrev pub declaration_part : List Declared → Places → Declared → What → List Fault
declaration_part all p d w = struct_part all p d w ++ head_part all p d w

-- a part of each item, in reading order
abbrev pub Part : Type 0
Part = List Declared → Places → Declared → What → List Fault

abbrev pub parts_from : Part → List Declared → Places → List Declared → List Fault
parts_from part all p [] = []
parts_from part all p (d ∷ ds) = part all p d d.what ++ parts_from part all (past p d.what) ds

-- neither of two faults is told for the other
abbrev pub Different : Fault → Fault → Type 0
Different f g = fault_cmp f g ≡ Equal → ⊥

abbrev pub AllDifferent : List Fault → List Fault → Type 0
AllDifferent xs ys = Every (λ (x : Fault). Every (Different x) ys) xs

-- what was found before, and the least of others
abbrev pub merged : Option Fault → Option Fault → Option Fault
merged best None = best
merged best (Some f) = kept best f
