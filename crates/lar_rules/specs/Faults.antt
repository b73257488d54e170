-- All faults of a program in names and types, and which of them is told.
use Rattle.std.specs.Prelude.{ℕ, zero, suc, Bool, true, false, ◌&&◌, List, [], ◌∷◌, ◌++◌, Option, Some, None, option_and_then, codes}
use Rattle.std.specs.Fmt.{decimal}
use Rattle.lar_source.specs.declared.code.Code.TheVariants.{NoLawfulMain, PastLimit}
use Rattle.type_table.specs.TypeOf.{TypeOf, end, tuple}
use Rattle.lar_typed.specs.SameType.{same_type}
use Rattle.lar_rules.specs.Fault.{Fault, fault, least}
use Rattle.lar_rules.specs.Declared.{Source, What, a_module, a_struct, a_const, a_function, Declared, Places, past, declared, meant, as_function, Struct, Function}
use Rattle.lar_rules.specs.Generics.{function_generics}
use Rattle.lar_rules.specs.Signatures.{list_in, outcome}
use Rattle.lar_rules.specs.Twice.{repeated_items}
use Rattle.lar_rules.specs.Structs.{struct_faults}
use Rattle.lar_rules.specs.Functions.{function_faults}

abbrev pub item_faults : List Declared → Places → Declared → What → List Fault
item_faults all p d a_module = []
item_faults all p d (a_const c) = []
item_faults all p d (a_struct s) = struct_faults all (record { number = p.structs; from = d; it = s })
item_faults all p d (a_function f) = function_faults all (record { number = p.functions; from = d; it = f })

abbrev pub faults_from : List Declared → Places → List Declared → List Fault
faults_from all p [] = []
faults_from all p (d ∷ ds) = item_faults all p d d.what ++ faults_from all (past p d.what) ds

abbrev pub none_yet : Places
none_yet = record { structs = 0; consts = 0; functions = 0 }

-- functions at most
abbrev pub max_functions : ℕ
max_functions = 65535

abbrev pub limit_fault : Declared → Fault
limit_fault d = fault d.file d.name.span PastLimit (decimal max_functions ∷ [])

-- `d` where so many functions may still come, and what is found after it
abbrev pub one_less : Declared → What → ℕ → (ℕ → List Fault) → List Fault
one_less d (a_function f) zero later = limit_fault d ∷ []
one_less d (a_function f) (suc n) later = later n
one_less d a_module n later = later n
one_less d (a_struct s) n later = later n
one_less d (a_const c) n later = later n

-- the first function past the limit, where n may still come
abbrev pub past_limit : List Declared → ℕ → List Fault
past_limit [] n = []
past_limit (d ∷ ds) n = one_less d d.what n (past_limit ds)

-- all faults but that of a missing main
unfoldable pub faults : List Source → List Fault
faults sources =
    repeated_items [] (declared sources)
    ++ (faults_from (declared sources) none_yet (declared sources)
    ++ past_limit (declared sources) max_functions)

abbrev pub has_none : {A : Type 0} → List A → Bool
has_none [] = true
has_none (x ∷ xs) = false

abbrev pub is_unit_there : Option TypeOf → Bool
is_unit_there None = false
is_unit_there (Some t) = same_type t (tuple end)

-- `main::main`, without generics and parameters, with the result `()`
abbrev pub is_lawful_main : List Declared → Option Function → Bool
is_lawful_main all None = false
is_lawful_main all (Some x) = has_none (function_generics x.it.generics) && (has_none (list_in x.it.params) && is_unit_there (outcome all x))

abbrev pub main_meant : List Declared → Option Function
main_meant all = option_and_then (λ m. as_function m ((m.1).what)) (meant all (codes "main" ∷ []) (codes "main"))

abbrev pub main_fault : Fault
main_fault = record { file = 0; line = 1; col = 1; code = NoLawfulMain; args = [] }

abbrev pub main_or : Bool → Option Fault
main_or true = None
main_or false = Some main_fault

abbrev pub fault_or_main : Option Fault → List Declared → Option Fault
fault_or_main (Some f) all = Some f
fault_or_main None all = main_or (is_lawful_main all (main_meant all))

-- the least by file, place and code; that of main only where there is no other
unfoldable pub first_fault : List Source → Option Fault
first_fault sources = fault_or_main (least None (faults sources)) (declared sources)
