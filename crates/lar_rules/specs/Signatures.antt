-- What is known of a struct and of a function where it is named.
use Rattle.std.specs.Prelude.{ℕ, zero, suc, List, [], ◌∷◌, map, Option, Some, None}
use Rattle.type_table.specs.TypeOf.{TypeOf, end, tuple}
use Rattle.type_table.specs.declared.sort.Sort.{Sort}
use Rattle.lar_tree.specs.declared.name.Name.{Name}
use Rattle.lar_tree.specs.declared.commas.Commas.{Commas}
use Rattle.lar_tree.specs.PlainLists.{values}
use Rattle.lar_tree.specs.Items.{PlainField, PlainOutput}
use Rattle.lar_rules.specs.Declared.{What, a_module, a_struct, a_const, a_function, Declared, Struct, Function}
use Rattle.lar_rules.specs.Generics.{struct_generics, function_generics}
use Rattle.lar_rules.specs.Written.{Site, written}

-- where a struct's fields, and where a function's types and body are written
abbrev pub struct_site : List Declared → Struct → Site
struct_site all x = record { all = all; file = x.from.file; modules = x.from.modules; generics = struct_generics x.it.generics }

abbrev pub function_site : List Declared → Function → Site
function_site all x = record { all = all; file = x.from.file; modules = x.from.modules; generics = function_generics x.it.generics }

abbrev pub list_in : {A : Type 0} → Option (Commas A) → List A
list_in None = []
list_in (Some c) = values c

-- a field or a parameter: its name, and its type where there is no fault in it
abbrev pub Member : Type 0
Member = Name × Option TypeOf

abbrev pub member : Site → PlainField → Member
member s f = (f.0, (written s f.2).of)

-- the fields of a struct, whose types may have its generics
abbrev pub fields : List Declared → Struct → List Member
fields all x = map (member (struct_site all x)) (list_in x.it.fields)

abbrev pub params : List Declared → Function → List Member
params all x = map (member (function_site all x)) (list_in x.it.params)

-- the type of the result; `()` where none is written
abbrev pub outcome_written : Site → Option PlainOutput → Option TypeOf
outcome_written s None = Some (tuple end)
outcome_written s (Some o) = (written s o.1).of

abbrev pub outcome : List Declared → Function → Option TypeOf
outcome all x = outcome_written (function_site all x) x.it.output

abbrev pub function_sorts : Function → List Sort
function_sorts x = map (λ g. g.sort) (function_generics x.it.generics)

abbrev pub this_or_later : Declared → What → ℕ → ℕ → (ℕ → ℕ → Option Struct) → Option Struct
this_or_later d (a_struct s) zero k later = Some (record { number = k; from = d; it = s })
this_or_later d (a_struct s) (suc n) k later = later n (suc k)
this_or_later d a_module n k later = later n k
this_or_later d (a_const c) n k later = later n k
this_or_later d (a_function f) n k later = later n k

abbrev pub struct_from : List Declared → ℕ → ℕ → Option Struct
struct_from [] n k = None
struct_from (d ∷ ds) n k = this_or_later d d.what n k (struct_from ds)

-- the struct with this number
abbrev pub struct_numbered : List Declared → ℕ → Option Struct
struct_numbered all n = struct_from all n 0
