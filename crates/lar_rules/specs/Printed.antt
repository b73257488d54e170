-- How a type is printed: as in symbols, and a generic by its name.
use Rattle.std.specs.Prelude.{ℕ, zero, suc, List, [], ◌∷◌, ◌++◌, Option, Some, None, codes}
use Rattle.std.specs.Fmt.{decimal, signed_decimal}
use Rattle.type_table.specs.TypeOf.{TypeOf, int, bool, param, number, end, more, tuple, struct}
use Rattle.type_table.specs.declared.sort.Sort.{Sort}
use Rattle.type_table.specs.declared.sort.Sort.TheVariants.{Ty as of_type, Number as of_number}
use Rattle.lar_typed.specs.Paths.{item_path}
use Rattle.lar_rules.specs.Declared.{What, a_module, a_struct, a_const, a_function, Declared}
use Rattle.lar_rules.specs.Generics.{GenericName}

-- names with `::` between them
abbrev pub joined : List (List ℕ) → List ℕ
joined [] = []
joined (n ∷ []) = n
joined (n ∷ m ∷ ns) = n ++ (codes "::" ++ joined (m ∷ ns))

-- the path of the struct with this number, where `later` tells it for the declarations after this one
abbrev pub path_or_later : Declared → What → ℕ → (ℕ → List ℕ) → List ℕ
path_or_later d (a_struct s) zero later = item_path (joined d.modules) d.name.text
path_or_later d (a_struct s) (suc n) later = later n
path_or_later d a_module n later = later n
path_or_later d (a_const c) n later = later n
path_or_later d (a_function f) n later = later n

abbrev pub struct_path : List Declared → ℕ → List ℕ
struct_path [] n = []
struct_path (d ∷ ds) n = path_or_later d d.what n (struct_path ds)

abbrev pub generic_text : List GenericName → ℕ → List ℕ
generic_text [] k = []
generic_text (g ∷ gs) zero = g.name.text
generic_text (g ∷ gs) (suc k) = generic_text gs k

-- what follows a member of a list: nothing, or a comma and the others
abbrev pub others_text : TypeOf → List ℕ → List ℕ
others_text end text = []
others_text ts text = codes "," ++ text

-- the generics of a struct
abbrev pub angled_text : TypeOf → List ℕ → List ℕ
angled_text end text = []
angled_text ts text = codes "<" ++ (text ++ codes ">")

abbrev pub type_text : (ℕ → List ℕ) → (ℕ → List ℕ) → TypeOf → List ℕ
type_text path name int = codes "i64"
type_text path name bool = codes "bool"
type_text path name (param k) = name k
type_text path name (number v) = signed_decimal v
type_text path name end = []
type_text path name (more t ts) = type_text path name t ++ others_text ts (type_text path name ts)
type_text path name (tuple ts) = codes "(" ++ (type_text path name ts ++ codes ")")
type_text path name (struct n ts) = path n ++ angled_text ts (type_text path name ts)

-- what a generic is, in the text of a fault
abbrev pub sort_text : Sort → List ℕ
sort_text of_type = codes "type"
sort_text of_number = codes "number"
