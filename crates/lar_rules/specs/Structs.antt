-- The faults of a struct: in its names, in its fields' types, and where it begins a chain that is too long.
use Rattle.std.specs.Prelude.{ℕ, zero, suc, max, Bool, true, false, ◌||◌, List, [], ◌∷◌, ◌++◌, map, if◌then◌else◌}
use Rattle.lar_source.specs.declared.code.Code.TheVariants.{NestedTooDeep}
use Rattle.lar_tree.specs.Types.{PlainTy, int_type, bool_type, unit_type, tuple_type, named_type, generic_type, MoreTypes, last_type, next_type, PlainArgs, angle_args, PlainArg, type_arg, number_arg, MoreArgs, last_arg, next_arg}
use Rattle.lar_tree.specs.Items.{PlainField}
use Rattle.lar_rules.specs.Fault.{Fault, fault}
use Rattle.lar_rules.specs.Declared.{Declared, Struct}
use Rattle.lar_rules.specs.Generics.{struct_generics}
use Rattle.lar_rules.specs.Written.{Site, TypeName, a_generic, a_struct_type, no_type, type_named, written}
use Rattle.lar_rules.specs.Signatures.{struct_site, list_in}
use Rattle.lar_rules.specs.Twice.{repeated}

abbrev pub field_faults : Site → List PlainField → List Fault
field_faults s [] = []
field_faults s (f ∷ fs) = (written s f.2).faults ++ field_faults s fs

abbrev pub struct_mentioned : TypeName → List Struct
struct_mentioned (a_struct_type x) = x ∷ []
struct_mentioned (a_generic k) = []
struct_mentioned no_type = []

-- the structs that a type mentions, its generics' too
abbrev mutual
  pub mentions : Site → PlainTy → List Struct
  mentions s (int_type at) = []
  mentions s (bool_type at) = []
  mentions s (unit_type from to) = []
  mentions s (tuple_type from first comma second others to) = mentions s first ++ (mentions s second ++ mentions_of_others s others)
  mentions s (named_type p) = struct_mentioned (type_named s p)
  mentions s (generic_type p args) = struct_mentioned (type_named s p) ++ mentions_of_args s args

  pub mentions_of_others : Site → MoreTypes → List Struct
  mentions_of_others s last_type = []
  mentions_of_others s (next_type comma t others) = mentions s t ++ mentions_of_others s others

  pub mentions_of_args : Site → PlainArgs → List Struct
  mentions_of_args s (angle_args from first others to) = mentions_of_arg s first ++ mentions_of_more s others

  pub mentions_of_arg : Site → PlainArg → List Struct
  mentions_of_arg s (type_arg t) = mentions s t
  mentions_of_arg s (number_arg n) = []

  pub mentions_of_more : Site → MoreArgs → List Struct
  mentions_of_more s last_arg = []
  mentions_of_more s (next_arg comma a others) = mentions_of_arg s a ++ mentions_of_more s others

abbrev pub mentions_of_fields : Site → List PlainField → List Struct
mentions_of_fields s [] = []
mentions_of_fields s (f ∷ fs) = mentions s f.2 ++ mentions_of_fields s fs

-- the structs that are mentioned in the fields of a struct
abbrev pub next_structs : List Declared → Struct → List Struct
next_structs all x = mentions_of_fields (struct_site all x) (list_in x.it.fields)

abbrev pub any_of : (Struct → Bool) → List Struct → Bool
any_of f [] = false
any_of f (x ∷ xs) = f x || any_of f xs

-- n structs follow this one, each mentioned in a field of the one before
abbrev pub is_followed : List Declared → ℕ → Struct → Bool
is_followed all zero x = true
is_followed all (suc n) x = any_of (is_followed all n) (next_structs all x)

abbrev pub most_of : (Struct → ℕ) → List Struct → ℕ
most_of f [] = 0
most_of f (x ∷ xs) = max (suc (f x)) (most_of f xs)

-- how many structs follow this one in the longest chain, up to n
abbrev pub followers : List Declared → ℕ → Struct → ℕ
followers all zero x = 0
followers all (suc n) x = most_of (followers all n) (next_structs all x)

-- structs of a chain at most
abbrev pub max_chain : ℕ
max_chain = 64

abbrev pub nesting_faults : List Declared → Struct → List Fault
nesting_faults all x = if is_followed all max_chain x then fault x.from.file x.it.name.span NestedTooDeep (x.it.name.text ∷ []) ∷ [] else []

abbrev pub struct_faults : List Declared → Struct → List Fault
struct_faults all x =
    repeated x.from.file [] (map (λ g. g.name) (struct_generics x.it.generics))
    ++ (repeated x.from.file [] (map (λ f. f.0) (list_in x.it.fields))
    ++ (field_faults (struct_site all x) (list_in x.it.fields)
    ++ nesting_faults all x))
