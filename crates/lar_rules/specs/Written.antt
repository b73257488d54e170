-- What a written type means, and the faults in it.
use Rattle.std.specs.Prelude.{ℕ, zero, suc, ◌==◌, ℤ, neg_ℤ, Bool, true, false, not, List, [], ◌∷◌, ◌++◌, length, map, Option, Some, None, option_map, if◌then◌else◌}
use Rattle.std.specs.Fmt.{decimal}
use Rattle.lar_source.specs.declared.file.Span.{Span}
use Rattle.lar_source.specs.declared.code.Code.TheVariants.{UnknownName, WrongType, WrongCount}
use Rattle.type_table.specs.TypeOf.{TypeOf, int, bool, param, number, end, more, tuple, struct}
use Rattle.type_table.specs.Lawful.{same_sort}
use Rattle.type_table.specs.declared.sort.Sort.{Sort}
use Rattle.type_table.specs.declared.sort.Sort.TheVariants.{Ty as of_type, Number as of_number}
use Rattle.lar_tree.specs.declared.name.Path.{Path}
use Rattle.lar_tree.specs.declared.ty.SignedNumber.{SignedNumber}
use Rattle.lar_tree.specs.Types.{PlainTy, int_type, bool_type, unit_type, tuple_type, named_type, generic_type, MoreTypes, last_type, next_type, PlainArgs, angle_args, PlainArg, type_arg, number_arg, MoreArgs, last_arg, next_arg}
use Rattle.lar_tree.specs.PlainLists.{args_of}
use Rattle.lar_tree.specs.Firsts.{type_start}
use Rattle.lar_rules.specs.Fault.{Fault, fault}
use Rattle.lar_rules.specs.Declared.{Declared, Struct, struct_meant, texts_of}
use Rattle.lar_rules.specs.Generics.{GenericName, generic_named, type_among, number_among, struct_generics}
use Rattle.lar_rules.specs.Printed.{joined, sort_text}

-- where a type or an expression is written: all declarations, the file, the modules that it stands in, and the generics in scope
pub record Site : Type 0 where
  pub all : List Declared
  pub file : ℕ
  pub modules : List (List ℕ)
  pub generics : List GenericName

-- the type, where there is no fault in it
pub record Written : Type 0 where
  pub of : Option TypeOf
  pub faults : List Fault

abbrev pub known : TypeOf → Written
known t = record { of = Some t; faults = [] }

-- one generic as it is given: where it stands, whether it is a type or a number, and what it is
pub record Given : Type 0 where
  pub at : Span
  pub sort : Sort
  pub of : Option TypeOf
  pub faults : List Fault

-- the generics that are given, as a list, where there are as many as declared and each is of its sort
pub record Fitted : Type 0 where
  pub counted : Bool
  pub of : Option TypeOf
  pub faults : List Fault

-- a path that has no meaning in its role
abbrev pub unknown : Site → Path → Fault
unknown s p = fault s.file p.first.span UnknownName (joined (texts_of p) ∷ [])

-- a number of generics or arguments that is not the declared one
abbrev pub miscounted : Site → Path → ℕ → ℕ → Fault
miscounted s p declared found = fault s.file p.first.span WrongCount (decimal declared ∷ decimal found ∷ [])

abbrev pub all_given : List Given → List Fault
all_given [] = []
all_given (g ∷ gs) = g.faults ++ all_given gs

-- a type for a type, a number for a number
abbrev pub missorted : Site → List Sort → List Given → List Fault
missorted s [] gs = []
missorted s (w ∷ ws) [] = []
missorted s (w ∷ ws) (g ∷ gs) =
    if same_sort w g.sort then missorted s ws gs
    else fault s.file g.at WrongType (sort_text w ∷ sort_text g.sort ∷ []) ∷ missorted s ws gs

abbrev pub then_type : Option TypeOf → Option TypeOf → Option TypeOf
then_type (Some t) (Some ts) = Some (more t ts)
then_type _ _ = None

abbrev pub sorted_list : List Sort → List Given → Option TypeOf
sorted_list (w ∷ ws) (g ∷ gs) = then_type (if same_sort w g.sort then g.of else None) (sorted_list ws gs)
sorted_list [] [] = Some end
sorted_list _ _ = None

-- as many generics as declared, each of its sort
abbrev pub fitted : Site → Path → List Sort → List Given → Fitted
fitted s p ws gs =
    if length ws == length gs then record { counted = true; of = sorted_list ws gs; faults = all_given gs ++ missorted s ws gs }
    else record { counted = false; of = None; faults = miscounted s p (length ws) (length gs) ∷ all_given gs }

-- What a path of one name means in a type: a type generic, else a struct of the module. One of more names is a struct.
pub data TypeName : Type 0 where
  a_generic : ℕ → TypeName
  a_struct_type : Struct → TypeName
  no_type : TypeName

abbrev pub struct_name : Option Struct → TypeName
struct_name None = no_type
struct_name (Some x) = a_struct_type x

abbrev pub generic_or : Option ℕ → TypeName → TypeName
generic_or None n = n
generic_or (Some k) n = a_generic k

-- the type generic and the const generic that a path of one name means
abbrev pub type_generic : List GenericName → List (List ℕ) → Option ℕ
type_generic gs (n ∷ []) = type_among (generic_named gs n)
type_generic gs _ = None

abbrev pub number_generic : List GenericName → List (List ℕ) → Option ℕ
number_generic gs (n ∷ []) = number_among (generic_named gs n)
number_generic gs _ = None

abbrev pub type_named : Site → Path → TypeName
type_named s p = generic_or (type_generic s.generics (texts_of p)) (struct_name (struct_meant s.all s.modules p))

abbrev pub struct_sorts : Struct → List Sort
struct_sorts x = map (λ g. g.sort) (struct_generics x.it.generics)

abbrev pub as_struct_type : ℕ → Fitted → Written
as_struct_type n f = record { of = option_map (struct n) f.of; faults = f.faults }

-- a path with its generics. A generic takes none
abbrev pub named : Site → Path → TypeName → List Given → Written
named s p no_type gs = record { of = None; faults = unknown s p ∷ all_given gs }
named s p (a_generic k) [] = known (param k)
named s p (a_generic k) (g ∷ gs) = record { of = None; faults = miscounted s p 0 (length (g ∷ gs)) ∷ all_given (g ∷ gs) }
named s p (a_struct_type x) gs = as_struct_type x.number (fitted s p (struct_sorts x) gs)

abbrev pub then_written : Written → Written → Written
then_written a b = record { of = then_type a.of b.of; faults = a.faults ++ b.faults }

abbrev pub as_tuple : Written → Written
as_tuple w = record { of = option_map tuple w.of; faults = w.faults }

abbrev pub signed : SignedNumber → Option Span → ℤ
signed n None = n.value
signed n (Some at) = neg_ℤ n.value

abbrev pub signed_start : SignedNumber → Option Span → Span
signed_start n None = n.span
signed_start n (Some at) = at

-- As one generic, a const generic's name is a number; it takes no generics.
abbrev pub const_generic : Site → PlainTy → Option ℕ
const_generic s (named_type p) = number_generic s.generics (texts_of p)
const_generic s (generic_type p args) = number_generic s.generics (texts_of p)
const_generic s _ = None

abbrev pub number_given : Site → PlainTy → ℕ → Given
number_given s (generic_type p args) k = record { at = p.first.span; sort = of_number; of = None; faults = miscounted s p 0 (length (args_of args)) ∷ [] }
number_given s t k = record { at = type_start t; sort = of_number; of = Some (param k); faults = [] }

abbrev pub type_given : Site → PlainTy → Option ℕ → Written → Given
type_given s t (Some k) w = number_given s t k
type_given s t None w = record { at = type_start t; sort = of_type; of = w.of; faults = w.faults }

abbrev mutual
  -- the type that is written
  pub written : Site → PlainTy → Written
  written s (int_type at) = known int
  written s (bool_type at) = known bool
  written s (unit_type from to) = known (tuple end)
  written s (tuple_type from first comma second others to) = as_tuple (then_written (written s first) (then_written (written s second) (written_others s others)))
  written s (named_type p) = named s p (type_named s p) []
  written s (generic_type p args) = named s p (type_named s p) (given s args)

  pub written_others : Site → MoreTypes → Written
  written_others s last_type = known end
  written_others s (next_type comma t others) = then_written (written s t) (written_others s others)

  -- the generics that are given in angle brackets
  pub given : Site → PlainArgs → List Given
  given s (angle_args from first others to) = one_given s first ∷ given_others s others

  pub given_others : Site → MoreArgs → List Given
  given_others s last_arg = []
  given_others s (next_arg comma a others) = one_given s a ∷ given_others s others

  pub one_given : Site → PlainArg → Given
  one_given s (type_arg t) = type_given s t (const_generic s t) (written s t)
  one_given s (number_arg n) = record { at = signed_start n n.minus; sort = of_number; of = Some (number (signed n n.minus)); faults = [] }
