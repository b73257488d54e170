-- Generics that are given, with numbers of rows in the place of types, and the faults before and after those of the generics themselves.
use Rattle.std.specs.Prelude.{◌≡◌, ℕ, ◌==◌, List, [], ◌∷◌, length, map, Option, Some, None, option_map, if◌then◌else◌}
use Rattle.lar_source.specs.declared.file.Span.{Span}
use Rattle.lar_source.specs.declared.code.Code.TheVariants.{WrongType}
use Rattle.lar_tree.specs.declared.name.Path.{Path}
use Rattle.type_table.specs.declared.row.Row.{Row}
use Rattle.type_table.specs.declared.sort.Sort.{Sort}
use Rattle.type_table.specs.Lawful.{same_sort}
use Rattle.lar_rules.specs.Fault.{Fault, fault}
use Rattle.lar_rules.specs.Printed.{sort_text}
use Rattle.lar_rules.specs.Written as rules
use Rattle.lar_rules.specs.Written.{Site, TypeName, a_generic, a_struct_type, no_type, unknown, miscounted, missorted, sorted_list, struct_sorts, signed, signed_start, given}
use Rattle.type_table.specs.declared.sort.Sort.TheVariants.{Number as of_number}
use Rattle.lar_tree.specs.declared.ty.SignedNumber.{SignedNumber}
use Rattle.lar_tree.specs.declared.ty.GenericArgs.{GenericArgs}
use Rattle.lar_tree.specs.TypeView.{args_view}
use Rattle.lar_rules.specs.Declared.{Struct}
use Rattle.type_table.specs.TypeOf.{TypeOf, param, number, struct}
use Rattle.lar_written.specs.declared.given.Given.{Given}
use Rattle.lar_written.specs.declared.named.Begun.{Begun}
use Rattle.lar_written.specs.declared.site.TypeName.{TypeName as CodeName}
use Rattle.lar_written.specs.Sites.{meaning}
use Rattle.lar_written.specs.Standing.{number_type, Inside, AllInside}

-- a generic without its type and its faults
abbrev pub marks : Given → rules.Given
marks g = record { at = g.at; sort = g.sort; of = None; faults = [] }

-- a generic with its type, without its faults
abbrev pub given_view : List Row → Given → rules.Given
given_view rows g = record { at = g.at; sort = g.sort; of = number_type rows g.of; faults = [] }

abbrev pub bare : rules.Given → rules.Given
bare g = record { at = g.at; sort = g.sort; of = g.of; faults = [] }

-- each is what the definition says, but for its faults
pub record GivenStand (rows : List Row) (gs : List Given) (ds : List rules.Given) : Type 0 where
  pub within : AllInside rows (map (λ g. g.of) gs)
  pub are : map (given_view rows) gs ≡ map bare ds

-- one generic of another sort
abbrev pub other_sort : Site → Span → Sort → Sort → Fault
other_sort s at wanted found = fault s.file at WrongType (sort_text wanted ∷ sort_text found ∷ [])

abbrev pub sort_faults : Site → Span → Sort → Sort → List Fault
sort_faults s at wanted found = if same_sort wanted found then [] else other_sort s at wanted found ∷ []

-- what is told before the faults of the generics themselves
unfoldable pub early_fit : Site → Path → ℕ → ℕ → List Fault
early_fit s p wanted found = if wanted == found then [] else miscounted s p wanted found ∷ []

-- what is told after them
unfoldable pub late_fit : Site → List Sort → List rules.Given → List Fault
late_fit s ws gs = if length ws == length gs then missorted s ws gs else []

unfoldable pub early : Site → Path → TypeName → ℕ → List Fault
early s p no_type n = unknown s p ∷ []
early s p (a_generic k) n = early_fit s p 0 n
early s p (a_struct_type x) n = early_fit s p (length (struct_sorts x)) n

unfoldable pub late : Site → TypeName → List rules.Given → List Fault
late s no_type gs = []
late s (a_generic k) gs = []
late s (a_struct_type x) gs = late_fit s (struct_sorts x) gs

-- the generics as one list, where there are as many as declared and each is of its sort
unfoldable pub fitted_of : List Sort → List rules.Given → Option TypeOf
fitted_of ws gs = if length ws == length gs then sorted_list ws gs else None

-- what a name with these generics is
unfoldable pub name_of : TypeName → List rules.Given → Option TypeOf
name_of no_type gs = None
name_of (a_generic k) [] = Some (param k)
name_of (a_generic k) (g ∷ gs) = None
name_of (a_struct_type x) gs = option_map (struct x.number) (fitted_of (struct_sorts x) gs)

-- what is known of a name before its generics are read
pub record IsBegun (t : TypeName) (b : Begun) : Type 0 where
  pub name : b.name ≡ meaning t
  pub sorts : (x : Struct) → t ≡ a_struct_type x → b.sorts.items ≡ struct_sorts x

-- one generic is what the definition says, but for its faults
pub record OneStands (rows : List Row) (g : Given) (d : rules.Given) : Type 0 where
  pub within : Inside rows g.of
  pub is : given_view rows g ≡ bare d

-- a number as one generic
abbrev pub number_of : SignedNumber → rules.Given
number_of n = record { at = signed_start n n.minus; sort = of_number; of = Some (number (signed n n.minus)); faults = [] }

-- a const generic as one generic
abbrev pub param_of : Span → ℕ → rules.Given
param_of at k = record { at = at; sort = of_number; of = Some (param k); faults = [] }

-- a name and how many generics it takes, where it is a struct's
pub record IsCounted (t : TypeName) (name : CodeName) (wanted : ℕ) : Type 0 where
  pub name_is : name ≡ meaning t
  pub count : (x : Struct) → t ≡ a_struct_type x → wanted ≡ length (struct_sorts x)

-- the generics in angle brackets, where there are some
abbrev pub given_if : Site → Option GenericArgs → List rules.Given
given_if s None = []
given_if s (Some a) = given s (args_view a)
