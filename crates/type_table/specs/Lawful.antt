-- Types that keep the declarations of structs and generics.
use Rattle.std.specs.Prelude.{ℕ, zero, suc, nat_le, ◌&&◌, Bool, true, false, List, [], ◌∷◌, Option, Some, None, slice_get}
use Rattle.type_table.specs.declared.sort.Sort.{Sort}
use Rattle.type_table.specs.declared.sort.Sort.TheVariants.{Ty as of_type, Number as of_number}
use Rattle.type_table.specs.TypeOf.{TypeOf, int, bool, param, number, end, more, tuple, struct}
use Rattle.type_table.specs.Substitution.{count}

-- what is wanted at a place
pub data Wanted : Type 0 where
  one : Sort → Wanted
  -- a list with these
  these : List Sort → Wanted
  -- a list of types, as many as there are
  some_types : Wanted

abbrev pub same_sort : Sort → Sort → Bool
same_sort of_type of_type = true
same_sort of_number of_number = true
same_sort _ _ = false

abbrev pub wants : Wanted → Option Sort → Bool
wants (one s) (Some r) = same_sort s r
wants _ _ = false

abbrev pub ends : Wanted → Bool
ends (these []) = true
ends some_types = true
ends _ = false

-- what is wanted of the first and of the others
abbrev pub first_of : Wanted → Option Sort
first_of (these (s ∷ ss)) = Some s
first_of some_types = Some of_type
first_of _ = None

abbrev pub others_of : Wanted → Wanted
others_of (these (s ∷ ss)) = these ss
others_of w = w

abbrev pub fits_first : (Wanted → Bool) → Option Sort → Bool
fits_first f None = false
fits_first f (Some s) = f (one s)

abbrev pub fits_struct : (Wanted → Bool) → Option (List Sort) → Bool
fits_struct f None = false
fits_struct f (Some ss) = f (these ss)

-- a tuple has no part, or 2 to 8
abbrev pub is_tuple_count : ℕ → Bool
is_tuple_count zero = true
is_tuple_count (suc n) = nat_le 1 n && nat_le n 7

-- The type keeps the generics of each struct and the limits of tuples, and has no generics but these.
abbrev pub fits : List (List Sort) → List Sort → TypeOf → Wanted → Bool
fits structs generics int w = wants w (Some of_type)
fits structs generics bool w = wants w (Some of_type)
fits structs generics (param k) w = wants w (slice_get generics k)
fits structs generics (number v) w = wants w (Some of_number)
fits structs generics end w = ends w
fits structs generics (more t ts) w = fits_first (fits structs generics t) (first_of w) && fits structs generics ts (others_of w)
fits structs generics (tuple ts) w = wants w (Some of_type) && (is_tuple_count (count ts) && fits structs generics ts some_types)
fits structs generics (struct n ts) w = wants w (Some of_type) && fits_struct (fits structs generics ts) (slice_get structs n)
