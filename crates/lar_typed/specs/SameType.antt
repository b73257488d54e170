-- Whether two types are one.
use Rattle.std.specs.Prelude.{ℕ, Bool, true, false, ◌&&◌, nat_eq, List, [], ◌∷◌, Option, Some, None}
use Rattle.std.specs.Ordering.{int_eq}
use Rattle.type_table.specs.TypeOf.{TypeOf, int, bool, param, number, end, more, tuple, struct}

abbrev pub same_type : TypeOf → TypeOf → Bool
same_type int int = true
same_type bool bool = true
same_type (param j) (param k) = nat_eq j k
same_type (number v) (number w) = int_eq v w
same_type end end = true
same_type (more t ts) (more u us) = same_type t u && same_type ts us
same_type (tuple ts) (tuple us) = same_type ts us
same_type (struct j ts) (struct k us) = nat_eq j k && same_type ts us
same_type _ _ = false

abbrev pub is_type : TypeOf → Option TypeOf → Bool
is_type t None = false
is_type t (Some u) = same_type t u

-- a list of types as one
abbrev pub list_of : List TypeOf → TypeOf
list_of [] = end
list_of (t ∷ ts) = more t (list_of ts)
