-- Numbers of rows that stand for types, where there is one.
use Rattle.std.specs.Prelude.{◌≡◌, ℕ, ◌<◌, List, [], ◌∷◌, length, map, Option, Some, None, option_map}
use Rattle.type_table.specs.declared.row.Row.{Row}
use Rattle.type_table.specs.TypeOf.{TypeOf, end, tuple}
use Rattle.type_table.specs.Rows.{type_at}
use Rattle.lar_tree.specs.Types.{MoreTypes, last_type, next_type}
use Rattle.lar_rules.specs.Written.{then_type, Site, written}

-- the type that a number stands for
abbrev pub number_type : List Row → Option ℕ → Option TypeOf
number_type rows n = option_map (type_at rows) n

-- the number, if there is one, is one of the table
abbrev pub Inside : List Row → Option ℕ → Type 0
Inside rows None = Unit {0}
Inside rows (Some n) = n < length rows

abbrev pub AllInside : List Row → List (Option ℕ) → Type 0
AllInside rows [] = Unit {0}
AllInside rows (n ∷ ns) = Inside rows n × AllInside rows ns

-- both none, or the number stands for the type
pub record StandsIf (rows : List Row) (n : Option ℕ) (t : Option TypeOf) : Type 0 where
  pub within : Inside rows n
  pub is : number_type rows n ≡ t

-- the same of each member of a list
pub record AllStand (rows : List Row) (ns : List (Option ℕ)) (ts : List (Option TypeOf)) : Type 0 where
  pub within : AllInside rows ns
  pub are : map (number_type rows) ns ≡ ts

-- a list of types, known where each of them is
abbrev pub list_if : List (Option TypeOf) → Option TypeOf
list_if [] = Some end
list_if (t ∷ ts) = then_type t (list_if ts)

-- a tuple of a first part, a second one and others
abbrev pub tuple_if : Option TypeOf → Option TypeOf → List (Option TypeOf) → Option TypeOf
tuple_if head next others = option_map tuple (then_type head (then_type next (list_if others)))

-- the further types of a tuple
abbrev pub others_of : Site → MoreTypes → List (Option TypeOf)
others_of s last_type = []
others_of s (next_type comma t others) = (written s t).of ∷ others_of s others
