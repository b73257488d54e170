-- Which units can be linked.
use Rattle.std.specs.Prelude.{ℕ, List, map, filter}
use Rattle.std.specs.List.{flat_map, AllByRecursion, IsDistinct, Contains}
use Rattle.std.specs.Str.{bytes_eq}
use Rattle.symbol_link.specs.Linked.{entry_symbol}
use Rattle.unit_object.specs.Interface.{Interface}

-- the symbols of a unit's functions that other units may call: these are at home in it
abbrev pub homes_of : Interface → List (List ℕ)
homes_of u = map (λ f. f.symbol) (filter (λ f. f.external) u.functions)

-- those of all units, in order
abbrev pub all_homes : List Interface → List (List ℕ)
all_homes = flat_map homes_of

pub record AreLinkable (us : List Interface) : Type 0 where
  -- no symbol is at home twice
  pub once : IsDistinct bytes_eq (all_homes us)
  -- each external is at home in a unit
  pub known : AllByRecursion (λ u. AllByRecursion (Contains (all_homes us)) u.externals) us
  -- so is the symbol at which a program begins
  pub entry : Contains (all_homes us) entry_symbol
