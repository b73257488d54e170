-- The generics that a struct or a function declares, and which one a name means.
use Rattle.std.specs.Prelude.{ℕ, suc, List, [], ◌∷◌, map, Option, Some, None, if◌then◌else◌}
use Rattle.std.specs.Str.{bytes_eq}
use Rattle.type_table.specs.declared.sort.Sort.{Sort}
use Rattle.type_table.specs.declared.sort.Sort.TheVariants.{Ty as of_type, Number as of_number}
use Rattle.lar_tree.specs.declared.name.Name.{Name}
use Rattle.lar_tree.specs.declared.item.Angled.{Angled}
use Rattle.lar_tree.specs.declared.item.Generic.{Generic}
use Rattle.lar_tree.specs.declared.item.Generic.TheVariants as generic
use Rattle.lar_tree.specs.PlainLists.{values}

-- a generic: where its name stands, and whether it is a type or a number
pub record GenericName : Type 0 where
  pub name : Name
  pub sort : Sort

abbrev pub generic_name : Generic → GenericName
generic_name (generic.Ty n) = record { name = n; sort = of_type }
generic_name (generic.Const c) = record { name = c.name; sort = of_number }

-- the generics of a struct, each a type
abbrev pub struct_generics : Option (Angled Name) → List GenericName
struct_generics None = []
struct_generics (Some a) = map (λ n. record { name = n; sort = of_type }) (values a.list)

abbrev pub function_generics : Option (Angled Generic) → List GenericName
function_generics None = []
function_generics (Some a) = map generic_name (values a.list)

-- a generic by its place
pub record Placed : Type 0 where
  pub place : ℕ
  pub sort : Sort

abbrev pub generic_from : ℕ → List ℕ → List GenericName → Option Placed
generic_from k name [] = None
generic_from k name (g ∷ gs) = if bytes_eq g.name.text name then Some (record { place = k; sort = g.sort }) else generic_from (suc k) name gs

-- the first generic of this name
abbrev pub generic_named : List GenericName → List ℕ → Option Placed
generic_named gs name = generic_from 0 name gs

abbrev pub if_type : Placed → Sort → Option ℕ
if_type g of_type = Some g.place
if_type g of_number = None

abbrev pub if_number : Placed → Sort → Option ℕ
if_number g of_type = None
if_number g of_number = Some g.place

abbrev pub type_among : Option Placed → Option ℕ
type_among None = None
type_among (Some g) = if_type g g.sort

abbrev pub number_among : Option Placed → Option ℕ
number_among None = None
number_among (Some g) = if_number g g.sort
