-- Where a type is written, for the definitions.
use Rattle.std.specs.Prelude.{ℕ, zero, suc, List, [], ◌∷◌, map, Option, None, option_map}
use Rattle.lar_tree.specs.declared.name.Name.{Name}
use Rattle.lar_rules.specs.Generics.{GenericName, generic_named}
use Rattle.lar_rules.specs.Written as rules
use Rattle.type_table.specs.declared.sort.Sort.{Sort}
use Rattle.type_table.specs.declared.sort.Sort.TheVariants.{Ty as of_type}
use Rattle.lar_written.specs.declared.generics.GenericItem.{GenericItem}
use Rattle.lar_written.specs.declared.generics.Generics.{Generics}
use Rattle.lar_written.specs.declared.site.Site.{Site}
use Rattle.lar_written.specs.declared.site.TypeName.{TypeName}
use Rattle.lar_written.specs.declared.site.TypeName.TheVariants.{Generic, Struct, Unknown}
use Rattle.lar_names.specs.NamesView.{names_view, scope_view}

abbrev pub generic_view : GenericItem → GenericName
generic_view g = record { name = g.name.now; sort = g.sort }

abbrev pub generics_view : Generics → List GenericName
generics_view g = map generic_view g.list.items

abbrev pub site_view : Site → rules.Site
site_view s = record { all = names_view s.names.now; file = s.file; modules = scope_view s.names.now s.scope; generics = generics_view s.generics.now }

-- what a path means, with a struct's number in the place of the struct
abbrev pub meaning : rules.TypeName → TypeName
meaning (rules.a_generic k) = Generic k
meaning (rules.a_struct_type x) = Struct x.number
meaning rules.no_type = Unknown

-- the place and the sort of the generic that a path of one name means
abbrev pub generic_meant : List GenericName → List (List ℕ) → Option (ℕ × Sort)
generic_meant gs (n ∷ []) = option_map (λ p. (p.place, p.sort)) (generic_named gs n)
generic_meant gs _ = None

-- so many types
abbrev pub all_types : ℕ → List Sort
all_types zero = []
all_types (suc n) = of_type ∷ all_types n

-- a generic that is a type
abbrev pub type_name : Name → GenericName
type_name n = record { name = n; sort = of_type }
