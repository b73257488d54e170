-- The declarations that the code's ones stand for.
use Rattle.std.specs.Prelude.{◌≡◌, ℕ, ◌<◌, List, [], ◌∷◌, ◌++◌, length, map}
use Rattle.lar_tree.specs.declared.name.Name.{Name}
use Rattle.lar_tree.specs.ItemView.{struct_view, fn_view}
use Rattle.lar_rules.specs.Declared.{Declared, What as PlainWhat, a_module, a_struct, a_const, a_function}
use Rattle.lar_names.specs.declared.declaration.What.{What}
use Rattle.lar_names.specs.declared.declaration.What.TheVariants.{Module, Struct, Const, Function}
use Rattle.lar_names.specs.declared.declaration.Declaration.{Declaration}
use Rattle.lar_names.specs.Scopes.{list_at}

abbrev pub what_view : What → PlainWhat
what_view (Module m) = a_module
what_view (Struct s) = a_struct (struct_view s.now)
what_view (Const c) = a_const c.now
what_view (Function f) = a_function (fn_view f.now)

abbrev pub what_name : What → Name
what_name (Module m) = (m.now).name
what_name (Struct s) = (s.now).name
what_name (Const c) = (c.now).name
what_name (Function f) = (f.now).name

-- the declaration, where the lists of scopes are these
abbrev pub declared_view : List (List (List ℕ)) → Declaration → Declared
declared_view lists d = record { file = d.file; modules = list_at lists d.scope; name = what_name d.what; hidden = d.hidden; what = what_view d.what }

-- each stands in one of the scopes
abbrev pub AllWithin : ℕ → List Declaration → Type 0
AllWithin n [] = Unit {0}
AllWithin n (d ∷ ds) = (d.scope < n) × AllWithin n ds

-- the new declarations behind the old ones stand for these
pub record Reads (old new : List Declaration) (lists : List (List (List ℕ))) (ds : List Declared) : Type 0 where
  pub added : List Declaration
  pub is : new ≡ old ++ added
  pub within : AllWithin (length lists) added
  pub view : map (declared_view lists) added ≡ ds
