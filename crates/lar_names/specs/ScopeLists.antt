-- The lists of names that scopes stand for.
use Rattle.std.specs.Prelude.{◌≡◌, ℕ, ◌<◌, ◌≤◌, List, [], ◌∷◌, ◌++◌, length, None}
use Rattle.std.specs.BTreeMap.{BTreeMap}
use Rattle.std.specs.declared.string.String.{String}
use Rattle.lar_names.specs.declared.scopes.Place.{Place}
use Rattle.lar_names.specs.Scopes.{AreScopes, list_at, number_of, within}
use Rattle.lar_names.specs.Tables.{look}

-- the list of a module behind these lists
abbrev pub list_of : List (List (List ℕ)) → Place → List (List ℕ)
list_of ls p = within (list_at ls p.parent) p.name

abbrev pub lists_from : List (List (List ℕ)) → List Place → List (List (List ℕ))
lists_from ls [] = ls
lists_from ls (p ∷ ps) = lists_from (ls ++ list_of ls p ∷ []) ps

-- the empty list, and that of each module
unfoldable pub lists : List Place → List (List (List ℕ))
lists ps = lists_from ([] ∷ []) ps

-- the table of a scope has the number of each module in it
pub record AreInner {Y : Type 0} (ls : List (List (List ℕ))) (tables : List (BTreeMap (String Y) ℕ)) : Type 0 where
  pub scopes : AreScopes ls
  pub counted : length ls ≤ length tables
  pub each : (s : ℕ) (name : List ℕ) → s < length ls → look tables s name ≡ number_of (within (list_at ls s) name) ls
  pub beyond : (s : ℕ) (name : List ℕ) → length ls ≤ s → look tables s name ≡ None
