-- What tables of names hold.
use Rattle.std.specs.Prelude.{◌≡◌, ◌≢◌, ℕ, cond, List, Option, Some, None, slice_get}
use Rattle.std.specs.Str.{bytes_eq}
use Rattle.std.specs.declared.string.String.{String}
use Rattle.std.specs.BTreeMap.{BTreeMap, get_by_text}

abbrev pub name_in : {V Y : Type 0} → Option (BTreeMap (String Y) V) → List ℕ → Option V
name_in None name = None
name_in (Some m) name = get_by_text m name

-- what the table of a scope has at a name
unfoldable pub look : {V Y : Type 0} → List (BTreeMap (String Y) V) → ℕ → List ℕ → Option V
look maps scope name = name_in (slice_get maps scope) name

-- one name of one scope has a value, and all others have what they had
pub record IsPut {V Y : Type 0} (old new : List (BTreeMap (String Y) V)) (scope : ℕ) (name : List ℕ) (value : V) : Type 0 where
  pub here : (q : List ℕ) → look new scope q ≡ cond (bytes_eq name q) (Some value) (look old scope q)
  pub others : (s : ℕ) (q : List ℕ) → s ≢ scope → look new s q ≡ look old s q
