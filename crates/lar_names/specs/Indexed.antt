-- What is kept of all declarations.
use Rattle.std.specs.Prelude.{◌≡◌, ℕ, ◌<◌, List, [], ◌∷◌, length, map, Option, Some, slice_get}
use Rattle.std.specs.BTreeMap.{BTreeMap}
use Rattle.std.specs.declared.string.String.{String}
use Rattle.lar_rules.specs.Declared.{Declared, Places, past}
use Rattle.lar_rules.specs.Faults.{none_yet}
use Rattle.lar_names.specs.Declarations.{declared_view}
use Rattle.lar_names.specs.declared.declaration.Declaration.{Declaration}
use Rattle.lar_names.specs.declared.meaning.Meaning.{Meaning}
use Rattle.lar_names.specs.declared.items.StructItem.{StructItem}
use Rattle.lar_names.specs.declared.items.ConstItem.{ConstItem}
use Rattle.lar_names.specs.declared.items.FunctionItem.{FunctionItem}
use Rattle.lar_names.specs.Entries.{entry}
use Rattle.lar_names.specs.Items.{structs_in, consts_in, functions_in}
use Rattle.lar_names.specs.Scopes.{AreScopes, list_at}
use Rattle.lar_names.specs.Tables.{look}

-- each name of each scope has its entry
pub record AreEntries {Y : Type 0} (lists : List (List (List ℕ))) (tables : List (BTreeMap (String Y) (Option Meaning))) (ds : List Declared) : Type 0 where
  pub counted : length tables ≡ length lists
  pub each : (s : ℕ) (name : List ℕ) → s < length lists → look tables s name ≡ entry ds (list_at lists s) name

-- the items of each kind
pub record AreItems (ss : List StructItem) (cs : List ConstItem) (fs : List FunctionItem) (ds : List Declaration) : Type 0 where
  pub structs : ss ≡ structs_in ds
  pub consts : cs ≡ consts_in ds
  pub functions : fs ≡ functions_in ds

-- each declaration stands in one of so many scopes
pub record AreWithin (scopes : ℕ) (ds : List Declaration) : Type 0 where
  pub each : (i : ℕ) (d : Declaration) → slice_get ds i ≡ Some d → d.scope < scopes

-- how many there are of each kind
abbrev pub lengths : List StructItem → List ConstItem → List FunctionItem → Places
lengths ss cs fs = record { structs = length ss; consts = length cs; functions = length fs }

abbrev pub counted : Places → List Declared → Places
counted p [] = p
counted p (d ∷ ds) = counted (past p d.what) ds

-- all that is kept of the declarations
pub record IsIndex {Y : Type 0} (lists : List (List (List ℕ))) (ds : List Declaration) (ss : List StructItem) (cs : List ConstItem) (fs : List FunctionItem) (tables : List (BTreeMap (String Y) (Option Meaning))) : Type 0 where
  pub scopes : AreScopes lists
  pub items : AreItems ss cs fs ds
  pub entries : AreEntries lists tables (map (declared_view lists) ds)
  pub counts : lengths ss cs fs ≡ counted none_yet (map (declared_view lists) ds)
