-- What a program declares, in reading order, and which declaration a name means.
use Rattle.std.specs.Prelude.{ℕ, suc, ◌+◌, ◌-◌, Bool, true, false, ◌&&◌, ◌||◌, not, if◌then◌else◌, List, [], ◌∷◌, ◌++◌, length, take, map, Option, Some, None, option_and_then}
use Rattle.std.specs.Str.{bytes_eq}
use Rattle.std.specs.Cmp.Lexicographic.{pointwise}
use Rattle.lar_tree.specs.declared.name.Name.{Name}
use Rattle.lar_tree.specs.declared.name.Path.{Path}
use Rattle.lar_tree.specs.declared.item.Const.{Const}
use Rattle.lar_tree.specs.PlainLists.{names_of}
use Rattle.lar_tree.specs.Items.{PlainStruct, PlainFn, PlainItem, module_item, struct_item, const_item, fn_item, PlainItems, no_items, items}

-- a source: the name of its module, and its items
pub record Source : Type 0 where
  pub module_name : List ℕ
  pub items : PlainItems

pub data What : Type 0 where
  a_module : What
  a_struct : PlainStruct → What
  a_const : Const → What
  a_function : PlainFn → What

pub record Declared : Type 0 where
  -- the number of its file among the sources
  pub file : ℕ
  -- the names of the modules that it stands in
  pub modules : List (List ℕ)
  pub name : Name
  -- whether it stands in a module whose name an earlier item has, so that no path leads to it
  pub hidden : Bool
  pub what : What

abbrev pub same_modules : List (List ℕ) → List (List ℕ) → Bool
same_modules = pointwise bytes_eq

abbrev pub has_name : List ℕ → List (List ℕ) → Bool
has_name n [] = false
has_name n (m ∷ ms) = bytes_eq n m || has_name n ms

abbrev pub item_name : PlainItem → Name
item_name (module_item at n from is to) = n
item_name (struct_item s) = s.name
item_name (const_item c) = c.name
item_name (fn_item f) = f.name

-- the items of a module, where `earlier` are the names of those before them
abbrev mutual
  pub item_declared : ℕ → List (List ℕ) → Bool → List (List ℕ) → PlainItem → List Declared
  item_declared file modules hidden earlier (module_item at n from is to) =
      record { file = file; modules = modules; name = n; hidden = hidden; what = a_module }
      ∷ items_declared file (modules ++ n.text ∷ []) (hidden || has_name n.text earlier) [] is
  item_declared file modules hidden earlier (struct_item s) = record { file = file; modules = modules; name = s.name; hidden = hidden; what = a_struct s } ∷ []
  item_declared file modules hidden earlier (const_item c) = record { file = file; modules = modules; name = c.name; hidden = hidden; what = a_const c } ∷ []
  item_declared file modules hidden earlier (fn_item f) = record { file = file; modules = modules; name = f.name; hidden = hidden; what = a_function f } ∷ []

  pub items_declared : ℕ → List (List ℕ) → Bool → List (List ℕ) → PlainItems → List Declared
  items_declared file modules hidden earlier no_items = []
  items_declared file modules hidden earlier (items i is) =
      item_declared file modules hidden earlier i ++ items_declared file modules hidden (earlier ++ (item_name i).text ∷ []) is

abbrev pub declared_from : ℕ → List Source → List Declared
declared_from file [] = []
declared_from file (s ∷ ss) = items_declared file (s.module_name ∷ []) false [] s.items ++ declared_from (file + 1) ss

-- all that the sources declare
unfoldable pub declared : List Source → List Declared
declared sources = declared_from 0 sources

-- how many structs, constants and functions stand before a place
pub record Places : Type 0 where
  pub structs : ℕ
  pub consts : ℕ
  pub functions : ℕ

abbrev pub past : Places → What → Places
past p a_module = p
past p (a_struct s) = record p { structs = suc p.structs }
past p (a_const c) = record p { consts = suc p.consts }
past p (a_function f) = record p { functions = suc p.functions }

abbrev pub is_named : List (List ℕ) → List ℕ → Declared → Bool
is_named modules name d = not d.hidden && (same_modules d.modules modules && bytes_eq d.name.text name)

abbrev pub meant_from : Places → List (List ℕ) → List ℕ → List Declared → Option (Places × Declared)
meant_from p modules name [] = None
meant_from p modules name (d ∷ ds) = if is_named modules name d then Some (p, d) else meant_from (past p d.what) modules name ds

-- the first declaration of these names, with what stands before it
abbrev pub meant : List Declared → List (List ℕ) → List ℕ → Option (Places × Declared)
meant ds modules name = meant_from (record { structs = 0; consts = 0; functions = 0 }) modules name ds

-- a declaration by its place among those of its kind
pub record Struct : Type 0 where
  pub number : ℕ
  pub from : Declared
  pub it : PlainStruct

pub record Function : Type 0 where
  pub number : ℕ
  pub from : Declared
  pub it : PlainFn

abbrev pub as_struct : Places × Declared → What → Option Struct
as_struct m (a_struct s) = Some (record { number = (m.0).structs; from = m.1; it = s })
as_struct m _ = None

abbrev pub as_const : Places × Declared → What → Option ℕ
as_const m (a_const c) = Some ((m.0).consts)
as_const m _ = None

abbrev pub as_function : Places × Declared → What → Option Function
as_function m (a_function f) = Some (record { number = (m.0).functions; from = m.1; it = f })
as_function m _ = None

-- The names of a path but the last, and the last. A path of one name stands for an item of the module in which it is written; one of more
-- names begins with the module of a file.
abbrev pub texts_of : Path → List (List ℕ)
texts_of p = map (λ n. n.text) (names_of p)

abbrev pub last_of : List ℕ → List (List ℕ) → List ℕ
last_of n [] = n
last_of n (m ∷ ms) = last_of m ms

abbrev pub modules_of : List (List ℕ) → List (List ℕ) → List (List ℕ)
modules_of here (n ∷ []) = here
modules_of here ns = take (length ns - 1) ns

abbrev pub path_meant : List Declared → List (List ℕ) → Path → Option (Places × Declared)
path_meant ds here p = meant ds (modules_of here (texts_of p)) (last_of [] (texts_of p))

-- the struct, the constant and the function that a path means in its role
abbrev pub struct_meant : List Declared → List (List ℕ) → Path → Option Struct
struct_meant ds here p = option_and_then (λ m. as_struct m ((m.1).what)) (path_meant ds here p)

abbrev pub const_meant : List Declared → List (List ℕ) → Path → Option ℕ
const_meant ds here p = option_and_then (λ m. as_const m ((m.1).what)) (path_meant ds here p)

abbrev pub function_meant : List Declared → List (List ℕ) → Path → Option Function
function_meant ds here p = option_and_then (λ m. as_function m ((m.1).what)) (path_meant ds here p)
