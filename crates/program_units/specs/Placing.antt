-- What the placing in units reads of a program's instances: items, symbols, and calls from one to another.
use Rattle.std.specs.Prelude.{ℕ, ◌+◌, Bool, false, ◌&&◌, not, List, [], ◌++◌, map, slice_get, Option, Some, None}
use Rattle.reach.specs.Reach.{has}
use Rattle.type_table.specs.declared.decl.StructDecl.{StructDecl}
use Rattle.type_sizes.specs.Spelling.{text_of, angled}
use Rattle.lar_typed.specs.Paths.{item_path}
use Rattle.lar_typed.specs.Size.{stmts_size}
use Rattle.lar_typed.specs.Trees.{StructOf, FunctionOf, PlainTree}
use Rattle.mono_items.specs.declared.items.Instance.{Instance}
use Rattle.mono_items.specs.declared.items.MonoItem.{MonoItem}
use Rattle.mono_items.specs.Homes.{has_home}
use Rattle.mono_graph.specs.Instances.{PlainInstance, same_instance, target, calls_of, is_none, is_root}

-- A struct as texts of types name it. No text reads its fields, so their number is left out.
abbrev pub decl_of : {A : Type 0} → StructOf A → StructDecl
decl_of s = record { «module» = s.module_path; name = s.name; generics = s.generics; fields = 0; depth = s.depth }

abbrev pub path_if : {A : Type 0} → Option (FunctionOf A) → List ℕ
path_if None = []
path_if (Some f) = item_path f.module_path f.name

-- the symbol of an instance: the path of its function and, in angles, its arguments
unfoldable pub symbol_in : PlainTree → PlainInstance → List ℕ
symbol_in tree x = path_if (slice_get tree.functions x.function) ++ angled x.arguments (text_of (map decl_of tree.structs) [] x.arguments)

-- No placing reads the instance of an item, so its numbers are left out.
abbrev pub no_instance : Instance
no_instance = record { function = 0; arguments = 0 }

-- the item of an instance of the function; of none, where the function is not there
abbrev pub item_if : {A : Type 0} → Option (FunctionOf A) → MonoItem
item_if None = record { instance = no_instance; place = []; generic = false; inlined = false; root = false; size = 0 }
item_if (Some f) = record { instance = no_instance; place = f.module_path; generic = not (is_none f.generics); inlined = f.inlined; root = is_root f; size = 1 + stmts_size f.body }

abbrev pub item_of : PlainTree → PlainInstance → MonoItem
item_of tree x = item_if (slice_get tree.functions x.function)

-- the items of these instances, in order
abbrev pub items_of : PlainTree → List PlainInstance → List MonoItem
items_of tree us = map (item_of tree) us

-- whether an instance is there, and its item has no home
abbrev pub is_homeless : PlainTree → Option PlainInstance → Bool
is_homeless tree None = false
is_homeless tree (Some x) = not (has_home (item_of tree x))

-- whether both instances are there, and the first calls the second
abbrev pub calls_it : PlainTree → Option PlainInstance → Option PlainInstance → Bool
calls_it tree (Some x) (Some y) = has same_instance y (map target (calls_of tree x))
calls_it tree _ _ = false

-- whether the instance at place q calls that at place p, and the latter has no home
unfoldable pub calls_homeless : PlainTree → List PlainInstance → ℕ → ℕ → Bool
calls_homeless tree us q p = is_homeless tree (slice_get us p) && calls_it tree (slice_get us q) (slice_get us p)
