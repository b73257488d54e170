-- Instances as plain data, their calls, and the roots.
use Rattle.std.specs.Prelude.{ℕ, Bool, true, false, ◌&&◌, ◌||◌, nat_eq, nat_lt, List, [], ◌∷◌, map, filter, slice_get, Option, Some, None, codes}
use Rattle.std.specs.Str.{bytes_eq}
use Rattle.type_table.specs.declared.row.Row.{Row}
use Rattle.type_table.specs.declared.sort.Sort.{Sort}
use Rattle.type_table.specs.TypeOf.{TypeOf, end, more}
use Rattle.type_table.specs.Substitution.{subst}
use Rattle.type_table.specs.Rows.{type_at}
use Rattle.type_sizes.specs.Sizes.{parts, nesting}
use Rattle.text_order.specs.TextOrder.{text_order}
use Rattle.lar_typed.specs.SameType.{same_type}
use Rattle.lar_typed.specs.Paths.{item_path}
use Rattle.lar_typed.specs.Calls.{CallOf, stmts_calls}
use Rattle.lar_typed.specs.Trees.{FunctionOf, PlainFunction, PlainTree}
use Rattle.mono_items.specs.declared.items.Instance.{Instance}

-- a function by its place among all functions, and the list of the arguments for its generics
pub record PlainInstance : Type 0 where
  pub function : ℕ
  pub arguments : TypeOf

abbrev pub same_instance : PlainInstance → PlainInstance → Bool
same_instance a b = nat_eq a.function b.function && same_type a.arguments b.arguments

-- the instance that one of the code stands for
abbrev pub instance_view : List Row → Instance → PlainInstance
instance_view rows x = record { function = x.function; arguments = type_at rows x.arguments }

-- whether a type is too large to be an argument: nested more than 16 deep, or of more than 255 parts
abbrev pub is_large : TypeOf → Bool
is_large t = nat_lt 16 (nesting t) || nat_lt 255 (parts t)

-- whether one of a list of arguments is too large
abbrev pub has_large : TypeOf → Bool
has_large (more t ts) = is_large t || has_large ts
has_large _ = false

-- the instance that a call names
abbrev pub target : CallOf TypeOf → PlainInstance
target c = record { function = c.callee; arguments = c.generics }

-- a call, where the generics of its caller stand for these arguments
abbrev pub call_under : TypeOf → CallOf TypeOf → CallOf TypeOf
call_under arguments c = record { callee = c.callee; generics = subst arguments c.generics; at = c.at }

abbrev pub calls_under : TypeOf → Option PlainFunction → List (CallOf TypeOf)
calls_under arguments None = []
calls_under arguments (Some f) = map (call_under arguments) (stmts_calls f.body)

-- the calls of an instance, in reading order
unfoldable pub calls_of : PlainTree → PlainInstance → List (CallOf TypeOf)
calls_of tree x = calls_under x.arguments (slice_get tree.functions x.function)

abbrev pub is_none : List Sort → Bool
is_none [] = true
is_none (s ∷ ss) = false

-- `main::main`, and each function without generics that has `#[export]`
abbrev pub is_root : {A : Type 0} → FunctionOf A → Bool
is_root f = (bytes_eq f.module_path (codes "main") && bytes_eq f.name (codes "main")) || (f.exported && is_none f.generics)

abbrev pub root_if : {A : Type 0} → Option (FunctionOf A) → Bool
root_if None = false
root_if (Some f) = is_root f

-- a function without arguments
abbrev pub plain_instance : ℕ → PlainInstance
plain_instance k = record { function = k; arguments = end }

-- the paths of functions; that of a function without generics is its symbol
abbrev pub paths_of : {A : Type 0} → List (FunctionOf A) → List (List ℕ)
paths_of fs = map (λ f. item_path f.module_path f.name) fs

-- the places of the functions that are roots, in byte order of symbols
unfoldable pub root_places : {A : Type 0} → List (FunctionOf A) → List ℕ
root_places fs = filter (λ k. root_if (slice_get fs k)) (text_order (paths_of fs))

-- the roots, in byte order of symbols
unfoldable pub roots : PlainTree → List PlainInstance
roots tree = map plain_instance (root_places tree.functions)
