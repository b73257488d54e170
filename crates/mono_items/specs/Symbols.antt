-- The symbol of an instance: the path of its function, and in angles its arguments, if it has any.
use Rattle.std.specs.Prelude.{ℕ, List, [], ◌++◌, codes, slice_get, Option, Some, None}
use Rattle.type_table.specs.Rows.{type_at}
use Rattle.type_sizes.specs.Spelling.{text_of, angled}
use Rattle.lar_typed.specs.declared.tree.TypedFunction.{TypedFunction}
use Rattle.lar_typed.specs.TreeView.{Contents}
use Rattle.mono_items.specs.declared.items.Instance.{Instance}

abbrev pub path_of : TypedFunction → List ℕ
path_of f = f.module ++ codes "::" ++ f.name

abbrev pub path_or_none : Option TypedFunction → List ℕ
path_or_none None = []
path_or_none (Some f) = path_of f

-- that of a function that is not there begins with nothing
unfoldable pub symbol_of : Contents → Instance → List ℕ
symbol_of tree x = path_or_none (slice_get tree.functions x.function) ++ angled (type_at tree.rows x.arguments) (text_of tree.structs [] (type_at tree.rows x.arguments))
