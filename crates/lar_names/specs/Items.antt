-- What the code's items of each kind stand for.
use Rattle.std.specs.Prelude.{ℕ, List, Option, Some, None}
use Rattle.lar_tree.specs.declared.item.Const.{Const}
use Rattle.lar_tree.specs.Items.{PlainStruct, PlainFn}
use Rattle.lar_tree.specs.ItemView.{struct_view, fn_view}
use Rattle.lar_rules.specs.Declared.{Declared}
use Rattle.lar_names.specs.declared.declaration.What.TheVariants as what
use Rattle.lar_names.specs.declared.items.StructItem.{StructItem}
use Rattle.lar_names.specs.declared.items.ConstItem.{ConstItem}
use Rattle.lar_names.specs.declared.items.FunctionItem.{FunctionItem}
use Rattle.lar_names.specs.declared.declaration.What.{What}
use Rattle.lar_names.specs.declared.declaration.Declaration.{Declaration}
use Rattle.lar_names.specs.Declarations.{declared_view}
use Rattle.lar_names.specs.Numbered.{picked}

-- the item of a declaration that is of the kind
abbrev pub struct_in : Declaration → What → Option StructItem
struct_in d (what.Struct s) = Some (record { file = d.file; scope = d.scope; hidden = d.hidden; it = s })
struct_in d _ = None

abbrev pub const_in : Declaration → What → Option ConstItem
const_in d (what.Const c) = Some (record { file = d.file; scope = d.scope; hidden = d.hidden; it = c })
const_in d _ = None

abbrev pub function_in : Declaration → What → Option FunctionItem
function_in d (what.Function f) = Some (record { file = d.file; scope = d.scope; hidden = d.hidden; it = f })
function_in d _ = None

abbrev pub structs_in : List Declaration → List StructItem
structs_in = picked (λ d. struct_in d d.what)

abbrev pub consts_in : List Declaration → List ConstItem
consts_in = picked (λ d. const_in d d.what)

abbrev pub functions_in : List Declaration → List FunctionItem
functions_in = picked (λ d. function_in d d.what)

-- the declaration and the item
abbrev pub struct_item : List (List (List ℕ)) → StructItem → Declared × PlainStruct
struct_item lists i = (declared_view lists (record { file = i.file; scope = i.scope; hidden = i.hidden; what = what.Struct i.it }), struct_view (i.it).now)

abbrev pub const_item : List (List (List ℕ)) → ConstItem → Declared × Const
const_item lists i = (declared_view lists (record { file = i.file; scope = i.scope; hidden = i.hidden; what = what.Const i.it }), (i.it).now)

abbrev pub function_item : List (List (List ℕ)) → FunctionItem → Declared × PlainFn
function_item lists i = (declared_view lists (record { file = i.file; scope = i.scope; hidden = i.hidden; what = what.Function i.it }), fn_view (i.it).now)
