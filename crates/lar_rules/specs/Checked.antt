-- The program with its types where there is no fault in it, and what a check answers.
use Rattle.std.specs.Prelude.{◌≡◌, ℕ, Bool, true, false, ◌||◌, List, [], ◌∷◌, length, map, Option, Some, None, option_map, Result, Ok, Err}
use Rattle.type_table.specs.TypeOf.{TypeOf}
use Rattle.lar_typed.specs.SameType.{list_of}
use Rattle.lar_typed.specs.Stmts.{PlainStmts}
use Rattle.lar_typed.specs.Trees.{PlainTree, PlainFunction as TypedFunction, PlainStruct as TypedStruct}
use Rattle.lar_typed.specs.declared.tree.TypedConst.{TypedConst}
use Rattle.lar_tree.specs.declared.item.Const.{Const}
use Rattle.lar_tree.specs.declared.item.Attribute.{Attribute}
use Rattle.lar_tree.specs.declared.item.AttributeWord.{AttributeWord}
use Rattle.lar_tree.specs.declared.item.AttributeWord.TheVariants as attribute
use Rattle.lar_rules.specs.Fault.{Fault}
use Rattle.lar_rules.specs.Declared.{Source, What, a_module, a_struct, a_const, a_function, Declared, Places, past, declared, Struct, Function}
use Rattle.lar_rules.specs.Generics.{struct_generics}
use Rattle.lar_rules.specs.Printed.{joined}
use Rattle.lar_rules.specs.Written.{signed}
use Rattle.lar_rules.specs.Signatures.{list_in, fields, outcome, function_sorts}
use Rattle.lar_rules.specs.Structs.{max_chain, followers}
use Rattle.lar_rules.specs.Functions.{body_done}
use Rattle.lar_rules.specs.Faults.{none_yet, first_fault}

abbrev pub then_known : Option TypeOf → Option (List TypeOf) → Option (List TypeOf)
then_known (Some t) (Some ts) = Some (t ∷ ts)
then_known _ _ = None

abbrev pub all_known : List (Option TypeOf) → Option (List TypeOf)
all_known [] = Some []
all_known (t ∷ ts) = then_known t (all_known ts)

abbrev pub same_word : AttributeWord → AttributeWord → Bool
same_word attribute.Inline attribute.Inline = true
same_word attribute.Export attribute.Export = true
same_word _ _ = false

-- whether a function has this attribute; a second time changes nothing
abbrev pub has_word : AttributeWord → List Attribute → Bool
has_word w [] = false
has_word w (a ∷ rest) = same_word w a.word || has_word w rest

abbrev pub typed_struct_of : List Declared → Struct → List TypeOf → TypedStruct
typed_struct_of all x ts = record {
  module_path = joined x.from.modules;
  name = x.it.name.text;
  generics = length (struct_generics x.it.generics);
  fields = list_of ts;
  depth = followers all max_chain x;
}

abbrev pub typed_struct : List Declared → Struct → Option TypedStruct
typed_struct all x = option_map (typed_struct_of all x) (all_known (map (λ m. m.1) (fields all x)))

abbrev pub typed_const : Declared → Const → TypedConst
typed_const d c = record { «module» = joined d.modules; name = c.name.text; value = signed c.value c.value.minus }

abbrev pub typed_function_of : List Declared → Function → List TypeOf → TypeOf → PlainStmts → TypedFunction
typed_function_of all x locals result body = record {
  module_path = joined x.from.modules;
  name = x.it.name.text;
  generics = function_sorts x;
  params = length (list_in x.it.params);
  locals = locals;
  outcome = result;
  body = body;
  inlined = has_word attribute.Inline x.it.attributes;
  exported = has_word attribute.Export x.it.attributes;
  at = x.it.name.span;
}

abbrev pub function_if : List Declared → Function → Option (List TypeOf) → Option TypeOf → Option PlainStmts → Option TypedFunction
function_if all x (Some locals) (Some result) (Some body) = Some (typed_function_of all x locals result body)
function_if all x _ _ _ = None

abbrev pub typed_function : List Declared → Function → Option TypedFunction
typed_function all x = function_if all x (all_known (body_done all x).after.types) (outcome all x) (body_done all x).typed

-- a program of which each part is known
abbrev pub with_struct : Option TypedStruct → Option PlainTree → Option PlainTree
with_struct (Some s) (Some t) = Some (record t { structs = s ∷ t.structs })
with_struct _ _ = None

abbrev pub with_function : Option TypedFunction → Option PlainTree → Option PlainTree
with_function (Some f) (Some t) = Some (record t { functions = f ∷ t.functions })
with_function _ _ = None

abbrev pub with_const : TypedConst → Option PlainTree → Option PlainTree
with_const c None = None
with_const c (Some t) = Some (record t { consts = c ∷ t.consts })

abbrev pub with_item : List Declared → Places → Declared → What → Option PlainTree → Option PlainTree
with_item all p d a_module t = t
with_item all p d (a_struct s) t = with_struct (typed_struct all (record { number = p.structs; from = d; it = s })) t
with_item all p d (a_const c) t = with_const (typed_const d c) t
with_item all p d (a_function f) t = with_function (typed_function all (record { number = p.functions; from = d; it = f })) t

abbrev pub tree_from : List Declared → Places → List Declared → Option PlainTree
tree_from all p [] = Some (record { structs = []; consts = []; functions = [] })
tree_from all p (d ∷ ds) = with_item all p d d.what (tree_from all (past p d.what) ds)

-- the program with its types, in reading order
unfoldable pub typed : List Source → Option PlainTree
typed sources = tree_from (declared sources) none_yet (declared sources)

-- WHAT A CHECK ANSWERS

-- the program with its types where there is no fault, else the first fault
abbrev pub Checks : List Source → Result PlainTree Fault → Type 0
Checks sources (Ok t) = (first_fault sources ≡ None) × (typed sources ≡ Some t)
Checks sources (Err f) = first_fault sources ≡ Some f
