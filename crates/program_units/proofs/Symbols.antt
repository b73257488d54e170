-- Symbols by the plain program are those by the typed tree.
use Rattle.std.proofs.Common.{◌≡◌, ℕ, List, [], ◌∷◌, map, sym, ap, ◌∙◌, Option, Some, None, refl, option_map, append_assoc}
use Rattle.std.specs.Prelude.{slice_get, codes}
use Rattle.std.proofs.lemmas.Option.{slice_get-map}
use Rattle.type_table.specs.declared.decl.StructDecl.{StructDecl}
use Rattle.type_table.specs.TypeOf.{TypeOf, int, bool, param, number, end, more, tuple, struct}
use Rattle.type_table.specs.Rows.{type_at}
use Rattle.type_sizes.specs.Spelling.{text_of, struct_text, decl_text}
use Rattle.lar_typed.specs.declared.tree.TypedFunction.{TypedFunction}
use Rattle.lar_typed.specs.Trees.{FunctionOf, StructOf, struct_map, function_map}
use Rattle.lar_typed.specs.TreeView.{Contents, struct_view, function_view, plain}
use Rattle.mono_items.specs.declared.items.Instance.{Instance}
use Rattle.mono_items.specs.declared.items.MonoItem.{MonoItem}
use Rattle.mono_items.specs.Symbols.{path_or_none, symbol_of}
use Rattle.mono_items.specs.Units.{symbols_of}
use Rattle.mono_graph.specs.Instances.{instance_view}
use Rattle.mono_graph.specs.Graphs.{instances}
use Rattle.program_units.specs.Placing.{decl_of, path_if, symbol_in}

decl_same : (f : ℕ → TypeOf) (o : Option StructDecl) → decl_text (option_map decl_of (option_map (struct_map f) (option_map struct_view o))) ≡ decl_text o
decl_same f None = refl
decl_same f (Some s) = refl

struct_same : (f : ℕ → TypeOf) (ss : List StructDecl) (n : ℕ) → struct_text (map decl_of (map (struct_map f) (map struct_view ss))) n ≡ struct_text ss n
struct_same f ss n =
    ap decl_text (slice_get-map decl_of (map (struct_map f) (map struct_view ss)) n)
    ∙ ap (λ (o : Option (StructOf TypeOf)). decl_text (option_map decl_of o)) (slice_get-map (struct_map f) (map struct_view ss) n)
    ∙ ap (λ (o : Option (StructOf ℕ)). decl_text (option_map decl_of (option_map (struct_map f) o))) (slice_get-map struct_view ss n)
    ∙ decl_same f (slice_get ss n)

text_same : (ds es : List StructDecl) → ((n : ℕ) → struct_text ds n ≡ struct_text es n) → (t : TypeOf) → text_of ds [] t ≡ text_of es [] t
text_same ds es h int = refl
text_same ds es h bool = refl
text_same ds es h (param k) = refl
text_same ds es h (number v) = refl
text_same ds es h end = refl
text_same ds es h (more t ts) = let p = text_same ds es h t in let q = text_same ds es h ts in rw (p, q) refl
text_same ds es h (tuple ts) = let q = text_same ds es h ts in rw q refl
text_same ds es h (struct n ts) = let p = h n in let q = text_same ds es h ts in rw (p, q) refl

path_is : (f : ℕ → TypeOf) (o : Option TypedFunction) → path_if (option_map (function_map f) (option_map function_view o)) ≡ path_or_none o
path_is f None = refl
path_is f (Some g) = sym (append_assoc g.module (codes "::") g.name)

path_same : (f : ℕ → TypeOf) (fs : List TypedFunction) (n : ℕ) → path_if (slice_get (map (function_map f) (map function_view fs)) n) ≡ path_or_none (slice_get fs n)
path_same f fs n =
    ap path_if (slice_get-map (function_map f) (map function_view fs) n)
    ∙ ap (λ (o : Option (FunctionOf ℕ)). path_if (option_map (function_map f) o)) (slice_get-map function_view fs n)
    ∙ path_is f (slice_get fs n)

symbol_same : (tree : Contents) (x : Instance) → symbol_in (plain tree) (instance_view tree.rows x) ≡ symbol_of tree x
unfolding symbol_in symbol_of
symbol_same tree x =
    let p = path_same (type_at tree.rows) tree.functions x.function in
    let q = text_same (map decl_of (plain tree).structs) tree.structs (struct_same (type_at tree.rows) tree.structs) (type_at tree.rows x.arguments) in
    rw (p, q) refl

pub symbols_same : (tree : Contents) (items : List MonoItem) → map (symbol_in (plain tree)) (instances tree items) ≡ symbols_of tree items
symbols_same tree [] = refl
symbols_same tree (x ∷ items) =
    ap (λ (s : List ℕ). s ∷ map (symbol_in (plain tree)) (instances tree items)) (symbol_same tree x.instance)
    ∙ ap (λ (ss : List (List ℕ)). symbol_of tree x.instance ∷ ss) (symbols_same tree items)
