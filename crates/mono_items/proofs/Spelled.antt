-- A symbol is what was written.
use Rattle.std.proofs.Common.{◌≡◌, ℕ, ◌<◌, List, [], ◌++◌, length, get_or, refl, sym, ap, ◌∙◌, Some}
use Rattle.std.specs.Prelude.{slice_get}
use Rattle.std.proofs.lemmas.Option.{slice_get_read}
use Rattle.type_table.specs.declared.row.Row.{Row}
use Rattle.type_table.specs.declared.decl.StructDecl.{StructDecl}
use Rattle.type_table.specs.Rows.{type_at}
use Rattle.type_sizes.specs.Spelling.{text_of, angled}
use Rattle.lar_typed.specs.declared.tree.TypedFunction.{TypedFunction}
use Rattle.lar_typed.specs.TreeView.{Contents}
use Rattle.mono_items.specs.declared.items.Instance.{Instance}
use Rattle.mono_items.specs.Symbols.{path_of, path_or_none, symbol_of}

pub symbol_is : (tree : Contents) (x : Instance) (fs : List TypedFunction) (rows : List Row) (structs : List StructDecl) (f : TypedFunction) (nothing path all : List ℕ)
    → fs ≡ tree.functions → rows ≡ tree.rows → structs ≡ tree.structs → x.function < length fs → f ≡ get_or fs x.function f → nothing ≡ []
    → path ≡ nothing ++ path_of f → all ≡ path ++ angled (type_at rows x.arguments) (text_of structs [] (type_at rows x.arguments)) → all ≡ symbol_of tree x
unfolding symbol_of
symbol_is tree x fs rows structs f nothing path all same_fs same_rows same_structs room is none put rest =
    let got : slice_get fs x.function ≡ Some f = slice_get_read fs (length fs) x.function f refl room is in
    rest ∙ ap (λ (p : List ℕ). p ++ angled (type_at rows x.arguments) (text_of structs [] (type_at rows x.arguments))) (put ∙ ap (λ (n : List ℕ). n ++ path_of f) none ∙ sym (ap path_or_none (sym (ap (λ (gs : List TypedFunction). slice_get gs x.function) same_fs) ∙ got)))
    ∙ ap (λ (rs : List Row). path_or_none (slice_get tree.functions x.function) ++ angled (type_at rs x.arguments) (text_of structs [] (type_at rs x.arguments))) same_rows
    ∙ ap (λ (ss : List StructDecl). path_or_none (slice_get tree.functions x.function) ++ angled (type_at tree.rows x.arguments) (text_of ss [] (type_at tree.rows x.arguments))) same_structs
