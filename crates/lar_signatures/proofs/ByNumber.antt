-- The signature of a number, and the path by which a struct is printed.
use Rattle.std.proofs.Common.{◌≡◌, ℕ, zero, suc, List, [], ◌∷◌, map, Option, Some, None, option_map, refl, sym, ap, ◌∙◌, subst, codes, append_assoc}
use Rattle.std.specs.Prelude.{slice_get}
use Rattle.type_table.specs.declared.row.Row.{Row}
use Rattle.type_table.specs.declared.decl.StructDecl.{StructDecl}
use Rattle.type_sizes.specs.Spelling.{decl_text, struct_text}
use Rattle.lar_tree.specs.Items.{PlainStruct}
use Rattle.lar_typed.specs.Paths.{item_path}
use Rattle.lar_typed.specs.Trees.{PlainStruct as TypedStruct}
use Rattle.lar_tree.specs.declared.name.Name.{Name}
use Rattle.lar_rules.specs.Declared.{Declared, Struct}
use Rattle.lar_rules.specs.Printed.{joined, path_or_later, struct_path}
use Rattle.lar_rules.specs.Signatures.{struct_numbered}
use Rattle.lar_names.specs.Numbered.{structs, functions, struct_of, struct_at, function_at, function_numbered, with_first}
use Rattle.lar_names.specs.declared.declaration.What.{What}
use Rattle.lar_names.specs.declared.declaration.What.TheVariants as what
use Rattle.lar_names.specs.declared.declaration.Declaration.{Declaration}
use Rattle.lar_names.specs.declared.names.Names.{Names}
use Rattle.lar_names.specs.Declarations.{declared_view, what_view, what_name}
use Rattle.lar_names.specs.NamesView.{names_view, scope_lists}
use Rattle.lar_names.proofs.MeantFacts.{struct_numbered_is}
use Rattle.lar_signatures.specs.declared.signatures.Signatures.{Signatures}
use Rattle.lar_signatures.specs.EachStands.{IfStands}
use Rattle.lar_signatures.specs.Signatures.{StructStands, FunctionStands, DeclStands, SignaturesStand}
use Rattle.lar_signatures.proofs.Each.{each_at}

-- members of two lists that stand for one another, seen as the items of a number
mapped : {A B C : Type 0} (P : A → C → Type 0) (f : B → C) (x : Option A) (y : Option B) → IfStands (λ a b. P a (f b)) x y → IfStands P x (option_map f y)
mapped P f None None h = tt
mapped P f (Some x) (Some y) h = h
mapped P f None (Some y) h = h
mapped P f (Some x) None h = h

pub struct_of_number : (rows : List Row) (all : List Declared) (s : Signatures) (n : ℕ) → SignaturesStand rows all s → IfStands (StructStands rows all) (slice_get s.structs.items n) (struct_numbered all n)
struct_of_number rows all s n st =
    subst (λ (o : Option Struct). IfStands (StructStands rows all) (slice_get s.structs.items n) o) (sym (struct_numbered_is all n))
    (mapped (StructStands rows all) (struct_at n) (slice_get s.structs.items n) (slice_get (structs all) n) (each_at (λ k y p. StructStands rows all y (struct_at k p)) n s.structs.items (structs all) st.structs_stand))

pub function_of_number : (rows : List Row) (all : List Declared) (s : Signatures) (n : ℕ) → SignaturesStand rows all s → IfStands (FunctionStands rows all) (slice_get s.functions.items n) (function_numbered all n)
function_of_number rows all s n st =
    mapped (FunctionStands rows all) (function_at n) (slice_get s.functions.items n) (slice_get (functions all) n) (each_at (λ k y p. FunctionStands rows all y (function_at k p)) n s.functions.items (functions all) st.functions_stand)

pub decl_of_number : (rows : List Row) (all : List Declared) (s : Signatures) (n : ℕ) → SignaturesStand rows all s → IfStands (DeclStands rows all) (slice_get s.decls n) (struct_numbered all n)
decl_of_number rows all s n st =
    subst (λ (o : Option Struct). IfStands (DeclStands rows all) (slice_get s.decls n) o) (sym (struct_numbered_is all n))
    (mapped (DeclStands rows all) (struct_at n) (slice_get s.decls n) (slice_get (structs all) n) (each_at (λ k y p. DeclStands rows all y (struct_at k p)) n s.decls (structs all) st.decls_stand))

-- the path of a struct, where it is declared
path_of : Option Struct → List ℕ
path_of None = []
path_of (Some x) = item_path (joined x.from.modules) x.it.name.text

other_number : (a b : ℕ) (o : Option (Declared × PlainStruct)) → path_of (option_map (struct_at a) o) ≡ path_of (option_map (struct_at b) o)
unfolding path_of
other_number a b None = refl
other_number a b (Some p) = refl

path_case : (d : Declared) (w : What) (n : ℕ) (later : ℕ → List ℕ) (rest : List (Declared × PlainStruct)) → d.name ≡ what_name w → ((m : ℕ) → later m ≡ path_of (option_map (struct_at m) (slice_get rest m)))
    → path_or_later d (what_view w) n later ≡ path_of (option_map (struct_at n) (slice_get (with_first (struct_of d (what_view w)) rest) n))
unfolding path_of
path_case d (what.Struct s) zero later rest e h = ap (λ (m : Name). item_path (joined d.modules) m.text) e
path_case d (what.Struct s) (suc n) later rest e h = h n ∙ other_number n (suc n) (slice_get rest n)
path_case d (what.Module m) n later rest e h = h n
path_case d (what.Const c) n later rest e h = h n
path_case d (what.Function f) n later rest e h = h n

paths_are : (lists : List (List (List ℕ))) (ds : List Declaration) (n : ℕ) → struct_path (map (declared_view lists) ds) n ≡ path_of (option_map (struct_at n) (slice_get (structs (map (declared_view lists) ds)) n))
unfolding path_of
paths_are lists [] n = refl
paths_are lists (d ∷ ds) n = path_case (declared_view lists d) d.what n (struct_path (map (declared_view lists) ds)) (structs (map (declared_view lists) ds)) refl (λ m. paths_are lists ds m)

decl_path : (rows : List Row) (all : List Declared) (d : Option StructDecl) (x : Option Struct) → IfStands (DeclStands rows all) d x → decl_text d ≡ path_of x
unfolding path_of
decl_path rows all None None h = refl
decl_path rows all (Some d) (Some x) h =
    append_assoc d.module (codes "::") d.name
    ∙ ap (λ (s : TypedStruct). item_path s.module_path s.name) h.is
decl_path rows all None (Some x) h = absurd h
decl_path rows all (Some d) None h = absurd h

pub printed_by_number : (rows : List Row) (names : Names) (s : Signatures) (n : ℕ) → SignaturesStand rows (names_view names) s → struct_text s.decls n ≡ struct_path (names_view names) n
printed_by_number rows names s n st =
    decl_path rows (names_view names) (slice_get s.decls n) (struct_numbered (names_view names) n) (decl_of_number rows (names_view names) s n st)
    ∙ ap path_of (struct_numbered_is (names_view names) n) ∙ sym (paths_are (scope_lists names) names.declared.items n)
