-- The structs in reading order: their depths, and how types name them.
use Rattle.std.proofs.Common.{◌≡◌, ℕ, zero, suc, ◌+◌, List, [], ◌∷◌, length, map, Some, option_map, refl, sym, ap, ◌∙◌, arith}
use Rattle.std.specs.Prelude.{slice_get}
use Rattle.lar_tree.specs.Items.{PlainStruct as PlainItem}
use Rattle.type_table.specs.declared.row.Row.{Row}
use Rattle.type_table.specs.declared.decl.StructDecl.{StructDecl}
use Rattle.type_table.specs.Rows.{type_at}
use Rattle.lar_typed.specs.Trees.{PlainStruct, struct_map}
use Rattle.lar_typed.specs.TreeView.{struct_view}
use Rattle.lar_typed.specs.Within.{StructsWithin}
use Rattle.lar_rules.specs.Declared.{What, a_module, a_struct, a_const, a_function, Declared, Places, past, Struct}
use Rattle.lar_rules.specs.Faults.{none_yet}
use Rattle.lar_rules.specs.Signatures.{struct_numbered}
use Rattle.lar_rules.specs.Structs.{followers, max_chain}
use Rattle.lar_sound.specs.InOrder.{struct_before, structs_from}
use Rattle.lar_names.specs.Numbered.{structs, struct_of, struct_at, with_first}
use Rattle.lar_names.proofs.MeantFacts.{struct_numbered_is}
use Rattle.lar_signatures.specs.declared.signatures.Signatures.{Signatures}
use Rattle.lar_signatures.specs.Depths.{AreDepths}
use Rattle.lar_signatures.specs.EachStands.{EachStands}
use Rattle.lar_signatures.specs.Signatures.{DeclStands, SignaturesStand, struct_if_known}

number_case : (d : Declared) (w : What) (p : Places) (n : ℕ) (xs : List Struct) (ys : List (Declared × PlainItem)) → ((m : ℕ) → slice_get xs m ≡ option_map (struct_at ((past p w).structs + m)) (slice_get ys m))
    → slice_get (struct_before p d w xs) n ≡ option_map (struct_at (p.structs + n)) (slice_get (with_first (struct_of d w) ys) n)
number_case d (a_struct s) p zero xs ys h = let e : p.structs ≡ p.structs + 0 = omega arith in ap (λ (k : ℕ). Some (struct_at k (d, s))) e
number_case d (a_struct s) p (suc n) xs ys h = let e : suc p.structs + n ≡ p.structs + suc n = omega arith in h n ∙ ap (λ (k : ℕ). option_map (struct_at k) (slice_get ys n)) e
number_case d a_module p n xs ys h = h n
number_case d (a_const c) p n xs ys h = h n
number_case d (a_function f) p n xs ys h = h n

numbers_from : (p : Places) (ds : List Declared) (n : ℕ) → slice_get (structs_from p ds) n ≡ option_map (struct_at (p.structs + n)) (slice_get (structs ds) n)
numbers_from p [] n = refl
numbers_from p (d ∷ ds) n = number_case d d.what p n (structs_from (past p d.what) ds) (structs ds) (λ m. numbers_from (past p d.what) ds m)

-- the struct with a number is that of the place
pub number_in_order : (all : List Declared) (n : ℕ) → slice_get (structs_from none_yet all) n ≡ struct_numbered all n
number_in_order all n = let e : 0 + n ≡ n = omega arith in numbers_from none_yet all n ∙ ap (λ (k : ℕ). option_map (struct_at k) (slice_get (structs all) n)) e ∙ sym (struct_numbered_is all n)

mapped : {A B : Type 0} (f : A → B) (xs : List A) (n : ℕ) → slice_get (map f xs) n ≡ option_map f (slice_get xs n)
mapped f [] n = refl
mapped f (x ∷ xs) zero = refl
mapped f (x ∷ xs) (suc n) = mapped f xs n

pub depths_in_order : (all : List Declared) (ns : List ℕ) → ns ≡ map (followers all max_chain) (structs_from none_yet all) → AreDepths all ns
depths_in_order all ns e = record {
  each = λ n x is. ap (λ (ys : List ℕ). slice_get ys n) e ∙ mapped (followers all max_chain) (structs_from none_yet all) n ∙ ap (option_map (followers all max_chain)) (number_in_order all n ∙ is);
}

decl_case : (rows : List Row) (all : List Declared) (d : Declared) (w : What) (p : Places) (ys : List StructDecl) (xs : List Struct) (qs : List (Declared × PlainItem))
    → ((zs : List StructDecl) → EachStands (λ n y q. DeclStands rows all y (struct_at n q)) (past p w).structs zs qs → map (struct_map (type_at rows)) (map struct_view zs) ≡ map (struct_if_known all) xs)
    → EachStands (λ n y q. DeclStands rows all y (struct_at n q)) p.structs ys (with_first (struct_of d w) qs) → map (struct_map (type_at rows)) (map struct_view ys) ≡ map (struct_if_known all) (struct_before p d w xs)
decl_case rows all d (a_struct s) p [] xs qs h st = absurd st
decl_case rows all d (a_struct s) p (y ∷ ys) xs qs h st =
    ap (λ (z : PlainStruct). z ∷ map (struct_map (type_at rows)) (map struct_view ys)) (st.0).is ∙ ap (λ (zs : List PlainStruct). struct_if_known all (struct_at p.structs (d, s)) ∷ zs) (h ys st.1)
decl_case rows all d a_module p ys xs qs h st = h ys st
decl_case rows all d (a_const c) p ys xs qs h st = h ys st
decl_case rows all d (a_function f) p ys xs qs h st = h ys st

decls_from : (rows : List Row) (all : List Declared) (p : Places) (ds : List Declared) (ys : List StructDecl) → EachStands (λ n y q. DeclStands rows all y (struct_at n q)) p.structs ys (structs ds) → map (struct_map (type_at rows)) (map struct_view ys) ≡ map (struct_if_known all) (structs_from p ds)
decls_from rows all p [] [] st = refl
decls_from rows all p [] (y ∷ ys) st = absurd st
decls_from rows all p (d ∷ ds) ys st = decl_case rows all d d.what p ys (structs_from (past p d.what) ds) (structs ds) (λ zs h. decls_from rows all (past p d.what) ds zs h) st

decls_inside : (rows : List Row) (all : List Declared) (k : ℕ) (ys : List StructDecl) (qs : List (Declared × PlainItem)) → EachStands (λ n y q. DeclStands rows all y (struct_at n q)) k ys qs → StructsWithin (length rows) (map struct_view ys)
decls_inside rows all k [] [] st = tt
decls_inside rows all k (y ∷ ys) (q ∷ qs) st = ((st.0).within, decls_inside rows all (suc k) ys qs st.1)
decls_inside rows all k [] (q ∷ qs) st = absurd st
decls_inside rows all k (y ∷ ys) [] st = absurd st

pub decls_within : (rows : List Row) (all : List Declared) (s : Signatures) → SignaturesStand rows all s → StructsWithin (length rows) (map struct_view s.decls)
decls_within rows all s st = decls_inside rows all 0 s.decls (structs all) st.decls_stand

pub decls_in_order : (rows : List Row) (all : List Declared) (s : Signatures) → SignaturesStand rows all s → map (struct_map (type_at rows)) (map struct_view s.decls) ≡ map (struct_if_known all) (structs_from none_yet all)
decls_in_order rows all s st = decls_from rows all none_yet all s.decls st.decls_stand
