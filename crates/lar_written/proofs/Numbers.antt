-- The struct that a name means is the one of its number.
use Rattle.std.proofs.Common.{◌≡◌, ℕ, zero, suc, ◌+◌, ◌<◌, ◌≤◌, Bool, true, false, List, [], ◌∷◌, ◌++◌, length, map, Option, Some, None, option_map, refl, sym, ap, ◌∙◌, subst, arith}
use Rattle.std.specs.Prelude.{if◌then◌else◌, option_and_then, slice_get}
use Rattle.std.proofs.lemmas.List.{length-map}
use Rattle.lar_tree.specs.declared.name.Path.{Path}
use Rattle.lar_tree.specs.declared.name.Name.{Name}
use Rattle.lar_tree.specs.Items.{PlainStruct}
use Rattle.lar_rules.specs.Declared.{What, a_module, a_struct, a_const, a_function, Declared, Places, past, is_named, meant_from, meant, Struct, as_struct, path_meant, struct_meant, modules_of, last_of, texts_of}
use Rattle.lar_rules.specs.Generics.{GenericName}
use Rattle.lar_rules.specs.Signatures.{this_or_later, struct_from, struct_numbered}
use Rattle.lar_rules.specs.Written.{Site, TypeName, a_generic, a_struct_type, no_type, struct_name, generic_or, type_generic, type_named}
use Rattle.type_table.specs.declared.sort.Sort.{Sort}
use Rattle.type_table.specs.declared.sort.Sort.TheVariants.{Ty as of_type}
use Rattle.lar_written.specs.Sites.{all_types}

-- the struct is found behind these places
abbrev Found : List Declared → Places → Struct → Type 0
Found ds p x = (p.structs ≤ x.number) × ((n : ℕ) → x.number ≡ p.structs + n → struct_from ds n p.structs ≡ Some x)

abbrev FoundHere : Declared → List Declared → Places → What → Struct → Type 0
FoundHere d ds p w x = (p.structs ≤ x.number) × ((n : ℕ) → x.number ≡ p.structs + n → this_or_later d w n p.structs (struct_from ds) ≡ Some x)

later : (d : Declared) (ds : List Declared) (p : Places) (w : What) (x : Struct) → Found ds (past p w) x → FoundHere d ds p w x
later d ds p a_module x h = h
later d ds p (a_const c) x h = h
later d ds p (a_function f) x h = h
later d ds p (a_struct s) x h = (let l : suc p.structs ≤ x.number = h.0 in omega arith, go)
  where
    go : (n : ℕ) → x.number ≡ p.structs + n → this_or_later d (a_struct s) n p.structs (struct_from ds) ≡ Some x
    go zero e = absurd (let l : suc p.structs ≤ x.number = h.0 in omega arith)
    go (suc n) e = h.1 n (omega arith)

here : (d : Declared) (ds : List Declared) (p : Places) (w : What) (x : Struct) → as_struct (p, d) w ≡ Some x → FoundHere d ds p w x
here d ds p a_module x e = absurd (let h : ⊥ = cc in h)
here d ds p (a_const c) x e = absurd (let h : ⊥ = cc in h)
here d ds p (a_function f) x e = absurd (let h : ⊥ = cc in h)
here d ds p (a_struct s) x e =
    let is : record { number = p.structs; from = d; it = s } ≡ x = cc in
    let number : p.structs ≡ x.number = ap (λ (y : Struct). y.number) is in
    (omega arith, go number)
  where
    go : p.structs ≡ x.number → (n : ℕ) → x.number ≡ p.structs + n → this_or_later d (a_struct s) n p.structs (struct_from ds) ≡ Some x
    go same zero k = e
    go same (suc n) k = absurd (omega arith)

found : (p : Places) (mods : List (List ℕ)) (name : List ℕ) (ds : List Declared) (m : Places × Declared) (x : Struct) → meant_from p mods name ds ≡ Some m → as_struct m (m.1).what ≡ Some x → Found ds p x
found p mods name [] m x e f = absurd (let h : ⊥ = cc in h)
found p mods name (d ∷ ds) m x e f = go (λ g. found (past p d.what) mods name ds m x g f) (is_named mods name d) e
  where
    go : (meant_from (past p d.what) mods name ds ≡ Some m → Found ds (past p d.what) x) → (b : Bool) → (if b then Some (p, d) else meant_from (past p d.what) mods name ds) ≡ Some m → FoundHere d ds p d.what x
    go more true g = let same : (p, d) ≡ m = cc in here d ds p d.what x (ap (λ (y : Places × Declared). as_struct y (y.1).what) same ∙ f)
    go more false g = later d ds p d.what x (more g)

found_all : (o : Option (Places × Declared)) (ds : List Declared) (mods : List (List ℕ)) (name : List ℕ) (x : Struct) → meant ds mods name ≡ o → option_and_then (λ m. as_struct m ((m.1).what)) o ≡ Some x → struct_numbered ds x.number ≡ Some x
found_all None ds mods name x e f = absurd (let h : ⊥ = cc in h)
found_all (Some m) ds mods name x e f = (found (record { structs = 0; consts = 0; functions = 0 }) mods name ds m x e f).1 x.number (omega arith)

pub meant_numbered : (ds : List Declared) (mods : List (List ℕ)) (name : List ℕ) (x : Struct) → option_and_then (λ m. as_struct m ((m.1).what)) (meant ds mods name) ≡ Some x → struct_numbered ds x.number ≡ Some x
meant_numbered ds mods name x f = found_all (meant ds mods name) ds mods name x refl f

name_is : (g : Option ℕ) (o : Option Struct) (x : Struct) → generic_or g (struct_name o) ≡ a_struct_type x → o ≡ Some x
name_is None None x e = absurd (let h : ⊥ = cc in h)
name_is None (Some y) x e = let same : y ≡ x = cc in ap Some same
name_is (Some k) o x e = absurd (let h : ⊥ = cc in h)

pub named_numbered : (s : Site) (p : Path) (x : Struct) → type_named s p ≡ a_struct_type x → struct_numbered s.all x.number ≡ Some x
named_numbered s p x e = meant_numbered s.all (modules_of s.modules (texts_of p)) (last_of [] (texts_of p)) x (name_is (type_generic s.generics (texts_of p)) (struct_meant s.all s.modules p) x e)

-- THE ITEM OF A NUMBER, AND ITS SORTS

pub item_is : {I : Type 0} (f : I → Declared × PlainStruct) (items : List I) (n k : ℕ) (i : I) (x : Struct) → slice_get items n ≡ Some i → option_map (λ (p : Declared × PlainStruct). record { number = k; from = p.0; it = p.1 }) (slice_get (map f items) n) ≡ Some x → (f i).1 ≡ x.it
item_is f [] n k i x a e = absurd (let h : ⊥ = cc in h)
item_is f (j ∷ items) zero k i x a e =
    let is : record { number = k; from = (f j).0; it = (f j).1 } ≡ x = cc in
    let same : j ≡ i = cc in
    ap (λ y. (f y).1) (sym same) ∙ ap (λ (y : Struct). y.it) is
item_is f (j ∷ items) (suc n) k i x a e = item_is f items n k i x a e

pub item_missing : {I : Type 0} (f : I → Declared × PlainStruct) (items : List I) (n k : ℕ) (x : Struct) → slice_get items n ≡ None → option_map (λ (p : Declared × PlainStruct). record { number = k; from = p.0; it = p.1 }) (slice_get (map f items) n) ≡ Some x → ⊥
item_missing f [] n k x a e = let h : ⊥ = cc in h
item_missing f (j ∷ items) zero k x a e = let h : ⊥ = cc in h
item_missing f (j ∷ items) (suc n) k x a e = item_missing f items n k x a e

pub types_more : (n m : ℕ) (old new : List Sort) → old ≡ all_types n → new ≡ old ++ of_type ∷ [] → m ≡ n + 1 → new ≡ all_types m
types_more n m old new is push e = push ∙ ap (λ (ss : List Sort). ss ++ of_type ∷ []) is ∙ snoc n ∙ ap all_types (let k : suc n ≡ m = omega arith in k)
  where
    snoc : (n : ℕ) → all_types n ++ of_type ∷ [] ≡ all_types (suc n)
    snoc zero = refl
    snoc (suc n) = ap (λ (ss : List Sort). of_type ∷ ss) (snoc n)

pub types_of_names : (ns : List Name) → all_types (length ns) ≡ map (λ (g : GenericName). g.sort) (map (λ n. record { name = n; sort = of_type }) ns)
types_of_names [] = refl
types_of_names (n ∷ ns) = ap (λ (ss : List Sort). of_type ∷ ss) (types_of_names ns)
