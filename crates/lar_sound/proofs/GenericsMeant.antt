-- A generic that a name means is there, and is of its sort.
use Rattle.std.proofs.Common.{◌≡◌, ℕ, suc, ◌+◌, refl, ap, ◌∙◌, subst as transport, arith, Bool, true, false, if◌then◌else◌, List, [], ◌∷◌, map, slice_get, Option, Some, None, bytes_eq}
use Rattle.type_table.specs.declared.sort.Sort.{Sort}
use Rattle.type_table.specs.declared.sort.Sort.TheVariants.{Ty as of_type, Number as of_number}
use Rattle.lar_tree.specs.Stmts.{IfThere}
use Rattle.lar_rules.specs.Generics.{GenericName, Placed, generic_from, generic_named, if_type, if_number, type_among, number_among}
use Rattle.lar_rules.specs.Written.{type_generic, number_generic}

abbrev sorts : List GenericName → List Sort
sorts gs = map (λ g. g.sort) gs

-- it is there, counted from k
abbrev From : List GenericName → ℕ → Placed → Type 0
From gs k g = (i : ℕ) × (g.place ≡ k + i) × (slice_get (sorts gs) i ≡ Some g.sort)

abbrev Here : List Sort → Placed → Type 0
Here ss g = slice_get ss g.place ≡ Some g.sort

one_from : (b : Bool) (g : GenericName) (gs : List GenericName) (k : ℕ) (o : Option Placed)
    → IfThere (From gs (suc k)) o
    → IfThere (From (g ∷ gs) k) (if b then Some (record { place = k; sort = g.sort }) else o)
one_from true g gs k o h = (0, omega arith, refl)
one_from false g gs k None h = tt
one_from false g gs k (Some p) h = (suc h.0, h.1 ∙ omega arith, h.2)

from_holds : (k : ℕ) (name : List ℕ) (gs : List GenericName) → IfThere (From gs k) (generic_from k name gs)
from_holds k name [] = tt
from_holds k name (g ∷ gs) =
    one_from (bytes_eq g.name.text name) g gs k (generic_from (suc k) name gs) (from_holds (suc k) name gs)

from_start : (gs : List GenericName) (o : Option Placed) → IfThere (From gs 0) o → IfThere (Here (sorts gs)) o
from_start gs None h = tt
from_start gs (Some g) h =
    let e : g.place ≡ h.0 = h.1 ∙ omega arith in
    ap (slice_get (sorts gs)) e ∙ h.2

named_holds : (name : List ℕ) (gs : List GenericName) → IfThere (Here (sorts gs)) (generic_named gs name)
named_holds name gs = from_start gs (generic_named gs name) (from_holds 0 name gs)

if_type_holds : (ss : List Sort) (g : Placed) (s : Sort) → slice_get ss g.place ≡ Some s
    → IfThere (λ (k : ℕ). slice_get ss k ≡ Some of_type) (if_type g s)
if_type_holds ss g of_type h = h
if_type_holds ss g of_number h = tt

if_number_holds : (ss : List Sort) (g : Placed) (s : Sort) → slice_get ss g.place ≡ Some s
    → IfThere (λ (k : ℕ). slice_get ss k ≡ Some of_number) (if_number g s)
if_number_holds ss g of_type h = tt
if_number_holds ss g of_number h = h

type_among_holds : (ss : List Sort) (o : Option Placed) → IfThere (Here ss) o
    → IfThere (λ (k : ℕ). slice_get ss k ≡ Some of_type) (type_among o)
type_among_holds ss None h = tt
type_among_holds ss (Some g) h = if_type_holds ss g g.sort h

number_among_holds : (ss : List Sort) (o : Option Placed) → IfThere (Here ss) o
    → IfThere (λ (k : ℕ). slice_get ss k ≡ Some of_number) (number_among o)
number_among_holds ss None h = tt
number_among_holds ss (Some g) h = if_number_holds ss g g.sort h

type_there : (gs : List GenericName) (ns : List (List ℕ))
    → IfThere (λ (k : ℕ). slice_get (sorts gs) k ≡ Some of_type) (type_generic gs ns)
type_there gs [] = tt
type_there gs (n ∷ []) = type_among_holds (sorts gs) (generic_named gs n) (named_holds n gs)
type_there gs (n ∷ m ∷ ns) = tt

number_there : (gs : List GenericName) (ns : List (List ℕ))
    → IfThere (λ (k : ℕ). slice_get (sorts gs) k ≡ Some of_number) (number_generic gs ns)
number_there gs [] = tt
number_there gs (n ∷ []) = number_among_holds (sorts gs) (generic_named gs n) (named_holds n gs)
number_there gs (n ∷ m ∷ ns) = tt

pub type_generic_there : (gs : List GenericName) (ss : List Sort) (ns : List (List ℕ)) → map (λ g. g.sort) gs ≡ ss
    → IfThere (λ (k : ℕ). slice_get ss k ≡ Some of_type) (type_generic gs ns)
type_generic_there gs ss ns e =
    transport (λ (xs : List Sort). IfThere (λ (k : ℕ). slice_get xs k ≡ Some of_type) (type_generic gs ns)) e
    (type_there gs ns)

pub number_generic_there : (gs : List GenericName) (ss : List Sort) (ns : List (List ℕ)) → map (λ g. g.sort) gs ≡ ss
    → IfThere (λ (k : ℕ). slice_get ss k ≡ Some of_number) (number_generic gs ns)
number_generic_there gs ss ns e =
    transport (λ (xs : List Sort). IfThere (λ (k : ℕ). slice_get xs k ≡ Some of_number) (number_generic gs ns)) e
    (number_there gs ns)
