-- A written type keeps the generics of each struct that it names, and the limits of tuples.
use Rattle.std.proofs.Common.{◌≡◌, ℕ, suc, ◌+◌, ◌≤◌, refl, sym, ap, ◌∙◌, subst as transport, arith, le-leb, Bool, true, false, true≢false, if◌then◌else◌, List, [], ◌∷◌, length, slice_get, Option, Some, None, option_map, nat_le}
use Rattle.type_table.specs.TypeOf.{TypeOf, tuple, struct}
use Rattle.type_table.specs.Substitution.{count}
use Rattle.type_table.specs.declared.sort.Sort.{Sort}
use Rattle.type_table.specs.declared.sort.Sort.TheVariants.{Ty as of_type, Number as of_number}
use Rattle.type_table.specs.Lawful.{Wanted, one, these, some_types, same_sort, wants, fits_struct, is_tuple_count, fits}
use Rattle.lar_typed.proofs.SameTypes.{both_true}
use Rattle.lar_tree.specs.declared.name.Path.{Path}
use Rattle.lar_tree.specs.Stmts.{IfThere}
use Rattle.lar_tree.specs.PlainLists.{further_types}
use Rattle.lar_tree.specs.Lawful.{Every, LimitedType, LimitedTypes, LimitedArgs, LimitedArg, LimitedMoreArgs}
use Rattle.lar_tree.specs.Types.{PlainTy, int_type, bool_type, unit_type, tuple_type, named_type, generic_type, MoreTypes, last_type, next_type, PlainArgs, angle_args, PlainArg, type_arg, number_arg, MoreArgs, last_arg, next_arg}
use Rattle.lar_rules.specs.Declared.{Struct, struct_meant, texts_of}
use Rattle.lar_rules.specs.Written.{Site, Written, Given, then_type, sorted_list, Fitted, fitted, TypeName, a_generic, a_struct_type, no_type, struct_name, generic_or, type_generic, number_generic, type_named, struct_sorts, named, const_generic, number_given, type_given, written, written_others, given, given_others, one_given}
use Rattle.lar_sound.specs.Frames.{AreSortsOf}
use Rattle.lar_sound.proofs.FittedBy.{fitted_holds}
use Rattle.lar_sound.proofs.GenericsMeant.{type_generic_there, number_generic_there}

-- a type, a list of types, and arguments of these sorts
abbrev pub Fits : List (List Sort) → List Sort → Wanted → TypeOf → Type 0
Fits ss gs w t = fits ss gs t w ≡ true

abbrev pub ListFits : List (List Sort) → List Sort → ℕ → TypeOf → Type 0
ListFits ss gs n t = (fits ss gs t some_types ≡ true) × (count t ≡ n)

abbrev pub GivenFits : List (List Sort) → List Sort → Given → Type 0
GivenFits ss gs g = IfThere (Fits ss gs (one g.sort)) g.of

then_sorted : (ss : List (List Sort)) (gs : List Sort) (w : Sort) (ws : List Sort) (a b : Option TypeOf)
    → IfThere (Fits ss gs (one w)) a → IfThere (Fits ss gs (these ws)) b
    → IfThere (Fits ss gs (these (w ∷ ws))) (then_type a b)
then_sorted ss gs w ws None b h k = tt
then_sorted ss gs w ws (Some t) None h k = tt
then_sorted ss gs w ws (Some t) (Some u) h k = both_true (fits ss gs t (one w)) (fits ss gs u (these ws)) h k

same_sort_means : (a b : Sort) → same_sort a b ≡ true → a ≡ b
same_sort_means of_type of_type h = refl
same_sort_means of_number of_number h = refl
same_sort_means of_type of_number h = absurd (true≢false (sym h))
same_sort_means of_number of_type h = absurd (true≢false (sym h))

one_sorted : (ss : List (List Sort)) (gs : List Sort) (w r : Sort) (b : Bool) (o : Option TypeOf) → same_sort w r ≡ b
    → IfThere (Fits ss gs (one r)) o → IfThere (Fits ss gs (one w)) (if b then o else None)
one_sorted ss gs w r true o e h =
    transport (λ (s : Sort). IfThere (Fits ss gs (one s)) o) (sym (same_sort_means w r e)) h
one_sorted ss gs w r false o e h = tt

sorted_fits : (ss : List (List Sort)) (gens : List Sort) (ws : List Sort) (gs : List Given)
    → Every (GivenFits ss gens) gs → IfThere (Fits ss gens (these ws)) (sorted_list ws gs)
sorted_fits ss gens [] [] h = refl
sorted_fits ss gens [] (g ∷ gs) h = tt
sorted_fits ss gens (w ∷ ws) [] h = tt
sorted_fits ss gens (w ∷ ws) (g ∷ gs) h =
    then_sorted ss gens w ws (if same_sort w g.sort then g.of else None) (sorted_list ws gs)
    (one_sorted ss gens w g.sort (same_sort w g.sort) g.of refl h.0) (sorted_fits ss gens ws gs h.1)

pub fitted_fits : (ss : List (List Sort)) (gens : List Sort) (s : Site) (p : Path) (ws : List Sort) (gs : List Given)
    → Every (GivenFits ss gens) gs → IfThere (Fits ss gens (these ws)) (fitted s p ws gs).of
fitted_fits ss gens s p ws gs h =
    fitted_holds (λ (f : Fitted). IfThere (Fits ss gens (these ws)) f.of) s p ws gs (λ e. sorted_fits ss gens ws gs h)
    tt

-- NAMES

abbrev NameFits : List (List Sort) → List Sort → TypeName → Type 0
NameFits ss gens (a_generic k) = slice_get gens k ≡ Some of_type
NameFits ss gens (a_struct_type x) = slice_get ss x.number ≡ Some (struct_sorts x)
NameFits ss gens no_type = Unit {0}

struct_name_fits : (ss : List (List Sort)) (gens : List Sort) (o : Option Struct)
    → IfThere (λ (x : Struct). slice_get ss x.number ≡ Some (struct_sorts x)) o → NameFits ss gens (struct_name o)
struct_name_fits ss gens None h = tt
struct_name_fits ss gens (Some x) h = h

generic_or_fits : (ss : List (List Sort)) (gens : List Sort) (o : Option ℕ) (n : TypeName)
    → IfThere (λ (k : ℕ). slice_get gens k ≡ Some of_type) o → NameFits ss gens n → NameFits ss gens (generic_or o n)
generic_or_fits ss gens None n h k = k
generic_or_fits ss gens (Some g) n h k = h

name_fits : (ss : List (List Sort)) (gens : List Sort) (s : Site) (p : Path) → AreSortsOf ss gens s
    → NameFits ss gens (type_named s p)
name_fits ss gens s p a =
    generic_or_fits ss gens (type_generic s.generics (texts_of p)) (struct_name (struct_meant s.all s.modules p))
    (type_generic_there s.generics gens (texts_of p) a.same_generics)
    (struct_name_fits ss gens (struct_meant s.all s.modules p) (a.structs_there s.modules p))

struct_fits : (ss : List (List Sort)) (gens : List Sort) (n : ℕ) (ws : List Sort) (o : Option TypeOf)
    → slice_get ss n ≡ Some ws → IfThere (Fits ss gens (these ws)) o
    → IfThere (Fits ss gens (one of_type)) (option_map (struct n) o)
struct_fits ss gens n ws None e h = tt
struct_fits ss gens n ws (Some u) e h = ap (fits_struct (fits ss gens u)) e ∙ h

named_fits : (ss : List (List Sort)) (gens : List Sort) (s : Site) (p : Path) (n : TypeName) (gs : List Given)
    → NameFits ss gens n → Every (GivenFits ss gens) gs → IfThere (Fits ss gens (one of_type)) (named s p n gs).of
named_fits ss gens s p no_type gs k h = tt
named_fits ss gens s p (a_generic g) [] k h = ap (wants (one of_type)) k
named_fits ss gens s p (a_generic g) (x ∷ xs) k h = tt
named_fits ss gens s p (a_struct_type x) gs k h =
    struct_fits ss gens x.number (struct_sorts x) (fitted s p (struct_sorts x) gs).of k
    (fitted_fits ss gens s p (struct_sorts x) gs h)

-- TUPLES

then_list : (ss : List (List Sort)) (gs : List Sort) (n : ℕ) (a b : Option TypeOf)
    → IfThere (Fits ss gs (one of_type)) a → IfThere (ListFits ss gs n) b
    → IfThere (ListFits ss gs (suc n)) (then_type a b)
then_list ss gs n None b h k = tt
then_list ss gs n (Some t) None h k = tt
then_list ss gs n (Some t) (Some u) h k =
    (both_true (fits ss gs t (one of_type)) (fits ss gs u some_types) h k.0, ap suc k.1)

pub tuple_counted : (k : ℕ) → 2 + k ≤ 8 → is_tuple_count (suc (suc k)) ≡ true
tuple_counted k h = both_true (nat_le 1 (suc k)) (nat_le (suc k) 7) (le-leb 1 (suc k) (omega arith))
    (le-leb (suc k) 7 (omega (arith, h)))

tuple_fits : (ss : List (List Sort)) (gs : List Sort) (k : ℕ) (o : Option TypeOf) → 2 + k ≤ 8
    → IfThere (ListFits ss gs (suc (suc k))) o → IfThere (Fits ss gs (one of_type)) (option_map tuple o)
tuple_fits ss gs k None l h = tt
tuple_fits ss gs k (Some u) l h =
    both_true (is_tuple_count (count u)) (fits ss gs u some_types) (ap is_tuple_count h.1 ∙ tuple_counted k l) h.0

-- GENERICS

abbrev IsNumber : List Sort → ℕ → Type 0
IsNumber gens k = slice_get gens k ≡ Some of_number

const_there : (gens : List Sort) (s : Site) (t : PlainTy)
    → ((ns : List (List ℕ)) → IfThere (IsNumber gens) (number_generic s.generics ns))
    → IfThere (IsNumber gens) (const_generic s t)
const_there gens s (named_type p) h = h (texts_of p)
const_there gens s (generic_type p args) h = h (texts_of p)
const_there gens s (int_type at) h = tt
const_there gens s (bool_type at) h = tt
const_there gens s (unit_type from to) h = tt
const_there gens s (tuple_type from first comma second others to) h = tt

number_fits : (ss : List (List Sort)) (gens : List Sort) (s : Site) (t : PlainTy) (k : ℕ) → IsNumber gens k
    → GivenFits ss gens (number_given s t k)
number_fits ss gens s (generic_type p args) k h = tt
number_fits ss gens s (int_type at) k h = ap (wants (one of_number)) h
number_fits ss gens s (bool_type at) k h = ap (wants (one of_number)) h
number_fits ss gens s (unit_type from to) k h = ap (wants (one of_number)) h
number_fits ss gens s (tuple_type from first comma second others to) k h = ap (wants (one of_number)) h
number_fits ss gens s (named_type p) k h = ap (wants (one of_number)) h

type_given_fits : (ss : List (List Sort)) (gens : List Sort) (s : Site) (t : PlainTy) (o : Option ℕ) (w : Written)
    → IfThere (IsNumber gens) o → IfThere (Fits ss gens (one of_type)) w.of → GivenFits ss gens (type_given s t o w)
type_given_fits ss gens s t None w k h = h
type_given_fits ss gens s t (Some n) w k h = number_fits ss gens s t n k

mutual
  pub written_fits : (ss : List (List Sort)) (gens : List Sort) (s : Site) → AreSortsOf ss gens s → (t : PlainTy)
      → LimitedType t → IfThere (Fits ss gens (one of_type)) (written s t).of
  written_fits ss gens s a (int_type at) l = refl
  written_fits ss gens s a (bool_type at) l = refl
  written_fits ss gens s a (unit_type from to) l = refl
  written_fits ss gens s a (tuple_type from first comma second others to) l =
      let n : ℕ = length (further_types others) in
      tuple_fits ss gens n
      (then_type (written s first).of (then_type (written s second).of (written_others s others).of)) l.0
      (then_list ss gens (suc n) (written s first).of (then_type (written s second).of (written_others s others).of)
      (written_fits ss gens s a first l.1)
      (then_list ss gens n (written s second).of (written_others s others).of
      (written_fits ss gens s a second l.2) (others_fit ss gens s a others l.3)))
  written_fits ss gens s a (named_type p) l = named_fits ss gens s p (type_named s p) [] (name_fits ss gens s p a) tt
  written_fits ss gens s a (generic_type p args) l =
      named_fits ss gens s p (type_named s p) (given s args) (name_fits ss gens s p a) (given_fits ss gens s a args l)

  others_fit : (ss : List (List Sort)) (gens : List Sort) (s : Site) → AreSortsOf ss gens s → (ts : MoreTypes)
      → LimitedTypes ts → IfThere (ListFits ss gens (length (further_types ts))) (written_others s ts).of
  others_fit ss gens s a last_type l = (refl, refl)
  others_fit ss gens s a (next_type comma t others) l =
      then_list ss gens (length (further_types others)) (written s t).of (written_others s others).of
      (written_fits ss gens s a t l.0) (others_fit ss gens s a others l.1)

  pub given_fits : (ss : List (List Sort)) (gens : List Sort) (s : Site) → AreSortsOf ss gens s → (args : PlainArgs)
      → LimitedArgs args → Every (GivenFits ss gens) (given s args)
  given_fits ss gens s a (angle_args from first others to) l =
      (one_fits ss gens s a first l.1, more_fit ss gens s a others l.2)

  more_fit : (ss : List (List Sort)) (gens : List Sort) (s : Site) → AreSortsOf ss gens s → (args : MoreArgs)
      → LimitedMoreArgs args → Every (GivenFits ss gens) (given_others s args)
  more_fit ss gens s a last_arg l = tt
  more_fit ss gens s a (next_arg comma x others) l = (one_fits ss gens s a x l.0, more_fit ss gens s a others l.1)

  one_fits : (ss : List (List Sort)) (gens : List Sort) (s : Site) → AreSortsOf ss gens s → (x : PlainArg)
      → LimitedArg x → GivenFits ss gens (one_given s x)
  one_fits ss gens s a (type_arg t) l =
      type_given_fits ss gens s t (const_generic s t) (written s t)
      (const_there gens s t (λ ns. number_generic_there s.generics gens ns a.same_generics))
      (written_fits ss gens s a t l)
  one_fits ss gens s a (number_arg n) l = refl
