-- Where no chain is too long, the depth falls from a struct to each that its fields mention.
use Rattle.std.proofs.Common.{◌≡◌, ℕ, zero, suc, ◌<◌, ◌≤◌, max, refl, sym, ap, ◌∙◌, subst as transport, arith, true≢false, Bool, true, false, if◌then◌else◌, List, [], ◌∷◌, ◌++◌, map, Option, Some, None, option_map}
use Rattle.std.proofs.Math.Nat.{le-max_left, le-max_right, max-le}
use Rattle.type_table.specs.TypeOf.{TypeOf, tuple, struct}
use Rattle.type_table.specs.Depth.{Under}
use Rattle.type_table.specs.Lawful.{same_sort}
use Rattle.type_table.specs.declared.sort.Sort.{Sort}
use Rattle.lar_typed.specs.SameType.{list_of}
use Rattle.lar_tree.specs.declared.name.Path.{Path}
use Rattle.lar_tree.specs.Items.{PlainField}
use Rattle.lar_tree.specs.Stmts.{IfThere}
use Rattle.lar_tree.specs.Lawful.{Every}
use Rattle.lar_tree.specs.Types.{PlainTy, int_type, bool_type, unit_type, tuple_type, named_type, generic_type, MoreTypes, last_type, next_type, PlainArgs, angle_args, PlainArg, type_arg, number_arg, MoreArgs, last_arg, next_arg}
use Rattle.lar_rules.specs.Declared.{Declared, Struct, struct_meant, texts_of}
use Rattle.lar_rules.specs.Written.{Site, Written, Given, then_type, sorted_list, Fitted, fitted, TypeName, a_generic, a_struct_type, no_type, struct_name, generic_or, type_generic, type_named, struct_sorts, named, const_generic, number_given, type_given, written, written_others, given, given_others, one_given}
use Rattle.lar_rules.specs.Signatures.{member}
use Rattle.lar_rules.specs.Structs.{struct_mentioned, mentions, mentions_of_others, mentions_of_args, mentions_of_arg, mentions_of_more, mentions_of_fields, next_structs, any_of, is_followed, most_of, followers, max_chain, nesting_faults}
use Rattle.lar_rules.specs.Checked.{all_known}
use Rattle.lar_sound.specs.Known.{IsFaultless}
use Rattle.lar_sound.proofs.FittedBy.{fitted_holds}
use Rattle.lar_sound.proofs.Known.{some_same, told_false, or_false}
use Rattle.lar_sound.proofs.FramesFit.{known_parts}
use Rattle.lar_sound.proofs.EachOf.{every_parts, every_join}

-- CHAINS

abbrev IsEnded : List Declared → ℕ → Struct → Type 0
IsEnded all n x = is_followed all n x ≡ false

most_below : (all : List Declared) (n : ℕ) (xs : List Struct) → ((y : Struct) → IsEnded all n y → followers all n y < n)
    → any_of (is_followed all n) xs ≡ false → most_of (followers all n) xs < suc n
most_below all n [] f h = omega arith
most_below all n (x ∷ xs) f h =
    let p = or_false (is_followed all n x) (any_of (is_followed all n) xs) h in
    let a : followers all n x < n = f x p.0 in
    let b : most_of (followers all n) xs < suc n = most_below all n xs f p.1 in
    let c : suc (followers all n x) ≤ n = omega arith in
    let d : most_of (followers all n) xs ≤ n = omega arith in
    let e : max (suc (followers all n x)) (most_of (followers all n) xs) ≤ n = max-le c d in
    omega (arith, e)

-- a struct that no chain of n others follows has fewer followers
pub followers_below : (all : List Declared) (n : ℕ) (x : Struct) → is_followed all n x ≡ false → followers all n x < n
followers_below all zero x h = absurd (true≢false h)
followers_below all (suc n) x h = most_below all n (next_structs all x) (followers_below all n) h

most_stays : (all : List Declared) (n : ℕ) (xs : List Struct)
    → ((y : Struct) → IsEnded all n y → followers all (suc n) y ≡ followers all n y)
    → any_of (is_followed all n) xs ≡ false → most_of (followers all (suc n)) xs ≡ most_of (followers all n) xs
most_stays all n [] f h = refl
most_stays all n (x ∷ xs) f h =
    let p = or_false (is_followed all n x) (any_of (is_followed all n) xs) h in
    ap (λ (k : ℕ). max (suc k) (most_of (followers all (suc n)) xs)) (f x p.0)
    ∙ ap (max (suc (followers all n x))) (most_stays all n xs f p.1)

followers_stay : (all : List Declared) (n : ℕ) (x : Struct) → is_followed all n x ≡ false
    → followers all (suc n) x ≡ followers all n x
followers_stay all zero x h = absurd (true≢false h)
followers_stay all (suc n) x h = most_stays all n (next_structs all x) (followers_stay all n) h

each_under : (all : List Declared) (n m : ℕ) (xs : List Struct) → most_of (followers all n) xs ≤ m
    → any_of (is_followed all n) xs ≡ false → Every (λ (y : Struct). followers all (suc n) y < m) xs
each_under all n m [] l h = tt
each_under all n m (x ∷ xs) l h =
    let p = or_false (is_followed all n x) (any_of (is_followed all n) xs) h in
    let e : followers all (suc n) x ≡ followers all n x = followers_stay all n x p.0 in
    let a : suc (followers all n x) ≤ max (suc (followers all n x)) (most_of (followers all n) xs) =
    le-max_left (suc (followers all n x)) (most_of (followers all n) xs) in
    let b : most_of (followers all n) xs ≤ max (suc (followers all n x)) (most_of (followers all n) xs) =
    le-max_right (suc (followers all n x)) (most_of (followers all n) xs) in
    let c : followers all n x < m = omega (arith, a, l) in
    (transport (λ (k : ℕ). k < m) (sym e) c, each_under all n m xs (omega (arith, b, l)) p.1)

next_under_suc : (all : List Declared) (n : ℕ) (x : Struct) → is_followed all (suc n) x ≡ false
    → Every (λ (y : Struct). followers all (suc n) y < followers all (suc n) x) (next_structs all x)
next_under_suc all n x h = each_under all n (followers all (suc n) x) (next_structs all x) (omega arith) h

-- it has more followers than each struct that its fields mention
pub next_under : (all : List Declared) (n : ℕ) (x : Struct) → is_followed all n x ≡ false
    → Every (λ (y : Struct). followers all n y < followers all n x) (next_structs all x)
next_under all zero x h = absurd (true≢false h)
next_under all (suc n) x h = next_under_suc all n x h

-- a struct without a fault has a depth below 64, and so has each that its fields mention below its own
pub not_followed : (all : List Declared) (x : Struct) → IsFaultless (nesting_faults all x)
    → is_followed all max_chain x ≡ false
not_followed all x h = told_false (is_followed all max_chain x) _ h

pub chain_below : (all : List Declared) (x : Struct) → IsFaultless (nesting_faults all x)
    → followers all max_chain x < 64
chain_below all x h = followers_below all max_chain x (not_followed all x h)

pub chain_falls : (all : List Declared) (x : Struct) → IsFaultless (nesting_faults all x)
    → Every (λ (y : Struct). followers all max_chain y < followers all max_chain x) (next_structs all x)
chain_falls all x h = next_under all max_chain x (not_followed all x h)

-- WHAT IS MENTIONED

abbrev IsMeant : (Struct → Type 0) → Site → Type 0
IsMeant P s = (here : List (List ℕ)) (p : Path) → IfThere P (struct_meant s.all here p)

struct_holds : (P : Struct → Type 0) (o : Option ℕ) (x : Option Struct) → IfThere P x
    → Every P (struct_mentioned (generic_or o (struct_name x)))
struct_holds P (Some k) x h = tt
struct_holds P None None h = tt
struct_holds P None (Some x) h = (h, tt)

named_holds : (P : Struct → Type 0) (s : Site) (p : Path) → IsMeant P s → Every P (struct_mentioned (type_named s p))
named_holds P s p m = struct_holds P (type_generic s.generics (texts_of p)) (struct_meant s.all s.modules p)
    (m s.modules p)

-- what holds of each struct that a path means holds of each that is mentioned
mutual
  mentions_hold : (P : Struct → Type 0) (s : Site) → IsMeant P s → (t : PlainTy) → Every P (mentions s t)
  mentions_hold P s m (int_type at) = tt
  mentions_hold P s m (bool_type at) = tt
  mentions_hold P s m (unit_type from to) = tt
  mentions_hold P s m (tuple_type from first comma second others to) =
      every_join P (mentions s first) (mentions s second ++ mentions_of_others s others) (mentions_hold P s m first)
      (every_join P (mentions s second) (mentions_of_others s others) (mentions_hold P s m second)
      (others_hold P s m others))
  mentions_hold P s m (named_type p) = named_holds P s p m
  mentions_hold P s m (generic_type p args) =
      every_join P (struct_mentioned (type_named s p)) (mentions_of_args s args) (named_holds P s p m)
      (args_hold P s m args)

  others_hold : (P : Struct → Type 0) (s : Site) → IsMeant P s → (ts : MoreTypes) → Every P (mentions_of_others s ts)
  others_hold P s m last_type = tt
  others_hold P s m (next_type comma t others) =
      every_join P (mentions s t) (mentions_of_others s others) (mentions_hold P s m t) (others_hold P s m others)

  args_hold : (P : Struct → Type 0) (s : Site) → IsMeant P s → (args : PlainArgs) → Every P (mentions_of_args s args)
  args_hold P s m (angle_args from first others to) =
      every_join P (mentions_of_arg s first) (mentions_of_more s others) (arg_holds P s m first)
      (more_hold P s m others)

  arg_holds : (P : Struct → Type 0) (s : Site) → IsMeant P s → (a : PlainArg) → Every P (mentions_of_arg s a)
  arg_holds P s m (type_arg t) = mentions_hold P s m t
  arg_holds P s m (number_arg n) = tt

  more_hold : (P : Struct → Type 0) (s : Site) → IsMeant P s → (args : MoreArgs) → Every P (mentions_of_more s args)
  more_hold P s m last_arg = tt
  more_hold P s m (next_arg comma a others) =
      every_join P (mentions_of_arg s a) (mentions_of_more s others) (arg_holds P s m a) (more_hold P s m others)

pub fields_hold : (P : Struct → Type 0) (s : Site) → IsMeant P s → (fs : List PlainField)
    → Every P (mentions_of_fields s fs)
fields_hold P s m [] = tt
fields_hold P s m (f ∷ fs) = every_join P (mentions s f.2) (mentions_of_fields s fs) (mentions_hold P s m f.2)
    (fields_hold P s m fs)

-- DEPTHS OF TYPES

abbrev Lower : (ℕ → ℕ) → ℕ → Struct → Type 0
Lower depth d y = depth y.number < d

abbrev UnderIf : (ℕ → ℕ) → ℕ → Option TypeOf → Type 0
UnderIf depth d o = IfThere (λ (t : TypeOf). Under depth d t) o

abbrev GivenUnder : (ℕ → ℕ) → ℕ → Given → Type 0
GivenUnder depth d g = UnderIf depth d g.of

then_under : (depth : ℕ → ℕ) (d : ℕ) (a b : Option TypeOf) → UnderIf depth d a → UnderIf depth d b
    → UnderIf depth d (then_type a b)
then_under depth d None b h k = tt
then_under depth d (Some t) None h k = tt
then_under depth d (Some t) (Some u) h k = (h, k)

if_under : (depth : ℕ → ℕ) (d : ℕ) (b : Bool) (o : Option TypeOf) → UnderIf depth d o
    → UnderIf depth d (if b then o else None)
if_under depth d true o h = h
if_under depth d false o h = tt

sorted_under : (depth : ℕ → ℕ) (d : ℕ) (ws : List Sort) (gs : List Given) → Every (GivenUnder depth d) gs
    → UnderIf depth d (sorted_list ws gs)
sorted_under depth d [] [] h = tt
sorted_under depth d [] (g ∷ gs) h = tt
sorted_under depth d (w ∷ ws) [] h = tt
sorted_under depth d (w ∷ ws) (g ∷ gs) h =
    then_under depth d (if same_sort w g.sort then g.of else None) (sorted_list ws gs)
    (if_under depth d (same_sort w g.sort) g.of h.0) (sorted_under depth d ws gs h.1)

fitted_under : (depth : ℕ → ℕ) (d : ℕ) (s : Site) (p : Path) (ws : List Sort) (gs : List Given)
    → Every (GivenUnder depth d) gs → UnderIf depth d (fitted s p ws gs).of
fitted_under depth d s p ws gs h =
    fitted_holds (λ (f : Fitted). UnderIf depth d f.of) s p ws gs (λ e. sorted_under depth d ws gs h) tt

struct_under : (depth : ℕ → ℕ) (d n : ℕ) (o : Option TypeOf) → depth n < d → UnderIf depth d o
    → UnderIf depth d (option_map (struct n) o)
struct_under depth d n None l h = tt
struct_under depth d n (Some t) l h = (l, h)

named_under : (depth : ℕ → ℕ) (d : ℕ) (s : Site) (p : Path) (n : TypeName) (gs : List Given)
    → Every (Lower depth d) (struct_mentioned n) → Every (GivenUnder depth d) gs → UnderIf depth d (named s p n gs).of
named_under depth d s p no_type gs l h = tt
named_under depth d s p (a_generic k) [] l h = tt
named_under depth d s p (a_generic k) (g ∷ gs) l h = tt
named_under depth d s p (a_struct_type x) gs l h =
    struct_under depth d x.number (fitted s p (struct_sorts x) gs).of l.0
    (fitted_under depth d s p (struct_sorts x) gs h)

tuple_under : (depth : ℕ → ℕ) (d : ℕ) (o : Option TypeOf) → UnderIf depth d o → UnderIf depth d (option_map tuple o)
tuple_under depth d None h = tt
tuple_under depth d (Some t) h = h

number_under : (depth : ℕ → ℕ) (d : ℕ) (s : Site) (t : PlainTy) (k : ℕ) → GivenUnder depth d (number_given s t k)
number_under depth d s (int_type at) k = tt
number_under depth d s (bool_type at) k = tt
number_under depth d s (unit_type from to) k = tt
number_under depth d s (tuple_type from first comma second others to) k = tt
number_under depth d s (named_type p) k = tt
number_under depth d s (generic_type p args) k = tt

type_given_under : (depth : ℕ → ℕ) (d : ℕ) (s : Site) (t : PlainTy) (o : Option ℕ) (w : Written) → UnderIf depth d w.of
    → GivenUnder depth d (type_given s t o w)
type_given_under depth d s t None w h = h
type_given_under depth d s t (Some k) w h = number_under depth d s t k

mutual
  written_under : (depth : ℕ → ℕ) (d : ℕ) (s : Site) (t : PlainTy) → Every (Lower depth d) (mentions s t)
      → UnderIf depth d (written s t).of
  written_under depth d s (int_type at) h = tt
  written_under depth d s (bool_type at) h = tt
  written_under depth d s (unit_type from to) h = tt
  written_under depth d s (tuple_type from first comma second others to) h =
      let p = every_parts (Lower depth d) (mentions s first) (mentions s second ++ mentions_of_others s others) h in
      let q = every_parts (Lower depth d) (mentions s second) (mentions_of_others s others) p.1 in
      tuple_under depth d
      (then_type (written s first).of (then_type (written s second).of (written_others s others).of))
      (then_under depth d (written s first).of (then_type (written s second).of (written_others s others).of)
      (written_under depth d s first p.0)
      (then_under depth d (written s second).of (written_others s others).of
      (written_under depth d s second q.0) (others_under depth d s others q.1)))
  written_under depth d s (named_type p) h = named_under depth d s p (type_named s p) [] h tt
  written_under depth d s (generic_type p args) h =
      let q = every_parts (Lower depth d) (struct_mentioned (type_named s p)) (mentions_of_args s args) h in
      named_under depth d s p (type_named s p) (given s args) q.0 (given_under depth d s args q.1)

  others_under : (depth : ℕ → ℕ) (d : ℕ) (s : Site) (ts : MoreTypes) → Every (Lower depth d) (mentions_of_others s ts)
      → UnderIf depth d (written_others s ts).of
  others_under depth d s last_type h = tt
  others_under depth d s (next_type comma t others) h =
      let p = every_parts (Lower depth d) (mentions s t) (mentions_of_others s others) h in
      then_under depth d (written s t).of (written_others s others).of (written_under depth d s t p.0)
      (others_under depth d s others p.1)

  given_under : (depth : ℕ → ℕ) (d : ℕ) (s : Site) (args : PlainArgs) → Every (Lower depth d) (mentions_of_args s args)
      → Every (GivenUnder depth d) (given s args)
  given_under depth d s (angle_args from first others to) h =
      let p = every_parts (Lower depth d) (mentions_of_arg s first) (mentions_of_more s others) h in
      (one_under depth d s first p.0, more_under depth d s others p.1)

  one_under : (depth : ℕ → ℕ) (d : ℕ) (s : Site) (a : PlainArg) → Every (Lower depth d) (mentions_of_arg s a)
      → GivenUnder depth d (one_given s a)
  one_under depth d s (type_arg t) h =
      type_given_under depth d s t (const_generic s t) (written s t) (written_under depth d s t h)
  one_under depth d s (number_arg n) h = tt

  more_under : (depth : ℕ → ℕ) (d : ℕ) (s : Site) (args : MoreArgs) → Every (Lower depth d) (mentions_of_more s args)
      → Every (GivenUnder depth d) (given_others s args)
  more_under depth d s last_arg h = tt
  more_under depth d s (next_arg comma a others) h =
      let p = every_parts (Lower depth d) (mentions_of_arg s a) (mentions_of_more s others) h in
      (one_under depth d s a p.0, more_under depth d s others p.1)

known_under : (depth : ℕ → ℕ) (d : ℕ) (o : Option TypeOf) (t : TypeOf) → o ≡ Some t → UnderIf depth d o
    → Under depth d t
known_under depth d None t e h = absurd (let no : ⊥ = cc in no)
known_under depth d (Some u) t e h = transport (λ (x : TypeOf). Under depth d x) (some_same u t e) h

-- the types of fields that mention lower structs alone
pub fields_under : (depth : ℕ → ℕ) (d : ℕ) (s : Site) (fs : List PlainField) (ts : List TypeOf)
    → all_known (map (λ m. m.1) (map (member s) fs)) ≡ Some ts → Every (Lower depth d) (mentions_of_fields s fs)
    → Under depth d (list_of ts)
fields_under depth d s [] ts e h = transport (λ (us : List TypeOf). Under depth d (list_of us)) (some_same [] ts e) tt
fields_under depth d s (f ∷ fs) ts e h =
    let p = known_parts (written s f.2).of (all_known (map (λ m. m.1) (map (member s) fs))) ts e in
    let q = every_parts (Lower depth d) (mentions s f.2) (mentions_of_fields s fs) h in
    transport (λ (us : List TypeOf). Under depth d (list_of us)) p.are (
      known_under depth d (written s f.2).of p.first p.first_is (written_under depth d s f.2 q.0),
      fields_under depth d s fs p.others p.others_are q.1,
    )
