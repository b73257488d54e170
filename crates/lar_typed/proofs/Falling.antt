-- The structs of a typed tree are falling, so that their widths can be computed.
use Rattle.std.proofs.Common.{◌≡◌, ℕ, zero, suc, ◌+◌, ◌<◌, ◌≤◌, List, [], ◌∷◌, length, map, get_or, refl, sym, ap, ◌∙◌, subst as transport, arith, Bool, true, false, Option, Some, None}
use Rattle.std.specs.Prelude.{◌&&◌, slice_get, option_map}
use Rattle.std.proofs.lemmas.Option.{slice_get_within, get_or_from_slice_get}
use Rattle.type_table.specs.declared.row.Row.{Row}
use Rattle.type_table.specs.declared.decl.StructDecl.{StructDecl}
use Rattle.type_table.specs.declared.sort.Sort.{Sort}
use Rattle.type_table.specs.declared.sort.Sort.TheVariants.{Ty as of_type}
use Rattle.type_table.specs.TypeOf.{TypeOf, int, bool, param, number, end, more, tuple, struct}
use Rattle.type_table.specs.Rows.{type_at}
use Rattle.type_table.specs.Substitution.{Below, count}
use Rattle.type_table.specs.Lawful.{Wanted, one, these, some_types, wants, first_of, others_of, fits_first, fits_struct, is_tuple_count, fits}
use Rattle.type_table.specs.Depth.{Under, fields_type, fields_of, decl_depth, depth_of, AreFalling}
use Rattle.lar_typed.specs.Trees.{PlainStruct, struct_map}
use Rattle.lar_typed.specs.Within.{StructsWithin}
use Rattle.lar_typed.specs.Lawful.{type_generics, struct_sorts}
use Rattle.lar_typed.specs.IsTyped.{struct_depth, depth_in, IsStruct, IsTyped}
use Rattle.lar_typed.specs.TreeView.{Contents, struct_view, plain, IsTypedTree}
use Rattle.lar_typed.proofs.SameTypes.{and_true}

wanted_there : (generics : List Sort) (k : ℕ) (w : Wanted) (o : Option Sort) → slice_get generics k ≡ o → wants w o ≡ true → k < length generics
wanted_there generics k w (Some s) e h = slice_get_within generics k s e
wanted_there generics k (one s) None e h = absurd (nothing h)
  where
    nothing : false ≡ true → ⊥
    nothing x = cc
wanted_there generics k (these ss) None e h = absurd (nothing h)
  where
    nothing : false ≡ true → ⊥
    nothing x = cc
wanted_there generics k some_types None e h = absurd (nothing h)
  where
    nothing : false ≡ true → ⊥
    nothing x = cc

first_there : (f : Wanted → Bool) (o : Option Sort) → fits_first f o ≡ true → (v : Wanted) × (f v ≡ true)
first_there f None h = cc
first_there f (Some s) h = (one s, h)

struct_there : (f : Wanted → Bool) (o : Option (List Sort)) → fits_struct f o ≡ true → (v : Wanted) × (f v ≡ true)
struct_there f None h = cc
struct_there f (Some ss) h = (these ss, h)

-- a lawful type has no generics but those that are there
pub fits_below : (structs : List (List Sort)) (generics : List Sort) (t : TypeOf) (w : Wanted) → fits structs generics t w ≡ true → Below (length generics) t
fits_below structs generics int w h = tt
fits_below structs generics bool w h = tt
fits_below structs generics (number v) w h = tt
fits_below structs generics end w h = tt
fits_below structs generics (param k) w h = wanted_there generics k w (slice_get generics k) refl h
fits_below structs generics (more t ts) w h =
    let p : (fits_first (fits structs generics t) (first_of w) ≡ true) × (fits structs generics ts (others_of w) ≡ true) = and_true (fits_first (fits structs generics t) (first_of w)) (fits structs generics ts (others_of w)) h in
    let v : (v : Wanted) × (fits structs generics t v ≡ true) = first_there (fits structs generics t) (first_of w) p.0 in
    (fits_below structs generics t v.0 v.1, fits_below structs generics ts (others_of w) p.1)
fits_below structs generics (tuple ts) w h =
    let p : (wants w (Some of_type) ≡ true) × ((is_tuple_count (count ts) && fits structs generics ts some_types) ≡ true) = and_true (wants w (Some of_type)) (is_tuple_count (count ts) && fits structs generics ts some_types) h in
    fits_below structs generics ts some_types (and_true (is_tuple_count (count ts)) (fits structs generics ts some_types) p.1).1
fits_below structs generics (struct n ts) w h =
    let p : (wants w (Some of_type) ≡ true) × (fits_struct (fits structs generics ts) (slice_get structs n) ≡ true) = and_true (wants w (Some of_type)) (fits_struct (fits structs generics ts) (slice_get structs n)) h in
    let v : (v : Wanted) × (fits structs generics ts v ≡ true) = struct_there (fits structs generics ts) (slice_get structs n) p.1 in
    fits_below structs generics ts v.0 v.1

below_more : (n m : ℕ) (t : TypeOf) → n ≤ m → Below n t → Below m t
below_more n m int l b = tt
below_more n m bool l b = tt
below_more n m (number v) l b = tt
below_more n m end l b = tt
below_more n m (param k) l b = (let h : k < n = b in omega arith)
below_more n m (more t ts) l b = (below_more n m t l b.0, below_more n m ts l b.1)
below_more n m (tuple ts) l b = below_more n m ts l b
below_more n m (struct k ts) l b = below_more n m ts l b

length-type_generics : (n : ℕ) → length (type_generics n) ≡ n
length-type_generics zero = refl
length-type_generics (suc n) = let h : length (type_generics n) ≡ n = length-type_generics n in omega arith

under_same : (p q : ℕ → ℕ) (d : ℕ) (t : TypeOf) → ((n : ℕ) → p n ≡ q n) → Under p d t → Under q d t
under_same p q d int e u = tt
under_same p q d bool e u = tt
under_same p q d (param k) e u = tt
under_same p q d (number v) e u = tt
under_same p q d end e u = tt
under_same p q d (more t ts) e u = (under_same p q d t e u.0, under_same p q d ts e u.1)
under_same p q d (tuple ts) e u = under_same p q d ts e u
under_same p q d (struct n ts) e u = (transport (λ (k : ℕ). k < d) (e n) u.0, under_same p q d ts e u.1)

abbrev decl_plain : List Row → StructDecl → PlainStruct
decl_plain rows s = struct_map (type_at rows) (struct_view s)

abbrev all_plain : List Row → List StructDecl → List PlainStruct
all_plain rows ss = map (struct_map (type_at rows)) (map struct_view ss)

get_plain : (rows : List Row) (ss : List StructDecl) (n : ℕ) → slice_get (all_plain rows ss) n ≡ option_map (decl_plain rows) (slice_get ss n)
get_plain rows [] n = refl
get_plain rows (s ∷ ss) zero = refl
get_plain rows (s ∷ ss) (suc n) = get_plain rows ss n

same_depth : (rows : List Row) (ss : List StructDecl) (n : ℕ) → depth_in (all_plain rows ss) n ≡ depth_of ss n
same_depth rows ss n = ap struct_depth (get_plain rows ss n) ∙ by_option (slice_get ss n)
  where
    by_option : (o : Option StructDecl) → struct_depth (option_map (decl_plain rows) o) ≡ decl_depth o
    by_option None = refl
    by_option (Some s) = refl

struct_at : (c : Contents) (n : ℕ) (s : StructDecl) → IsTyped (plain c) → slice_get c.structs n ≡ Some s → IsStruct (plain c) (decl_plain c.rows s)
struct_at c n s t e =
    let there : slice_get (all_plain c.rows c.structs) n ≡ Some (decl_plain c.rows s) = get_plain c.rows c.structs n ∙ ap (option_map (decl_plain c.rows)) e in
    transport (IsStruct (plain c)) (get_or_from_slice_get (all_plain c.rows c.structs) n (decl_plain c.rows s) (decl_plain c.rows s) there) (t.structs n (decl_plain c.rows s) (slice_get_within (all_plain c.rows c.structs) n (decl_plain c.rows s) there))

fields_room : (m : ℕ) (ss : List StructDecl) (n : ℕ) (d : StructDecl) → StructsWithin m (map struct_view ss) → n < length ss → (get_or ss n d).fields < m
fields_room m [] n d w h = absurd (omega arith)
fields_room m (s ∷ ss) zero d w h = w.0
fields_room m (s ∷ ss) (suc n) d w h = fields_room m ss n d w.1 (omega arith)

shallow_by : (c : Contents) (n : ℕ) (o : Option StructDecl) → IsTyped (plain c) → slice_get c.structs n ≡ o → decl_depth o < 64
shallow_by c n None t e = omega arith
shallow_by c n (Some s) t e = (struct_at c n s t e).shallow

falls_by : (c : Contents) (n : ℕ) (o : Option StructDecl) → IsTyped (plain c) → slice_get c.structs n ≡ o → Under (depth_of c.structs) (decl_depth o) (fields_type c.rows o)
falls_by c n None t e = tt
falls_by c n (Some s) t e = under_same (depth_in (all_plain c.rows c.structs)) (depth_of c.structs) s.depth (type_at c.rows s.fields) (same_depth c.rows c.structs) (struct_at c n s t e).falls

few_by : (c : Contents) (n : ℕ) (o : Option StructDecl) → IsTyped (plain c) → slice_get c.structs n ≡ o → Below 16 (fields_type c.rows o)
few_by c n None t e = tt
few_by c n (Some s) t e =
    let is : IsStruct (plain c) (decl_plain c.rows s) = struct_at c n s t e in
    let low : s.generics ≤ 16 = is.few_generics in
    let len : length (type_generics s.generics) ≡ s.generics = length-type_generics s.generics in
    below_more (length (type_generics s.generics)) 16 (type_at c.rows s.fields) (omega arith) (fits_below (struct_sorts (plain c).structs) (type_generics s.generics) (type_at c.rows s.fields) some_types is.lawful_fields)

pub falling : (c : Contents) → IsTypedTree c → AreFalling c.rows c.structs
falling c t = record {
  within = λ n d h. fields_room (length c.rows) c.structs n d t.within.0 h;
  shallow = λ n. shallow_by c n (slice_get c.structs n) t.typed refl;
  falls = λ n. falls_by c n (slice_get c.structs n) t.typed refl;
  few = λ n. few_by c n (slice_get c.structs n) t.typed refl;
}
