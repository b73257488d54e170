use Rattle.std.proofs.Common.{◌≡◌, ℕ, zero, suc, ◌+◌, ◌<◌, ◌≤◌, List, [], ◌∷◌, get_or, refl, sym, ap, ◌∙◌, arith, Bool, true, false, Option, Some, None}
use Rattle.std.specs.Prelude.{◌&&◌, slice_get}
use Rattle.type_table.specs.TypeOf.{TypeOf, int, bool, param, number, end, more, tuple, struct}
use Rattle.type_table.specs.Substitution.{subst, argument, or_type}
use Rattle.type_table.specs.declared.sort.Sort.{Sort}
use Rattle.type_table.specs.declared.sort.Sort.TheVariants.{Ty as of_type}
use Rattle.type_table.specs.Substitution.{count}
use Rattle.type_table.specs.Lawful.{is_tuple_count, Wanted, one, these, some_types, wants, first_of, others_of, fits_first, fits_struct, fits}
use Rattle.type_table.specs.Depth.{Under}
use Rattle.type_widths.specs.Width.{width_by, widths_by, struct_width, width}

and_parts : (a b : Bool) → (a && b) ≡ true → (a ≡ true) × (b ≡ true)
and_parts true true h = (refl, refl)
and_parts true false h = cc
and_parts false b h = cc

record Same (s : ℕ → List ℕ → ℕ) (ws vs : List ℕ) (u t : TypeOf) : Type 0 where
  width : width_by s ws u ≡ width_by s vs t
  members : widths_by s ws u ≡ widths_by s vs t

-- what fits in one place is no list
alone : (s : ℕ → List ℕ → ℕ) (ws : List ℕ) (structs : List (List Sort)) (new : List Sort) (t : TypeOf) (r : Sort) → fits structs new t (one r) ≡ true → widths_by s ws t ≡ []
alone s ws structs new (more t ts) r h = cc
alone s ws structs new int r h = refl
alone s ws structs new bool r h = refl
alone s ws structs new (param k) r h = refl
alone s ws structs new (number v) r h = refl
alone s ws structs new end r h = refl
alone s ws structs new (tuple ts) r h = refl
alone s ws structs new (struct n ts) r h = refl

argument_width : (s : ℕ → List ℕ → ℕ) (ws : List ℕ) (structs : List (List Sort)) (old new : List Sort) (a d : TypeOf) (k : ℕ) (w : Wanted) → fits structs new a (these old) ≡ true → wants w (slice_get old k) ≡ true → (width_by s ws (or_type (argument a k) d) ≡ get_or (widths_by s ws a) k 0) × (widths_by s ws (or_type (argument a k) d) ≡ [])
argument_width s ws structs [] new a d k (one r) f h = cc
argument_width s ws structs (r ∷ old) new (more t ts) d zero (one q) f h = (refl, alone s ws structs new t r (and_parts (fits structs new t (one r)) (fits structs new ts (these old)) f).0)
argument_width s ws structs (r ∷ old) new (more t ts) d (suc k) (one q) f h =
    argument_width s ws structs old new ts d k (one q) (and_parts (fits structs new t (one r)) (fits structs new ts (these old)) f).1 h
argument_width s ws structs (r ∷ old) new int d k (one q) f h = cc
argument_width s ws structs (r ∷ old) new bool d k (one q) f h = cc
argument_width s ws structs (r ∷ old) new (param n) d k (one q) f h = cc
argument_width s ws structs (r ∷ old) new (number n) d k (one q) f h = cc
argument_width s ws structs (r ∷ old) new end d k (one q) f h = cc
argument_width s ws structs (r ∷ old) new (tuple n) d k (one q) f h = cc
argument_width s ws structs (r ∷ old) new (struct n m) d k (one q) f h = cc
argument_width s ws structs old new a d k (these ss) f h = cc
argument_width s ws structs old new a d k some_types f h = cc

first_wanted : (f : Wanted → Bool) (o : Option Sort) → fits_first f o ≡ true → (v : Wanted) × (f v ≡ true)
first_wanted f None h = cc
first_wanted f (Some s) h = (one s, h)

struct_wanted : (f : Wanted → Bool) (o : Option (List Sort)) → fits_struct f o ≡ true → (v : Wanted) × (f v ≡ true)
struct_wanted f None h = cc
struct_wanted f (Some ss) h = (these ss, h)

replaced : (s : ℕ → List ℕ → ℕ) (ws : List ℕ) (structs : List (List Sort)) (old new : List Sort) (a t : TypeOf) (w : Wanted) → fits structs new a (these old) ≡ true → fits structs old t w ≡ true → Same s ws (widths_by s ws a) (subst a t) t
replaced s ws structs old new a int w f h = record { width = refl; members = refl }
replaced s ws structs old new a bool w f h = record { width = refl; members = refl }
replaced s ws structs old new a (number v) w f h = record { width = refl; members = refl }
replaced s ws structs old new a end w f h = record { width = refl; members = refl }
replaced s ws structs old new a (param k) w f h =
    let p : (width_by s ws (or_type (argument a k) (param k)) ≡ get_or (widths_by s ws a) k 0) × (widths_by s ws (or_type (argument a k) (param k)) ≡ []) = argument_width s ws structs old new a (param k) k w f h in
    record { width = p.0; members = p.1 }
replaced s ws structs old new a (more t ts) w f h =
    let p : (fits_first (fits structs old t) (first_of w) ≡ true) × (fits structs old ts (others_of w) ≡ true) = and_parts (fits_first (fits structs old t) (first_of w)) (fits structs old ts (others_of w)) h in
    let v : (v : Wanted) × (fits structs old t v ≡ true) = first_wanted (fits structs old t) (first_of w) p.0 in
    let x : Same s ws (widths_by s ws a) (subst a t) t = replaced s ws structs old new a t v.0 f v.1 in
    let y : Same s ws (widths_by s ws a) (subst a ts) ts = replaced s ws structs old new a ts (others_of w) f p.1 in
    record {
      width = ap (λ (n : ℕ). n + width_by s ws (subst a ts)) x.width ∙ ap (λ (n : ℕ). width_by s (widths_by s ws a) t + n) y.width;
      members = ap (λ (n : ℕ). n ∷ widths_by s ws (subst a ts)) x.width ∙ ap (λ (ns : List ℕ). width_by s (widths_by s ws a) t ∷ ns) y.members;
    }
replaced s ws structs old new a (tuple ts) w f h =
    let p : (wants w (Some of_type) ≡ true) × ((is_tuple_count (count ts) && fits structs old ts some_types) ≡ true) = and_parts (wants w (Some of_type)) (is_tuple_count (count ts) && fits structs old ts some_types) h in
    let q : (is_tuple_count (count ts) ≡ true) × (fits structs old ts some_types ≡ true) = and_parts (is_tuple_count (count ts)) (fits structs old ts some_types) p.1 in
    let y : Same s ws (widths_by s ws a) (subst a ts) ts = replaced s ws structs old new a ts some_types f q.1 in
    record { width = y.width; members = refl }
replaced s ws structs old new a (struct n ts) w f h =
    let p : (wants w (Some of_type) ≡ true) × (fits_struct (fits structs old ts) (slice_get structs n) ≡ true) = and_parts (wants w (Some of_type)) (fits_struct (fits structs old ts) (slice_get structs n)) h in
    let v : (v : Wanted) × (fits structs old ts v ≡ true) = struct_wanted (fits structs old ts) (slice_get structs n) p.1 in
    let y : Same s ws (widths_by s ws a) (subst a ts) ts = replaced s ws structs old new a ts v.0 f v.1 in
    record { width = ap (s n) y.members; members = refl }

pub width_replaced : (fields : ℕ → TypeOf) (d : ℕ) (ws : List ℕ) (structs : List (List Sort)) (old new : List Sort) (a t : TypeOf) (w : Wanted) → fits structs new a (these old) ≡ true → fits structs old t w ≡ true → width fields d ws (subst a t) ≡ width fields d (widths_by (struct_width fields d) ws a) t
unfolding width
width_replaced fields d ws structs old new a t w f h = (replaced (struct_width fields d) ws structs old new a t w f h).width

record Equal (s r : ℕ → List ℕ → ℕ) (ws : List ℕ) (t : TypeOf) : Type 0 where
  width : width_by s ws t ≡ width_by r ws t
  members : widths_by s ws t ≡ widths_by r ws t

-- widths that agree on the structs in a type agree on it
agree : (s q : ℕ → List ℕ → ℕ) (rank : ℕ → ℕ) (r : ℕ) (ws : List ℕ) → ((n : ℕ) (vs : List ℕ) → rank n < r → s n vs ≡ q n vs) → (t : TypeOf) → Under rank r t → Equal s q ws t
agree s q rank r ws same int u = record { width = refl; members = refl }
agree s q rank r ws same bool u = record { width = refl; members = refl }
agree s q rank r ws same (param k) u = record { width = refl; members = refl }
agree s q rank r ws same (number v) u = record { width = refl; members = refl }
agree s q rank r ws same end u = record { width = refl; members = refl }
agree s q rank r ws same (more t ts) u =
    let x : Equal s q ws t = agree s q rank r ws same t u.0 in
    let y : Equal s q ws ts = agree s q rank r ws same ts u.1 in
    record { width = ap (λ (n : ℕ). n + width_by s ws ts) x.width ∙ ap (λ (n : ℕ). width_by q ws t + n) y.width; members = ap (λ (n : ℕ). n ∷ widths_by s ws ts) x.width ∙ ap (λ (ns : List ℕ). width_by q ws t ∷ ns) y.members }
agree s q rank r ws same (tuple ts) u = record { width = (agree s q rank r ws same ts u).width; members = refl }
agree s q rank r ws same (struct n ts) u = record { width = ap (s n) (agree s q rank r ws same ts u.1).members ∙ same n (widths_by q ws ts) u.0; members = refl }

-- more than enough is as good as enough
enough : (fields : ℕ → TypeOf) (rank : ℕ → ℕ) → ((m : ℕ) → Under rank (rank m) (fields m)) → (b d e n : ℕ) (vs : List ℕ) → rank n < b → b ≤ d → b ≤ e → struct_width fields d n vs ≡ struct_width fields e n vs
enough fields rank low zero d e n vs h p q = absurd (omega arith)
enough fields rank low (suc b) zero e n vs h p q = absurd (omega arith)
enough fields rank low (suc b) (suc d) zero n vs h p q = absurd (omega arith)
enough fields rank low (suc b) (suc d) (suc e) n vs h p q =
    (agree (struct_width fields d) (struct_width fields e) rank (rank n) vs (λ m us l. enough fields rank low b d e m us (omega arith) (omega arith) (omega arith)) (fields n) (low n)).width

pub struct_is : (fields : ℕ → TypeOf) (rank : ℕ → ℕ) (d n : ℕ) (ws : List ℕ) (structs : List (List Sort)) (old new : List Sort) (a : TypeOf) (w : Wanted) → ((m : ℕ) → Under rank (rank m) (fields m)) → rank n < d → fits structs new a (these old) ≡ true → fits structs old (fields n) w ≡ true → width fields d ws (struct n a) ≡ width fields d ws (subst a (fields n))
unfolding width
struct_is fields rank zero n ws structs old new a w low h f g = absurd (omega arith)
struct_is fields rank (suc d) n ws structs old new a w low h f g =
    let vs : List ℕ = widths_by (struct_width fields (suc d)) ws a in
    (agree (struct_width fields d) (struct_width fields (suc d)) rank (rank n) vs (λ m us l. enough fields rank low (rank n) d (suc d) m us l (omega arith) (omega arith)) (fields n) (low n)).width
    ∙ sym (replaced (struct_width fields (suc d)) ws structs old new a (fields n) w f g).width
