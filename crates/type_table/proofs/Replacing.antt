use Rattle.std.proofs.Common.{◌≡◌, ℕ, zero, suc, ◌<◌, List, [], ◌∷◌, refl, sym, ap, ◌∙◌, subst as transport, arith, Bool, true, false, Option, Some, None}
use Rattle.std.specs.Prelude.{◌&&◌, slice_get}
use Rattle.type_table.specs.TypeOf.{TypeOf, int, bool, param, number, end, more, tuple, struct}
use Rattle.type_table.specs.Substitution.{subst, argument, or_type, count, Below}
use Rattle.type_table.specs.declared.sort.Sort.{Sort}
use Rattle.type_table.specs.declared.sort.Sort.TheVariants.{Ty as of_type, Number as of_number}
use Rattle.type_table.specs.Lawful.{is_tuple_count, Wanted, one, these, some_types, wants, first_of, others_of, fits_first, fits_struct, fits, same_sort}

pub closed_same : (a t : TypeOf) → Below 0 t → subst a t ≡ t
closed_same a int h = refl
closed_same a bool h = refl
closed_same a (number v) h = refl
closed_same a end h = refl
closed_same a (param k) h = absurd (omega arith)
closed_same a (more t ts) h = ap (λ (x : TypeOf). more x (subst a ts)) (closed_same a t h.0) ∙ ap (more t) (closed_same a ts h.1)
closed_same a (tuple ts) h = ap tuple (closed_same a ts h)
closed_same a (struct n ts) h = ap (struct n) (closed_same a ts h)

argument_composed : (a b d : TypeOf) (k : ℕ) → k < count a → subst b (or_type (argument a k) d) ≡ or_type (argument (subst b a) k) d
argument_composed (more t ts) b d zero h = refl
argument_composed (more t ts) b d (suc k) h = argument_composed ts b d k (omega arith)
argument_composed int b d k h = absurd (omega arith)
argument_composed bool b d k h = absurd (omega arith)
argument_composed (param n) b d k h = absurd (omega arith)
argument_composed (number v) b d k h = absurd (omega arith)
argument_composed end b d k h = absurd (omega arith)
argument_composed (tuple ts) b d k h = absurd (omega arith)
argument_composed (struct n ts) b d k h = absurd (omega arith)

pub composed_same : (a b t : TypeOf) → Below (count a) t → subst b (subst a t) ≡ subst (subst b a) t
composed_same a b int h = refl
composed_same a b bool h = refl
composed_same a b (number v) h = refl
composed_same a b end h = refl
composed_same a b (param k) h = argument_composed a b (param k) k h
composed_same a b (more t ts) h = ap (λ (x : TypeOf). more x (subst b (subst a ts))) (composed_same a b t h.0) ∙ ap (more (subst (subst b a) t)) (composed_same a b ts h.1)
composed_same a b (tuple ts) h = ap tuple (composed_same a b ts h)
composed_same a b (struct n ts) h = ap (struct n) (composed_same a b ts h)

and_parts : (a b : Bool) → (a && b) ≡ true → (a ≡ true) × (b ≡ true)
and_parts true true h = (refl, refl)
and_parts true false h = cc
and_parts false b h = cc

and_both : (a b : Bool) → a ≡ true → b ≡ true → (a && b) ≡ true
and_both a b p q = rw (p, q) refl

sorts_same : (s r : Sort) → same_sort s r ≡ true → s ≡ r
sorts_same of_type of_type h = refl
sorts_same of_number of_number h = refl
sorts_same of_type of_number h = cc
sorts_same of_number of_type h = cc

argument_fits : (structs : List (List Sort)) (old new : List Sort) (a d : TypeOf) (k : ℕ) (w : Wanted) → fits structs new a (these old) ≡ true → wants w (slice_get old k) ≡ true → fits structs new (or_type (argument a k) d) w ≡ true
argument_fits structs [] new a d k (one s) f h = cc
argument_fits structs (r ∷ old) new (more t ts) d zero (one s) f h =
    transport (λ (x : Sort). fits structs new t (one x) ≡ true) (sym (sorts_same s r h)) (and_parts (fits structs new t (one r)) (fits structs new ts (these old)) f).0
argument_fits structs (r ∷ old) new (more t ts) d (suc k) (one s) f h =
    argument_fits structs old new ts d k (one s) (and_parts (fits structs new t (one r)) (fits structs new ts (these old)) f).1 h
argument_fits structs (r ∷ old) new int d k (one s) f h = cc
argument_fits structs (r ∷ old) new bool d k (one s) f h = cc
argument_fits structs (r ∷ old) new (param n) d k (one s) f h = cc
argument_fits structs (r ∷ old) new (number n) d k (one s) f h = cc
argument_fits structs (r ∷ old) new end d k (one s) f h = cc
argument_fits structs (r ∷ old) new (tuple n) d k (one s) f h = cc
argument_fits structs (r ∷ old) new (struct n m) d k (one s) f h = cc
argument_fits structs old new a d k (these ss) f h = cc
argument_fits structs old new a d k some_types f h = cc

first_fits : (f g : Wanted → Bool) (o : Option Sort) → ((w : Wanted) → f w ≡ true → g w ≡ true) → fits_first f o ≡ true → fits_first g o ≡ true
first_fits f g None h e = e
first_fits f g (Some s) h e = h (one s) e

struct_fits : (f g : Wanted → Bool) (o : Option (List Sort)) → ((w : Wanted) → f w ≡ true → g w ≡ true) → fits_struct f o ≡ true → fits_struct g o ≡ true
struct_fits f g None h e = e
struct_fits f g (Some ss) h e = h (these ss) e

-- a lawful list of types has as many members where its generics are replaced
count_kept : (structs : List (List Sort)) (old : List Sort) (a ts : TypeOf) → fits structs old ts some_types ≡ true → count (subst a ts) ≡ count ts
count_kept structs old a end h = refl
count_kept structs old a (more t ts) h = ap (λ n. suc n) (count_kept structs old a ts (and_parts (fits structs old t (one of_type)) (fits structs old ts some_types) h).1)
count_kept structs old a int h = cc
count_kept structs old a bool h = cc
count_kept structs old a (param k) h = absurd (not_some (slice_get old k) h)
  where
    not_some : (o : Option Sort) → wants some_types o ≡ true → ⊥
    not_some o h = cc
count_kept structs old a (number v) h = cc
count_kept structs old a (tuple ts) h = cc
count_kept structs old a (struct n ts) h = cc

pub lawful_kept : (structs : List (List Sort)) (old new : List Sort) (a t : TypeOf) (w : Wanted) → fits structs new a (these old) ≡ true → fits structs old t w ≡ true → fits structs new (subst a t) w ≡ true
lawful_kept structs old new a int w f h = h
lawful_kept structs old new a bool w f h = h
lawful_kept structs old new a (number v) w f h = h
lawful_kept structs old new a end w f h = h
lawful_kept structs old new a (param k) w f h = argument_fits structs old new a (param k) k w f h
lawful_kept structs old new a (more t ts) w f h =
    let p : (fits_first (fits structs old t) (first_of w) ≡ true) × (fits structs old ts (others_of w) ≡ true) = and_parts (fits_first (fits structs old t) (first_of w)) (fits structs old ts (others_of w)) h in
    and_both (fits_first (fits structs new (subst a t)) (first_of w)) (fits structs new (subst a ts) (others_of w))
    (first_fits (fits structs old t) (fits structs new (subst a t)) (first_of w) (λ v e. lawful_kept structs old new a t v f e) p.0)
    (lawful_kept structs old new a ts (others_of w) f p.1)
lawful_kept structs old new a (tuple ts) w f h =
    let p : (wants w (Some of_type) ≡ true) × ((is_tuple_count (count ts) && fits structs old ts some_types) ≡ true) = and_parts (wants w (Some of_type)) (is_tuple_count (count ts) && fits structs old ts some_types) h in
    let q : (is_tuple_count (count ts) ≡ true) × (fits structs old ts some_types ≡ true) = and_parts (is_tuple_count (count ts)) (fits structs old ts some_types) p.1 in
    and_both (wants w (Some of_type)) (is_tuple_count (count (subst a ts)) && fits structs new (subst a ts) some_types) p.0
    (and_both (is_tuple_count (count (subst a ts))) (fits structs new (subst a ts) some_types) (ap is_tuple_count (count_kept structs old a ts q.1) ∙ q.0) (lawful_kept structs old new a ts some_types f q.1))
lawful_kept structs old new a (struct n ts) w f h =
    let p : (wants w (Some of_type) ≡ true) × (fits_struct (fits structs old ts) (slice_get structs n) ≡ true) = and_parts (wants w (Some of_type)) (fits_struct (fits structs old ts) (slice_get structs n)) h in
    and_both (wants w (Some of_type)) (fits_struct (fits structs new (subst a ts)) (slice_get structs n)) p.0
    (struct_fits (fits structs old ts) (fits structs new (subst a ts)) (slice_get structs n) (λ v e. lawful_kept structs old new a ts v f e) p.1)
