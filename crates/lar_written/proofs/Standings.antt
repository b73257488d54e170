-- What stands for a type still does in a larger table, and what rows with parts stand for.
use Rattle.std.proofs.Common.{◌≡◌, ℕ, zero, suc, ◌+◌, ◌-◌, ◌<◌, ◌≤◌, List, [], ◌∷◌, ◌++◌, length, map, take, drop, get_or, Option, Some, None, option_map, refl, sym, ap, ◌∙◌, subst, arith}
use Rattle.std.proofs.lemmas.List.{drop_more}
use Rattle.type_table.specs.declared.row.Row.{Row}
use Rattle.type_table.specs.declared.row.Row.TheVariants.{End, More, Tuple, Struct, Int as int_row, Bool as bool_row, Param, Number}
use Rattle.type_table.specs.TypeOf.{TypeOf, int, bool, param, number, end, more, tuple, struct}
use Rattle.type_table.specs.Rows.{type_at, types, type_of, Keeps, Stands}
use Rattle.lar_rules.specs.Written.{then_type}
use Rattle.lar_written.specs.Standing.{number_type, Inside, AllInside, StandsIf, AllStand, list_if}

pub keeps_twice : (old mid new : List Row) → Keeps old mid → Keeps mid new → Keeps old new
keeps_twice old mid new p q =
    let a : length old ≤ length mid = p.longer in
    let b : length mid ≤ length new = q.longer in
    record { longer = omega arith; same = λ n h. q.same n (omega arith) ∙ p.same n h }

pub keeps_self : (rows : List Row) → Keeps rows rows
keeps_self rows = record { longer = omega arith; same = λ n h. refl }

pub inside_kept : (old new : List Row) (n : Option ℕ) → Keeps old new → Inside old n → Inside new n
inside_kept old new None k h = tt
inside_kept old new (Some n) k h = let a : length old ≤ length new = k.longer in omega arith

pub type_kept : (old new : List Row) (n : Option ℕ) → Keeps old new → Inside old n → number_type new n ≡ number_type old n
type_kept old new None k h = refl
type_kept old new (Some n) k h = ap Some (k.same n h)

pub stands_kept : (old new : List Row) (n : Option ℕ) (t : Option TypeOf) → Keeps old new → StandsIf old n t → StandsIf new n t
stands_kept old new n t k s = record { within = inside_kept old new n k s.within; is = type_kept old new n k s.within ∙ s.is }

pub all_inside_kept : (old new : List Row) (ns : List (Option ℕ)) → Keeps old new → AllInside old ns → AllInside new ns
all_inside_kept old new [] k h = tt
all_inside_kept old new (n ∷ ns) k h = (inside_kept old new n k h.0, all_inside_kept old new ns k h.1)

pub types_kept : (old new : List Row) (ns : List (Option ℕ)) → Keeps old new → AllInside old ns → map (number_type new) ns ≡ map (number_type old) ns
types_kept old new [] k h = refl
types_kept old new (n ∷ ns) k h =
    ap (λ (t : Option TypeOf). t ∷ map (number_type new) ns) (type_kept old new n k h.0) ∙ ap (λ (ts : List (Option TypeOf)). number_type old n ∷ ts) (types_kept old new ns k h.1)

pub all_stand_kept : (old new : List Row) (ns : List (Option ℕ)) (ts : List (Option TypeOf)) → Keeps old new → AllStand old ns ts → AllStand new ns ts
all_stand_kept old new ns ts k s = record { within = all_inside_kept old new ns k s.within; are = types_kept old new ns k s.within ∙ s.are }

pub inside_at : (rows : List Row) (ns : List (Option ℕ)) (i : ℕ) (d : Option ℕ) → AllInside rows ns → i < length ns → Inside rows (get_or ns i d)
inside_at rows [] i d h below = absurd (omega arith)
inside_at rows (n ∷ ns) zero d h below = h.0
inside_at rows (n ∷ ns) (suc i) d h below = inside_at rows ns i d h.1 (omega arith)

-- ROWS WITH PARTS

pub more_stands : (old new : List Row) (first others : Option ℕ) (a b n : ℕ) → first ≡ Some a → others ≡ Some b → Stands new n (type_of (types old) (More a b)) → StandsIf new (Some n) (then_type (number_type old first) (number_type old others))
unfolding type_at
more_stands old new first others a b n p q s = rw (p, q) (record { within = s.within; is = ap Some s.is })

pub tuple_stands : (old new : List Row) (parts : Option ℕ) (a n : ℕ) → parts ≡ Some a → Stands new n (type_of (types old) (Tuple a)) → StandsIf new (Some n) (option_map tuple (number_type old parts))
unfolding type_at
tuple_stands old new parts a n p s = rw p (record { within = s.within; is = ap Some s.is })

pub struct_stands : (old new : List Row) (generics : Option ℕ) (k a n : ℕ) → generics ≡ Some a → Stands new n (type_of (types old) (Struct k a)) → StandsIf new (Some n) (option_map (struct k) (number_type old generics))
unfolding type_at
struct_stands old new generics k a n p s = rw p (record { within = s.within; is = ap Some s.is })

-- a type whose row has no parts
pub leaf_stands : (new : List Row) (t : TypeOf) (n : ℕ) → Stands new n t → StandsIf new (Some n) (Some t)
leaf_stands new t n s = record { within = s.within; is = ap Some s.is }

drop_all : {A : Type 0} (xs : List A) (n : ℕ) → n ≡ length xs → drop n xs ≡ []
drop_all [] zero e = refl
drop_all [] (suc n) e = refl
drop_all (x ∷ xs) zero e = absurd (omega arith)
drop_all (x ∷ xs) (suc n) e = drop_all xs n (omega arith)

-- no member yet
pub list_end : (old new : List Row) (ns : List (Option ℕ)) (at n : ℕ) → at ≡ length ns → Stands new n end → StandsIf new (Some n) (list_if (map (number_type old) (drop at ns)))
list_end old new ns at n e s = rw (drop_all ns at e) (leaf_stands new end n s)

-- one member further to the front
pub list_further : (old mid new : List Row) (ns : List (Option ℕ)) (at i : ℕ) (d list n : Option ℕ) → Keeps old mid → AllInside old ns → i + 1 ≡ at → at ≤ length ns
    → StandsIf mid list (list_if (map (number_type old) (drop at ns)))
    → StandsIf new n (then_type (number_type mid (get_or ns i d)) (number_type mid list))
    → StandsIf new n (list_if (map (number_type old) (drop i ns)))
list_further old mid new ns at i d list n k h e below so_far s =
    let x = get_or ns i d in
    let split : drop i ns ≡ x ∷ drop (i + 1) ns = drop_more ns i d (omega arith) in
    let next : drop (i + 1) ns ≡ drop at ns = ap (λ (j : ℕ). drop j ns) e in
    let same : number_type mid x ≡ number_type old x = type_kept old mid x k (inside_at old ns i d h (omega arith)) in
    record {
      within = s.within;
      is = s.is ∙ ap (λ (t : Option TypeOf). then_type t (number_type mid list)) same ∙ ap (then_type (number_type old x)) so_far.is
          ∙ ap (λ (ms : List (Option ℕ)). then_type (number_type old x) (list_if (map (number_type old) ms))) (sym next)
          ∙ ap (λ (ms : List (Option ℕ)). list_if (map (number_type old) ms)) (sym split);
    }

pub unit_stands : (old new : List Row) (a n : ℕ) → Stands old a end → Stands new n (type_of (types old) (Tuple a)) → StandsIf new (Some n) (Some (tuple end))
unfolding type_at
unit_stands old new a n s st = record { within = st.within; is = ap Some (st.is ∙ ap tuple s.is) }
