-- The numbers in a list of arguments.
use Rattle.std.proofs.Common.{◌≡◌, ℕ, zero, suc, List, [], ◌∷◌, ◌++◌, length, get_or, refl, sym, ap, ◌∙◌, append_assoc, Some}
use Rattle.std.specs.Prelude.{ℤ, pos}
use Rattle.type_table.specs.declared.row.Row.{Row}
use Rattle.type_table.specs.declared.row.Row.TheVariants.{More}
use Rattle.type_table.specs.TypeOf.{TypeOf, int, bool, param, number, end, more, tuple, struct}
use Rattle.type_table.specs.Rows.{types, type_at, type_of}
use Rattle.type_table.specs.Substitution.{argument, count}
use Rattle.closed_input.specs.Bodies.{number_value}
use Rattle.unit_close.specs.Functions.{numbers_of}

pub more_numbers : (rows : List Row) (list a b : ℕ) (v : ℤ) (old pushed now : List ℤ) → type_at rows list ≡ type_of (types rows) (More a b) → v ≡ number_value (Some (type_at rows a)) → pushed ≡ old ++ v ∷ [] → now ≡ pushed ++ numbers_of (type_at rows b) → now ≡ old ++ numbers_of (type_at rows list)
unfolding type_at
more_numbers rows list a b v old pushed now e h p q =
    q ∙ ap (λ (xs : List ℤ). xs ++ numbers_of (type_at rows b)) (p ∙ ap (λ (n : ℤ). old ++ n ∷ []) h)
    ∙ append_assoc old (number_value (Some (type_at rows a)) ∷ []) (numbers_of (type_at rows b))
    ∙ sym (ap (λ (t : TypeOf). old ++ numbers_of t) e)

-- as many as there are arguments
pub numbers_count : (t : TypeOf) → length (numbers_of t) ≡ count t
numbers_count (more t ts) = ap suc (numbers_count ts)
numbers_count int = refl
numbers_count bool = refl
numbers_count (param k) = refl
numbers_count (number v) = refl
numbers_count end = refl
numbers_count (tuple ts) = refl
numbers_count (struct n ts) = refl

-- each is the number of its argument
pub number_is : (t : TypeOf) (k : ℕ) → get_or (numbers_of t) k (pos 0) ≡ number_value (argument t k)
number_is (more t ts) zero = refl
number_is (more t ts) (suc k) = number_is ts k
number_is int k = refl
number_is bool k = refl
number_is (param j) k = refl
number_is (number v) k = refl
number_is end k = refl
number_is (tuple ts) k = refl
number_is (struct n ts) k = refl
