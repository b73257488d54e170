-- Lists of numbers that are all there, paths by scope, and the type `()`.
use Rattle.std.proofs.Common.{◌≡◌, ℕ, zero, suc, ◌+◌, ◌<◌, ◌≤◌, List, [], ◌∷◌, ◌++◌, length, map, take, drop, get_or, Option, Some, None, refl, sym, ap, ◌∙◌}
use Rattle.std.proofs.lemmas.List.{drop_more, take_all}
use Rattle.type_table.specs.declared.row.Row.{Row}
use Rattle.type_table.specs.declared.row.Row.TheVariants.{Int, Bool as Boolean, Param, Number, End, More, Tuple, Struct}
use Rattle.type_table.specs.TypeOf.{TypeOf, end, tuple}
use Rattle.type_table.specs.Rows.{type_of, types, type_at}
use Rattle.lar_typed.specs.SameType.{same_type}
use Rattle.lar_assembled.specs.Functions.{number_before, all_there, is_end_row}

-- NUMBERS THAT ARE ALL THERE

there_of_some : (ns : List ℕ) → all_there (map Some ns) ≡ Some ns
there_of_some [] = refl
there_of_some (n ∷ ns) = ap (number_before (Some n)) (there_of_some ns)

pub there_end : (out : List ℕ) (numbers : List (Option ℕ)) (i : ℕ) → length numbers ≤ i → map Some out ≡ take i numbers → Some out ≡ all_there numbers
there_end out numbers i past is = sym (there_of_some out) ∙ ap all_there (is ∙ take_all i numbers past)

before_none : (n : Option ℕ) → number_before n None ≡ None
before_none None = refl
before_none (Some n) = refl

missing_behind : (ns : List ℕ) (rest : List (Option ℕ)) → all_there (map Some ns ++ None ∷ rest) ≡ None
missing_behind [] rest = refl
missing_behind (n ∷ ns) rest = ap (number_before (Some n)) (missing_behind ns rest)

split_at : (xs : List (Option ℕ)) (i : ℕ) → xs ≡ take i xs ++ drop i xs
split_at [] zero = refl
split_at [] (suc i) = refl
split_at (x ∷ xs) zero = refl
split_at (x ∷ xs) (suc i) = ap (λ (ys : List (Option ℕ)). x ∷ ys) (split_at xs i)

pub there_missing : (out : List ℕ) (numbers : List (Option ℕ)) (i : ℕ) (d : Option ℕ) → i < length numbers → get_or numbers i d ≡ None → map Some out ≡ take i numbers → None ≡ all_there numbers
there_missing out numbers i d below none is =
    sym (ap all_there (split_at numbers i
    ∙ ap (λ (ys : List (Option ℕ)). ys ++ drop i numbers) (sym is)
    ∙ ap (λ (ys : List (Option ℕ)). map Some out ++ ys) (drop_more numbers i d below ∙ ap (λ (y : Option ℕ). y ∷ drop (i + 1) numbers) none))
    ∙ missing_behind out (drop (i + 1) numbers))

-- THE TYPE ()

end_is : (ts : List TypeOf) (r : Row) → is_end_row r ≡ same_type (type_of ts r) end
end_is ts Int = refl
end_is ts Boolean = refl
end_is ts (Param k) = refl
end_is ts (Number v) = refl
end_is ts End = refl
end_is ts (More a b) = refl
end_is ts (Tuple a) = refl
end_is ts (Struct n a) = refl

pub unit_is : (rows : List Row) (n list : ℕ) (r : Row) → type_at rows n ≡ type_of (types rows) (Tuple list) → type_at rows list ≡ type_of (types rows) r → is_end_row r ≡ same_type (type_at rows n) (tuple end)
unfolding type_at
unit_is rows n list r a b = end_is (types rows) r ∙ ap (λ (t : TypeOf). same_type t end) (sym b) ∙ ap (λ (t : TypeOf). same_type t (tuple end)) (sym a)

-- ALL ITEMS

map_twice : {A B C : Type 0} (f : B → C) (g : A → B) (xs : List A) → map (λ x. f (g x)) xs ≡ map f (map g xs)
map_twice f g [] = refl
map_twice f g (x ∷ xs) = ap (λ ys. f (g x) ∷ ys) (map_twice f g xs)

pub all_items : {A B C : Type 0} (f : B → C) (g : A → B) (xs : List A) (i : ℕ) (out : List C) (all : List B) → length xs ≤ i → out ≡ map (λ x. f (g x)) (take i xs) → map g xs ≡ all → out ≡ map f all
all_items f g xs i out all past so_far is = so_far ∙ ap (map (λ x. f (g x))) (take_all i xs past) ∙ map_twice f g xs ∙ ap (map f) is
