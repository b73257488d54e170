-- The bytes of names and paths.
use Rattle.std.proofs.Common.{◌≡◌, ◌≢◌, ℕ, ◌<◌, List, [], ◌∷◌, ◌++◌, refl, sym, subst, arith, Bool, true, false, ◌||◌}
use Rattle.std.specs.Prelude.{nat_eq}
use Rattle.std.specs.List.{AllByRecursion}
use Rattle.std.proofs.lemmas.Bool.Decides.{nat_tests}
use Rattle.lar_typed.specs.Paths.{is_letter, is_letter_or_digit, all_letters_or_digits, is_name, are_names, joined, IsModulePath, item_path}
use Rattle.lar_typed.proofs.SameTypes.{and_true}

-- a byte that stands in names and numbers, and in no sign around types
pub record IsPart (c : ℕ) : Type 0 where
  pub above : 43 < c
  pub comma : c ≢ 44
  pub less : c ≢ 60
  pub greater : c ≢ 62

abbrev pub AreParts : List ℕ → Type 0
AreParts cs = AllByRecursion IsPart cs

letter_part : (c : ℕ) → is_letter_or_digit c ≡ true → IsPart c
letter_part c h = record { above = grind (arith, nat_tests); comma = λ e. grind (arith, nat_tests); less = λ e. grind (arith, nat_tests); greater = λ e. grind (arith, nat_tests) }

pub colon_part : IsPart 58
colon_part = record { above = omega arith; comma = λ e. omega arith; less = λ e. omega arith; greater = λ e. omega arith }

letters_parts : (cs : List ℕ) → all_letters_or_digits cs ≡ true → AreParts cs
letters_parts [] h = tt
letters_parts (c ∷ cs) h = let p = and_true (is_letter_or_digit c) (all_letters_or_digits cs) h in (letter_part c p.0, letters_parts cs p.1)

-- a letter is a letter or a digit
letter_either : (a b : Bool) → a ≡ true → (a || b) ≡ true
letter_either true b h = refl
letter_either false b h = cc

pub name_parts : (n : List ℕ) → is_name n ≡ true → AreParts n
name_parts [] h = cc
name_parts (c ∷ cs) h =
    let p = and_true (is_letter c) _ h in
    let q = and_true (all_letters_or_digits cs) _ p.1 in
    (letter_part c (letter_either (is_letter c) _ p.0), letters_parts cs q.0)

pub parts_joined : (cs ds : List ℕ) → AreParts cs → AreParts ds → AreParts (cs ++ ds)
parts_joined [] ds p q = q
parts_joined (c ∷ cs) ds p q = (p.0, parts_joined cs ds p.1 q)

joined_parts : (n : List ℕ) (ns : List (List ℕ)) → are_names (n ∷ ns) ≡ true → AreParts (joined n ns)
joined_parts n [] h = name_parts n (and_true (is_name n) true h).0
joined_parts n (m ∷ ms) h = let p = and_true (is_name n) (are_names (m ∷ ms)) h in parts_joined n (58 ∷ 58 ∷ joined m ms) (name_parts n p.0) (colon_part, (colon_part, joined_parts m ms p.1))

pub module_parts : (path : List ℕ) → IsModulePath path → AreParts path
module_parts path h = subst AreParts (sym h.is) (joined_parts h.first h.others h.names)

pub item_parts : (path name : List ℕ) → IsModulePath path → is_name name ≡ true → AreParts (item_path path name)
item_parts path name p q = parts_joined path (58 ∷ 58 ∷ name) (module_parts path p) (colon_part, (colon_part, name_parts name q))

-- whether a list has a colon
abbrev pub has_colon : List ℕ → Bool
has_colon [] = false
has_colon (c ∷ cs) = nat_eq 58 c || has_colon cs

pub colon_behind : (cs ds : List ℕ) → has_colon (cs ++ 58 ∷ ds) ≡ true
colon_behind [] ds = refl
colon_behind (c ∷ cs) ds = by (nat_eq 58 c) (colon_behind cs ds)
  where
    by : (b : Bool) → has_colon (cs ++ 58 ∷ ds) ≡ true → (b || has_colon (cs ++ 58 ∷ ds)) ≡ true
    by true h = refl
    by false h = h
