-- Names, and names joined with `::`.
use Rattle.std.specs.Prelude.{◌≡◌, ℕ, ◌≤◌, Bool, true, false, ◌&&◌, ◌||◌, nat_le, nat_eq, List, [], ◌∷◌, ◌++◌, length}

abbrev pub is_letter : ℕ → Bool
is_letter c = (nat_le 65 c && nat_le c 90) || (nat_le 97 c && nat_le c 122) || nat_eq c 95

abbrev pub is_letter_or_digit : ℕ → Bool
is_letter_or_digit c = is_letter c || (nat_le 48 c && nat_le c 57)

abbrev pub all_letters_or_digits : List ℕ → Bool
all_letters_or_digits [] = true
all_letters_or_digits (c ∷ cs) = is_letter_or_digit c && all_letters_or_digits cs

-- a letter or `_`, then letters, digits and `_`; at most 64 bytes
abbrev pub is_name : List ℕ → Bool
is_name [] = false
is_name (c ∷ cs) = is_letter c && (all_letters_or_digits cs && nat_le (length cs) 63)

abbrev pub are_names : List (List ℕ) → Bool
are_names [] = true
are_names (n ∷ ns) = is_name n && are_names ns

-- names with `::` between them
abbrev pub joined : List ℕ → List (List ℕ) → List ℕ
joined n [] = n
joined n (m ∷ ms) = n ++ 58 ∷ 58 ∷ joined m ms

-- the path of a module: 1 to 65 names
pub record IsModulePath (path : List ℕ) : Type 0 where
  pub first : List ℕ
  pub others : List (List ℕ)
  pub names : are_names (first ∷ others) ≡ true
  pub few : length others ≤ 64
  pub is : path ≡ joined first others

-- the path of an item: that of its module, `::` and its name
abbrev pub item_path : List ℕ → List ℕ → List ℕ
item_path module_path name = module_path ++ 58 ∷ 58 ∷ name
