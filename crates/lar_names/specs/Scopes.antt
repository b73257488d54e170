-- Scopes: lists of names of modules, by number.
use Rattle.std.specs.Prelude.{◌≡◌, ℕ, ◌+◌, ◌<◌, List, [], ◌∷◌, ◌++◌, length, Option, Some, None, slice_index_or, if◌then◌else◌}
use Rattle.lar_rules.specs.Declared.{same_modules}

-- the list of a number
abbrev pub list_at : List (List (List ℕ)) → ℕ → List (List ℕ)
list_at lists n = slice_index_or lists n []

-- a module of this name in a module
abbrev pub within : List (List ℕ) → List ℕ → List (List ℕ)
within modules name = modules ++ name ∷ []

abbrev pub number_from : ℕ → List (List ℕ) → List (List (List ℕ)) → Option ℕ
number_from n modules [] = None
number_from n modules (l ∷ ls) = if same_modules l modules then Some n else number_from (n + 1) modules ls

-- the number of a list
unfoldable pub number_of : List (List ℕ) → List (List (List ℕ)) → Option ℕ
number_of modules lists = number_from 0 modules lists

-- the new lists keep the numbers of the old ones
abbrev pub Grows : List (List (List ℕ)) → List (List (List ℕ)) → Type 0
Grows old new = (added : List (List (List ℕ))) × (new ≡ old ++ added)

-- no two lists are one, the first one is empty, and where a module is there so is that in which it stands
pub record AreScopes (lists : List (List (List ℕ))) : Type 0 where
  pub root : (rest : List (List (List ℕ))) × (lists ≡ [] ∷ rest)
  pub apart : (i j : ℕ) → i < length lists → j < length lists → list_at lists i ≡ list_at lists j → i ≡ j
  pub closed : (modules : List (List ℕ)) (name : List ℕ) → number_of modules lists ≡ None → number_of (within modules name) lists ≡ None
