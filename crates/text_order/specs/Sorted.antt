-- Numbers in order.
use Rattle.std.specs.Prelude.{ℕ, List, [], ◌∷◌, if◌then◌else◌, nat_lt}

-- the list in order, with x at its place
abbrev pub placed : ℕ → List ℕ → List ℕ
placed x [] = x ∷ []
placed x (y ∷ ys) = if nat_lt y x then y ∷ placed x ys else x ∷ y ∷ ys

-- the numbers in order
unfoldable pub sorted : List ℕ → List ℕ
sorted [] = []
sorted (x ∷ xs) = placed x (sorted xs)
