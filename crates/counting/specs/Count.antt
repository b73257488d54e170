-- How often a number stands in a list, and what a list weighs in all.
use Rattle.std.specs.Prelude.{ℕ, ◌+◌, ◌==◌, Bool, true, false, cond, List, [], ◌∷◌}

abbrev pub one_if : Bool → ℕ
one_if true = 1
one_if false = 0

-- how often x stands in a list
abbrev pub times : ℕ → List ℕ → ℕ
times x [] = 0
times x (y ∷ ys) = one_if (x == y) + times x ys

-- a list without the first y in it
abbrev pub without : ℕ → List ℕ → List ℕ
without y [] = []
without y (z ∷ zs) = cond (y == z) zs (z ∷ without y zs)

-- the sum of what the members weigh
abbrev pub total : {A : Type 0} → (A → ℕ) → List A → ℕ
total weight [] = 0
total weight (x ∷ xs) = weight x + total weight xs
