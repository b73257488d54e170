-- Two lists: each member of the first stands for the one of the second that has its number.
use Rattle.std.specs.Prelude.{ℕ, suc, List, [], ◌∷◌, Option, Some, None}

abbrev pub EachStands : {A B : Type 0} → (ℕ → A → B → Type 0) → ℕ → List A → List B → Type 0
EachStands P k [] [] = Unit {0}
EachStands P k (x ∷ xs) (y ∷ ys) = P k x y × EachStands P (suc k) xs ys
EachStands P k [] (y ∷ ys) = ⊥
EachStands P k (x ∷ xs) [] = ⊥

-- both are none, or the first stands for the second
abbrev pub IfStands : {A B : Type 0} → (A → B → Type 0) → Option A → Option B → Type 0
IfStands P None None = Unit {0}
IfStands P (Some x) (Some y) = P x y
IfStands P None (Some y) = ⊥
IfStands P (Some x) None = ⊥
