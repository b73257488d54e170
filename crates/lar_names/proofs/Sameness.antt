-- Lists of names that are tested alike are one.
use Rattle.std.proofs.Common.{◌≡◌, ◌≢◌, ℕ, List, [], ◌∷◌, ◌++◌, Bool, true, false, refl, sym, ap, ◌∙◌}
use Rattle.std.specs.Str.{bytes_eq}
use Rattle.std.proofs.lemmas.Slice.Eq.{bytes_eq-Decides, slice_eq-Decides}
use Rattle.lar_rules.specs.Declared.{same_modules}

pub same_name : (a b : List ℕ) → bytes_eq a b ≡ true → a ≡ b
same_name a b h = (bytes_eq-Decides a b).0 h

pub name_self : (a : List ℕ) → bytes_eq a a ≡ true
name_self a = (bytes_eq-Decides a a).1 refl

pub same_means : (a b : List (List ℕ)) → same_modules a b ≡ true → a ≡ b
same_means a b h = (slice_eq-Decides bytes_eq-Decides a b (same_modules a b) refl).0 h

pub modules_self : (a : List (List ℕ)) → same_modules a a ≡ true
modules_self a = (slice_eq-Decides bytes_eq-Decides a a (same_modules a a) refl).1 refl

told_apart : (b : Bool) → (b ≡ true → ⊥) → b ≡ false
told_apart true h = absurd (h refl)
told_apart false h = refl

pub modules_apart : (a b : List (List ℕ)) → a ≢ b → same_modules a b ≡ false
modules_apart a b h = told_apart (same_modules a b) (λ e. h (same_means a b e))

pub names_apart : (a b : List ℕ) → a ≢ b → bytes_eq a b ≡ false
names_apart a b h = told_apart (bytes_eq a b) (λ e. h (same_name a b e))

first_same : (x y : List ℕ) (a b : List (List ℕ)) → x ∷ a ≡ y ∷ b → x ≡ y
first_same x y a b h = cc

rest_same : (x y : List ℕ) (a b : List (List ℕ)) → x ∷ a ≡ y ∷ b → a ≡ b
rest_same x y a b h = cc

-- a module in a module says which, and its name
pub same_within : (a b : List (List ℕ)) (x y : List ℕ) → a ++ x ∷ [] ≡ b ++ y ∷ [] → (a ≡ b) × (x ≡ y)
same_within [] [] x y h = (refl, first_same x y [] [] h)
same_within [] (m ∷ b) x y h = absurd (not_nil b y (rest_same x m [] (b ++ y ∷ []) h))
  where
    not_nil : (b : List (List ℕ)) (y : List ℕ) → [] ≡ b ++ y ∷ [] → ⊥
    not_nil [] y h = cc
    not_nil (m ∷ b) y h = cc
same_within (m ∷ a) [] x y h = absurd (not_nil a x (sym (rest_same m y (a ++ x ∷ []) [] h)))
  where
    not_nil : (b : List (List ℕ)) (y : List ℕ) → [] ≡ b ++ y ∷ [] → ⊥
    not_nil [] y h = cc
    not_nil (m ∷ b) y h = cc
same_within (m ∷ a) (n ∷ b) x y h =
    let heads : m ≡ n = first_same m n (a ++ x ∷ []) (b ++ y ∷ []) h in
    let both = same_within a b x y (rest_same m n (a ++ x ∷ []) (b ++ y ∷ []) h) in
    (ap (λ z. z ∷ a) heads ∙ ap (λ zs. n ∷ zs) both.0, both.1)

pub names_turned : (a b : List ℕ) → bytes_eq a b ≡ bytes_eq b a
names_turned a b = turned (bytes_eq a b) (bytes_eq b a) (λ h. (bytes_eq-Decides b a).1 (sym (same_name a b h))) (λ h. (bytes_eq-Decides a b).1 (sym (same_name b a h)))
  where
    turned : (x y : Bool) → (x ≡ true → y ≡ true) → (y ≡ true → x ≡ true) → x ≡ y
    turned true y f g = sym (f refl)
    turned false true f g = g refl
    turned false false f g = refl
