-- What holds at each place of a list with one member more.
use Rattle.std.proofs.Common.{◌≡◌, List, [], ◌∷◌, ◌++◌, ap, subst}
use Rattle.coord_run.specs.Journal.{AtEach}

module _ {A : Type 0} where
  abbrev rest_of : List A → List A
  rest_of [] = []
  rest_of (x ∷ xs) = xs

  abbrev head_or : A → List A → A
  head_or y [] = y
  head_or y (x ∷ xs) = x

  no-end : (l : List A) (y : A) (after : List A) → [] ≡ l ++ y ∷ after → ⊥
  no-end [] y after e = absurd (cc)
  no-end (w ∷ ws) y after e = absurd (cc)

  pub at_each-snoc : (At : List A → A → Type 0) (xs : List A) (x : A) → AtEach At xs → At xs x → AtEach At (xs ++ x ∷ [])
  at_each-snoc At [] x h k [] after y e = subst (λ (z : A). At [] z) (ap (head_or y) e) k
  at_each-snoc At [] x h k (z ∷ before) after y e = absurd (no-end before y after (ap rest_of e))
  at_each-snoc At (z ∷ xs) x h k [] after y e = h [] xs y (ap (λ (w : A). w ∷ xs) (ap (head_or y) e))
  at_each-snoc At (z ∷ xs) x h k (w ∷ before) after y e =
      let same : z ≡ w = ap (head_or w) e in
      subst (λ (v : A). At (v ∷ before) y) same
      (at_each-snoc (λ b. At (z ∷ b)) xs x (λ b a v d. h (z ∷ b) a v (ap (λ (l : List A). z ∷ l) d)) k before after y (ap rest_of e))
