-- What is found from roots by calls.
use Rattle.std.specs.Prelude.{◌≡◌, ℕ, zero, suc, ◌<◌, ◌≤◌, List, [], ◌∷◌, ◌++◌, length, take, Bool, true, if◌then◌else◌, slice_index_or}
use Rattle.std.specs.List.{list_any, flat_map}

module _ {I : Type 0} (E : I → I → Bool) where
  -- whether the list has x
  abbrev pub has : I → List I → Bool
  has x xs = list_any (E x) xs

  abbrev pub with : List I → I → List I
  with us x = if has x us then us else us ++ x ∷ []

  -- the list us, and behind it each of xs that is not there before, in order
  abbrev pub added : List I → List I → List I
  added us [] = us
  added us (x ∷ xs) = added (with us x) xs

  -- us is what is found from the roots
  pub record IsFound (calls : I → List I) (roots us : List I) : Type 0 where
    -- the roots, and then the targets of all calls, in the order of their first calls
    pub order : us ≡ added roots (flat_map calls us)
    -- each later member is the target of a call of a member before it
    pub before : (k : ℕ) (d : I) → length roots ≤ k → k < length us → has (slice_index_or us k d) (flat_map calls (take k us)) ≡ true

  -- a list of n calls leads from a to b
  abbrev pub Leads : (I → List I) → ℕ → I → I → Type 0
  Leads calls zero a b = a ≡ b
  Leads calls (suc n) a b = (c : I) × Leads calls n a c × (has b (calls c) ≡ true)
