-- The least fault of lists.
use Rattle.std.proofs.Common.{◌≡◌, List, [], ◌∷◌, ◌++◌, refl, Option}
use Rattle.lar_rules.specs.Fault.{Fault, kept, least}

pub least_none : (best : Option Fault) → least best [] ≡ best
unfolding least
least_none best = refl

pub least_one : (best : Option Fault) (f : Fault) → least best (f ∷ []) ≡ kept best f
unfolding least
least_one best f = refl

-- the least of two lists, one after the other
pub least_append : (best : Option Fault) (xs ys : List Fault) → least best (xs ++ ys) ≡ least (least best xs) ys
unfolding least
least_append best [] ys = refl
least_append best (x ∷ xs) ys = least_append (kept best x) xs ys

pub least_more : (best : Option Fault) (f : Fault) (fs : List Fault) → least best (f ∷ fs) ≡ least (kept best f) fs
unfolding least
least_more best f fs = refl
