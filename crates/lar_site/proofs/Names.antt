-- Generics by their names.
use Rattle.std.proofs.Common.{◌≡◌, ℕ, zero, suc, List, [], ◌∷◌, map, refl}
use Rattle.type_sizes.specs.Spelling.{generic_text}
use Rattle.lar_rules.specs.Generics.{GenericName}
use Rattle.lar_rules.specs.Printed as rules

pub generic_names : (gs : List GenericName) (k : ℕ) → generic_text (map (λ g. g.name.text) gs) k ≡ rules.generic_text gs k
generic_names [] k = refl
generic_names (g ∷ gs) zero = refl
generic_names (g ∷ gs) (suc k) = generic_names gs k
