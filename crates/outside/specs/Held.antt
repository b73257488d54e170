-- What names hold.
use Rattle.std.specs.Prelude.{◌≡◌, ◌⊎◌, ℕ, List, take, Option}
use Rattle.std.specs.Cmp.Lexicographic.{slice_cmp}
use Rattle.std.specs.Coded.{Coded, coded_list, coded_ℕ}
use Rattle.std.specs.FinMap.{FinMap, insert, code}
use Rattle.std.specs.Option.{option_map}
use Rattle.std.specs.Ordering.{nat_cmp}

-- a map from names to bytes
abbrev pub Held : Type 0
Held = FinMap (slice_cmp nat_cmp) (List ℕ)

-- what is held, where it is told, once a name holds these bytes
abbrev pub stored : List ℕ → List ℕ → Option Held → Option Held
stored name bytes told = option_map (λ held. insert held name bytes) told

-- Nothing changed, or the name holds a front of these bytes, which may be all of them.
abbrev pub StoresFront : List ℕ → List ℕ → Option Held → Option Held → Type 0
StoresFront name bytes old new = (new ≡ old) ⊎ ((n : ℕ) × (new ≡ stored name (take n bytes) old))

-- as what a model may show
abbrev pub coded_held : Coded Held
coded_held = code (coded_list coded_ℕ) (coded_list coded_ℕ)
