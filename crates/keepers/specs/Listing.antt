-- What a keeper answers that is asked for its names.
use Rattle.std.specs.Prelude.{ℕ, List}

-- the names, a fault, or memory was wanted
pub data Listing : Type 0 where
  Names : List (List ℕ) → Listing
  Failed : Listing
  Memory : Listing
