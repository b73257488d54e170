-- The rule of a channel whose messages are about one work. What a pass knows is that work, as contracts see it. No promise, but for the code and its proof alone.
use Rattle.std.specs.Prelude.{◌≡◌, ℕ, List, Option, Some, None, All}
use mathlib.Core.Option.{some}
use lib.ListN.{get_elem?}

module _ {T W : Type 0} (Fit : W → T → Type 0) where
  abbrev pub FitsIfAny : Option W → T → Type 0
  FitsIfAny (Some w) x = Fit w x
  FitsIfAny None x = Unit {0}

  -- all passes know the same work, and each message fits it
  pub record Kept (items : List T) (views : List (Option W)) : Type 0 where
    pub work : Option W
    pub same : (i : ℕ) (v : Option W) → get_elem? views i ≡ some v → v ≡ work
    pub fit : All (FitsIfAny work) items

  -- a step leaves what its pass knows, and its message fits that
  abbrev pub Fitting : Option W → T → Option W → Type 0
  Fitting before x after = (after ≡ before) × FitsIfAny before x
