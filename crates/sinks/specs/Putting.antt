-- What is put of a whole text.
use Rattle.std.specs.Prelude.{ℕ, ◌≡◌, List}
use Rattle.sinks.specs.Prefixes.{TakesPrefix}
use Rattle.sinks.specs.SinkState.{SinkState, with_text, with_fault, with_want}
use Rattle.sinks.specs.declared.putting.Putting.{Putting}
use Rattle.sinks.specs.declared.putting.Putting.TheVariants.{Done, Failed, Memory}

-- The text is appended. Or a prefix of it is, and then one put failed, or found no memory.
abbrev pub PuttingLeaves : SinkState → List ℕ → Putting → SinkState → Type 0
PuttingLeaves old text Done new = new ≡ with_text text old
PuttingLeaves old text Failed new = TakesPrefix old text with_fault new
PuttingLeaves old text Memory new = TakesPrefix old text with_want new
