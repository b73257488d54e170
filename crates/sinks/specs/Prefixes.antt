-- Texts of which a sink took a prefix.
use Rattle.std.specs.Prelude.{◌≡◌, ℕ, List, ◌++◌}
use Rattle.sinks.specs.SinkState.{SinkState, with_text}

-- The sink took a prefix of the text, which may be all of it or nothing, and then this happened to it.
pub record TakesPrefix (old : SinkState) (text : List ℕ) (then : SinkState → SinkState) (new : SinkState) : Type 0 where
  pub front : List ℕ
  pub rest : List ℕ
  pub splits : front ++ rest ≡ text
  pub now : new ≡ then (with_text front old)
