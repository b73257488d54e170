-- Known bytes that grow by a front of a text.
use Rattle.std.specs.Prelude.{◌≡◌, ℕ, List, ◌++◌, Option}
use Rattle.std.specs.Io.KnownBytes.{append_known}

-- The known bytes grow by a front of the text, which may be all of it or nothing.
pub record AppendsFront (old new : Option (List ℕ)) (text : List ℕ) : Type 0 where
  pub front : List ℕ
  pub rest : List ℕ
  pub splits : front ++ rest ≡ text
  pub appends : new ≡ append_known old front
