-- The words of a text, and where each begins.
use Rattle.std.specs.Prelude.{ℕ, ◌+◌, ◌==◌, Bool, List, [], ◌∷◌, length}
use Rattle.std.specs.List.{slice_split}

-- a word
pub record Word : Type 0 where
  -- the number of the text's byte at which it begins, from 0
  pub at : ℕ
  -- its bytes
  pub text : List ℕ

-- a space, and no other blank
abbrev pub is_space : ℕ → Bool
is_space b = b == 32

-- parts of a text with one byte between each two of them, where the first begins at this byte of the text
abbrev pub placed : ℕ → List (List ℕ) → List Word
placed at [] = []
placed at (part ∷ parts) = record { at = at; text = part } ∷ placed (at + length part + 1) parts

-- The words of a text are its parts between spaces. There is at least one, and any of them may be empty.
abbrev pub words_of : List ℕ → List Word
words_of text = placed 0 (slice_split is_space text)
