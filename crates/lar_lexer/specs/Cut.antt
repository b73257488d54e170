-- How a file is cut into tokens, and where it can't be, said of bytes alone.
use Rattle.std.specs.Prelude.{ℕ, ◌≡◌, ◌≤◌, ◌<◌, ◌^◌, List, [], ◌∷◌, length, take, drop, Ok, Err, codes}
use Rattle.lar_tree.specs.declared.token.Kind.{Kind}
use Rattle.lar_source.specs.declared.file.Span.{Span}
use Rattle.lar_source.specs.declared.code.Code.{Code}
use Rattle.lar_source.specs.declared.code.Code.TheVariants.{UnexpectedByte, PastLimit}
use Rattle.lar_source.specs.Diagnostic.{Diagnostic}
use Rattle.lar_lexer.specs.Lexed.{Outcome, with_front, hex_byte}
use Rattle.lar_lexer.specs.Place.{walk}
use Rattle.lar_lexer.specs.Piece.{IsWord, IsNumeral, IsGap, IsPiece, IsNoKeyword, IsToken, IsLongest}
use Rattle.lar_lexer.specs.Thin.{value_of}

-- a diagnostic at a place of the file with this name, with one argument
abbrev pub told : List ℕ → Span → Code → List ℕ → Diagnostic
told file at code argument = record { code = code; file = file; line = at.line; col = at.col; args = argument ∷ [] }

-- What can't be read at the front of a text, in the file with this name and at this place.
pub data IsFault (file : List ℕ) (at : Span) (text : List ℕ) (d : Diagnostic) : Type 0 where
  -- no piece begins at the byte
  unexpected : (b : ℕ) (bs : List ℕ) → text ≡ b ∷ bs → ((m : ℕ) → 1 ≤ m → m ≤ length text → IsPiece (take m text) → ⊥) → d ≡ told file at UnexpectedByte (hex_byte b) → IsFault file at text d
  -- the longest piece would be a name, but has more than 64 bytes
  long_name : (n : ℕ) → IsLongest text n → IsWord (take n text) → IsNoKeyword (take n text) → 64 < n → d ≡ told file at PastLimit (codes "64") → IsFault file at text d
  -- the longest piece is a number above 9223372036854775807
  large_number : (n : ℕ) → IsLongest text n → IsNumeral (take n text) → 2 ^ 63 ≤ value_of (take n text) → d ≡ told file at PastLimit (codes "9223372036854775807") → IsFault file at text d

-- From a place on, a text is cut into these tokens, or this diagnostic is of the first place where it can't be: front by front, each the
-- longest piece that begins there, the tokens with their places, and blanks and comments left out.
pub data IsCut (file : List ℕ) : Span → List ℕ → Outcome → Type 0 where
  ended : (at : Span) → IsCut file at [] (Ok [])
  gap : (at : Span) (text : List ℕ) (n : ℕ) (o : Outcome) → IsLongest text n → IsGap (take n text) → IsCut file (walk at (take n text)) (drop n text) o → IsCut file at text o
  token : (at : Span) (text : List ℕ) (n : ℕ) (kind : Kind) (o : Outcome) → IsLongest text n → IsToken (take n text) kind → IsCut file (walk at (take n text)) (drop n text) o
      → IsCut file at text (with_front (record { kind = kind; span = at } ∷ []) o)
  fault : (at : Span) (text : List ℕ) (d : Diagnostic) → IsFault file at text d → IsCut file at text (Err d)
