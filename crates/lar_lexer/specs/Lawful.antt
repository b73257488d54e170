-- What the tokens of a file keep.
use Rattle.std.specs.Prelude.{ℕ, ◌≡◌, ◌<◌, ◌^◌, ◌⊎◌, pos, List, All}
use Rattle.std.specs.List.{AllPairs}
use Rattle.lar_tree.specs.declared.token.Kind.{Kind}
use Rattle.lar_tree.specs.declared.token.Kind.TheVariants as kinds
use Rattle.lar_tree.specs.declared.token.Token.{Token}
use Rattle.lar_source.specs.declared.file.Span.{Span}
use Rattle.lar_lexer.specs.Piece.{IsName}

-- A name is lawful, and a number is from 0 to 9223372036854775807.
abbrev pub IsLawful : Kind → Type 0
IsLawful (kinds.Name name) = IsName name
IsLawful (kinds.Number n) = (value : ℕ) × (n ≡ pos value) × (value < 2 ^ 63)
IsLawful (kinds.Word k) = Unit {0}
IsLawful (kinds.Sign s) = Unit {0}

-- lawful tokens of the file with this number
abbrev pub AreLawful : ℕ → List Token → Type 0
AreLawful number tokens = All (λ t. IsLawful t.kind × (t.span.file ≡ number)) tokens

-- one place stands before another
abbrev pub IsBefore : Span → Span → Type 0
IsBefore p q = (p.line < q.line) ⊎ ((p.line ≡ q.line) × (p.col < q.col))

-- each token begins before all that come after it
abbrev pub AreInOrder : List Token → Type 0
AreInOrder tokens = AllPairs (λ t u. IsBefore t.span u.span) tokens
