-- The tree of a file's tokens, or the diagnostic of their first fault.
use Rattle.std.specs.Prelude.{ℕ, ◌≡◌, List, [], ◌∷◌, drop, Result, Ok, Err}
use Rattle.lar_bytes.specs.declared.memory.OrMemory.{OrMemory}
use Rattle.lar_bytes.specs.declared.memory.OrMemory.TheVariants.{Refused, Memory}
use Rattle.lar_source.specs.declared.code.Code.TheVariants.{SyntaxError}
use Rattle.lar_source.specs.declared.file.File.{File}
use Rattle.lar_source.specs.declared.file.Span.{Span}
use Rattle.lar_tree.specs.declared.item.Tree.{Tree}
use Rattle.lar_tree.specs.declared.token.Token.{Token}
use Rattle.lar_source.specs.Diagnostic.{Diagnostic}
use Rattle.lar_tree.specs.ItemView.{tree_view}
use Rattle.lar_tree.specs.Programs.{Spells, IsFirstFault}
use Rattle.lar_lexer.specs.Place.{walk, beginning}

-- where the first of these tokens begins; where there is none, the end of the file
abbrev pub place : List ℕ → List Token → Span
place bytes [] = walk (beginning 0) bytes
place bytes (t ∷ ts) = t.span

-- the diagnostic of a token that may not stand at this place
abbrev pub syntax_error : List ℕ → Span → Diagnostic
syntax_error file at = record { code = SyntaxError; file = file; line = at.line; col = at.col; args = [] }

-- The tree is that of the tokens and has the file's name, or the diagnostic is that of the tokens' first fault. Nothing is said where memory ran out.
abbrev pub Parses : File → List Token → Result Tree (OrMemory Diagnostic) → Type 0
Parses file ts (Ok t) = Spells (tree_view t) ts × (t.file ≡ file.name)
Parses file ts (Err (Refused d)) = (n : ℕ) × IsFirstFault ts n × (d ≡ syntax_error file.name (place file.bytes (drop n ts)))
Parses file ts (Err Memory) = Unit {0}
