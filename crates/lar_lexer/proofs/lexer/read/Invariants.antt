use Rattle.std.proofs.Common.{◌≡◌, ◌≤◌, ◌+◌, ◌^◌, length}
use Rattle.lar_lexer.specs.Lexed.{lexed, lexed_from, with_front}
use Rattle.lar_lexer.proofs.lexer.read.Given as goal

abbrev pub invariant-fronts : goal.invariant-fronts
invariant-fronts l = record {
  same : with_front l.found.items (lexed_from l.file.name 0 l.at l.rest) ≡ lexed l.file.name l.number l.file.bytes;
  line : l.at.line + length l.rest ≤ 2 ^ 24 + 1;
  col : l.at.col + length l.rest ≤ 2 ^ 24 + 1;
}

abbrev pub decreases-fronts : goal.decreases-fronts
decreases-fronts l = length l.rest
