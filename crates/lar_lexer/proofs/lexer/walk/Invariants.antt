use Rattle.std.proofs.Common.{◌≡◌, ◌≤◌, ◌+◌, take}
use Rattle.lar_lexer.specs.Place.{walk}
use Rattle.lar_lexer.proofs.lexer.walk.Given as goal

abbrev pub invariant-loop-b : goal.invariant-loop-b
invariant-loop-b l = record {
  value : l.at ≡ walk l.fn.from (take l.b-index l.bytes);
  line : l.at.line ≤ l.fn.from.line + l.b-index;
  col : l.at.col ≤ l.fn.from.col + l.b-index;
}
