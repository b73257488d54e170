use Rattle.std.proofs.Common.{◌≡◌, map, drop, string_bytes}
use Rattle.words.specs.Lines.{has_short}
use Rattle.words.proofs.line.has_short.Given as goal

abbrev pub invariant-loop-word : goal.invariant-loop-word
invariant-loop-word l = has_short (map string_bytes l.words) ≡ has_short (map string_bytes (drop l.word-index l.words))
