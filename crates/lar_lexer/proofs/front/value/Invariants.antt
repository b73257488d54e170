use Rattle.std.proofs.Common.{◌≡◌, ◌^◌, min, take}
use Rattle.lar_lexer.specs.Thin.{value_of}
use Rattle.lar_lexer.proofs.front.value.Given as goal

abbrev pub invariant-loop-b : goal.invariant-loop-b
invariant-loop-b l = l.n ≡ min (value_of (take l.b-index l.digits)) (2 ^ 63)
