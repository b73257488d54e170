use Rattle.std.proofs.Common.{◌≡◌, map, take, Some}
use Rattle.lar_assembled.proofs.parts.each_there.Given as goal

abbrev pub invariant-loop-number : goal.invariant-loop-number
invariant-loop-number l = map Some l.out.items ≡ take l.number-index l.numbers
