use Rattle.std.proofs.Common.{◌≡◌, ◌-◌, ◌^◌, min, take}
use Rattle.words.specs.Numbers as spec
use Rattle.words.proofs.numbers.value_of.Given as goal

abbrev pub invariant-loop-digit : goal.invariant-loop-digit
invariant-loop-digit l = l.value ≡ min (spec.value_of (take l.digit-index l.digits)) (2 ^ 64 - 1)
