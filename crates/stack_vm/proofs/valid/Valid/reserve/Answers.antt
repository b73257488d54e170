use Rattle.std.proofs.Common.{ap, true, arith}
use Rattle.stack_vm.specs.Valid.{Validated}
use Rattle.stack_vm.proofs.valid.Valid.reserve.Goals as goal

pub invariant_of-self : goal.invariant_of-self
invariant_of-self c = (c.self.invariant.0, λ _. (omega (arith, c.in_ok-words.ensures.len), omega (arith, c.in_ok-frames.ensures.capacity), omega (arith, c.in_ok-text.ensures.capacity)))

pub returns-clause-done : goal.returns-clause-done
returns-clause-done c = ap (λ (v : Validated). record { image = v.image; reserved = true }) c.self.view_is
