use Rattle.std.proofs.Common.{arith}
use Rattle.stack_vm.proofs.Showing.{brought_set, brought_same}
use Rattle.stack_vm.proofs.heights.note.Goals as goal
use Rattle.stack_vm.proofs.heights.note.Goals.{else-to-numbers-via-then-to-numbers+else-numbers-to, else-to-numbers-via-else-to-numbers}

pub returns-then-numbers-to : goal.returns-then-numbers-to
returns-then-numbers-to c pairs limit b low small = brought_set pairs c.args.numbers.now c.args.to c.args.height limit b c.if-to-numbers.true c.if-numbers-to.true low small

pub returns-else-to-numbers : goal.returns-else-to-numbers
returns-else-to-numbers c pairs limit b low small = brought_same pairs c.args.numbers.now c.args.to c.args.height limit b
    (elim c.else-to-numbers.branch [
      | else-to-numbers-via-then-to-numbers+else-numbers-to w ↦ (λ h. w.if-numbers-to.false)
      | else-to-numbers-via-else-to-numbers w ↦ (λ h. absurd (omega (arith, h, w.if-to-numbers.false)))
    ]) low
