use Rattle.std.proofs.Common.{arith}
use Rattle.stack_vm.proofs.Parts.{cleared}
use Rattle.stack_vm.proofs.copies.clear.Goals as goal

pub loop-at-preserved : goal.loop-at-preserved
loop-at-preserved c = cleared c.loop-at.words c.args.words.now c.args.from c.loop-at.at (omega arith) (omega arith) c.loop-at.invariant
