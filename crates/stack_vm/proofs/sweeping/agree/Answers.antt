use Rattle.std.proofs.Common.{arith}
use Rattle.stack_vm.proofs.Swept.{noted_ahead, noted_there}
use Rattle.stack_vm.proofs.sweeping.agree.Goals as goal

pub returns-then-noted-to : goal.returns-then-noted-to
returns-then-noted-to c is = noted_there c.args.noted.now c.args.offset c.args.to c.args.left (omega (arith, c.if-to-noted.false)) c.if-noted-to.true

pub returns : goal.returns
returns c is = noted_ahead c.args.noted.now c.args.offset c.args.to c.args.left (omega (arith, c.if-to-noted.false)) (omega (arith, c.if-to-offset.false)) (omega (arith, c.if-noted-to-2.false))
