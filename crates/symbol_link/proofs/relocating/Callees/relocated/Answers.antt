use Rattle.std.proofs.Common.{◌≡◌, ◌∙◌, arith}
use Rattle.object_format.specs.Code.{Instruction}
use Rattle.object_format.specs.Splitting.{with_operand}
use Rattle.object_format.proofs.CodeFaults.{length-split}
use Rattle.symbol_link.specs.Callees.{place_by, reach}
use Rattle.symbol_link.proofs.Moved.{linked-split, puts_one, puts_all}
use Rattle.symbol_link.proofs.relocating.Callees.relocated.Goals as goal

pub put-requires-clause-whole : goal.put-requires-clause-whole
put-requires-clause-whole c = c.in-Some.ensures.some.whole

pub put-requires-clause-below : goal.put-requires-clause-below
put-requires-clause-below c =
    (linked-split (reach c.args.self.now) c.loop-opcode.left.now (with_operand c.in-Some.opcode c.in-Some.operand.now) c.in-Some.behind.now c.loop-opcode.invariant.linked c.in-Some.ensures.some).0

pub loop-opcode-preserved : goal.loop-opcode-preserved
loop-opcode-preserved c =
    let i : Instruction = with_operand c.in-Some.opcode c.in-Some.operand.now in
    let split = c.in-Some.ensures.some in
    record {
      linked = (linked-split (reach c.args.self.now) c.loop-opcode.left.now i c.in-Some.behind.now c.loop-opcode.invariant.linked split).1;
      copied = puts_one (place_by c.args.self.now) (reach c.args.self.now) c.loop-opcode.left.now i c.in-Some.behind.now c.loop-opcode.out c.put.new.out _ c.loop-opcode.invariant.linked split c.in_ok-put.ensures c.loop-opcode.invariant.copied;
    }

pub loop-opcode-smaller : goal.loop-opcode-smaller
loop-opcode-smaller c = omega (arith, length-split c.loop-opcode.left.now (with_operand c.in-Some.opcode c.in-Some.operand.now) c.in-Some.behind.now c.in-Some.ensures.some)

pub returns : goal.returns
returns c = puts_all (place_by c.args.self.now) (reach c.args.self.now) c.loop-opcode.left.now c.loop-opcode.out _ c.loop-opcode.invariant.linked c.in_default.ensures.none c.loop-opcode.invariant.copied
