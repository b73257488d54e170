use Rattle.std.proofs.Common.{◌≡◌, ◌+◌, ℕ, ap, length, arith}
use Rattle.object_format.specs.Code.{Instruction, size_of}
use Rattle.object_format.specs.Splitting.{with_operand}
use Rattle.object_format.proofs.CodeFaults.{length-split, whole-split}
use Rattle.listings.proofs.CodeLines.{lists_one, lists_all}
use Rattle.listings.proofs.listing.push_code.Goals as goal

pub loop-opcode-preserved : goal.loop-opcode-preserved
loop-opcode-preserved c =
    let i : Instruction = with_operand c.in-Some.opcode c.in-Some.operand.now in
    let split = c.in-Some.ensures.some in
    let left = c.loop-opcode.left.now in
    let long = length-split left i c.in-Some.behind.now split in
    let size : 1 + length c.in-Some.operand.now ≡ size_of i = ap (λ (n : ℕ). 1 + n) split.whole in
    record {
      within = omega (arith, long, size, c.loop-opcode.invariant.within);
      whole = whole-split left i c.in-Some.behind.now c.loop-opcode.invariant.whole split;
      listed = lists_one c.loop-opcode.offset _ left i c.in-Some.behind.now c.loop-opcode.text.items c.push_line.new.text.items _ split (ap (λ (n : ℕ). c.loop-opcode.offset + n) size) c.in_ok-push_line.ensures c.loop-opcode.invariant.listed;
    }

pub loop-opcode-smaller : goal.loop-opcode-smaller
loop-opcode-smaller c = omega (arith, length-split c.loop-opcode.left.now (with_operand c.in-Some.opcode c.in-Some.operand.now) c.in-Some.behind.now c.in-Some.ensures.some)

pub returns : goal.returns
returns c = lists_all c.loop-opcode.offset c.loop-opcode.left.now c.loop-opcode.text.items _ c.loop-opcode.invariant.whole c.in_default.ensures.none c.loop-opcode.invariant.listed
