use Rattle.std.proofs.Common.{◌≡◌, ◌+◌, ℕ, sym, ap, ◌∙◌, length, arith}
use Rattle.object_format.specs.Code.{Instruction, size_of}
use Rattle.object_format.specs.Reading.{code_fault}
use Rattle.object_format.specs.Splitting.{with_operand}
use Rattle.object_format.proofs.CodeFaults.{code_fault-next, length-split}
use Rattle.object_format.proofs.code.fault_of.Goals as goal

pub loop-left-preserved : goal.loop-left-preserved
loop-left-preserved c =
    let h = c.in-Some.ensures.some in
    let i : Instruction = with_operand c.in-Some.opcode c.in-Some.operand.now in
    let long = length-split c.loop-left.left.now i c.in-Some.behind.now h in
    let none = sym c.in_default-call_fault_of.is ∙ c.call_fault_of.ensures in
    let size : 1 + length c.in-Some.operand.now ≡ size_of i = ap (λ (n : ℕ). 1 + n) h.whole in
    record {
      within = omega (arith, long, size, c.loop-left.invariant.within);
      same =
          ap (λ (n : ℕ). code_fault c.args.callees (c.loop-left.place + n) c.in-Some.behind.now) size
          ∙ code_fault-next c.args.callees c.loop-left.place c.loop-left.left.now i c.in-Some.behind.now _ h none c.loop-left.invariant.same;
    }
