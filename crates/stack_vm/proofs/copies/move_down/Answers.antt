use Rattle.std.proofs.Common.{arith, rules, ◌+◌, get_or, pos}
use Rattle.std.specs.Int.{w64}
use Rattle.std.proofs.lemmas.Int.{to_z-of_z}
use Rattle.stack_vm.proofs.Parts.{moved, moved_left}
use Rattle.stack_vm.proofs.copies.move_down.Goals as goal

pub loop-at-preserved : goal.loop-at-preserved
loop-at-preserved c = record {
  done = moved c.loop-at.words c.args.words.now c.args.from c.args.to c.loop-at.at _ (omega arith) (omega arith) (to_z-of_z w64 (get_or c.loop-at.words (c.args.from + c.loop-at.at) (pos 0)) (search rules)) c.loop-at.invariant.done c.loop-at.invariant.left;
  left = moved_left c.loop-at.words c.args.words.now c.args.from c.args.to c.loop-at.at _ (omega arith) c.loop-at.invariant.left;
}
