use Rattle.stack_vm.proofs.machine.callee.Goals as goal
use Rattle.stack_vm.proofs.Frames.{found}

pub returns-clause-leaves : goal.returns-clause-leaves
returns-clause-leaves c = c.requires.leaves.leaves _ (found _ _ _ c.requires.leaves.there c.index-functions-number.is)

pub returns-clause-sound : goal.returns-clause-sound
returns-clause-sound c = c.requires.sound _ _ (found _ _ _ c.requires.leaves.there c.index-functions-number.is)
