use Rattle.std.proofs.Common.{◌≡◌, ◌-◌, ◌++◌, [], refl, arith, take, length}
use Rattle.std.proofs.lemmas.Grind.{common_steps}
use Rattle.stack_vm.proofs.machine.step.Goals as goal

pub returns-in-JumpZero-clause-did : goal.returns-in-JumpZero-clause-did
returns-in-JumpZero-clause-did c =
    let e : take (c.args.state.top - 1) c.args.words.now ≡ take (length (take c.args.state.top c.args.words.now) - 1) (take c.args.state.top c.args.words.now) ++ [] = grind (arith, common_steps) in
    rw (c.in-JumpZero.ensures.is, c.branch-words.ensures.top) ([], refl, e, refl, (c.branch-words.ensures.number, c.branch-words.ensures.base, c.branch-words.ensures.below, c.branch-words.ensures.place), refl)
