use Rattle.std.proofs.Common.{◌≡◌, ◌+◌, ◌++◌, take, drop}
use Rattle.stack_vm.proofs.copies.move_down.Given as goal

abbrev pub invariant-loop-at : goal.invariant-loop-at
invariant-loop-at l = record {
  done : take (l.to + l.at) l.words ≡ take l.to l.initial.words ++ take l.at (drop l.from l.initial.words);
  left : drop (l.from + l.at) l.words ≡ drop (l.from + l.at) l.initial.words;
}
