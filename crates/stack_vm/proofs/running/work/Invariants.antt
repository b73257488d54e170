use Rattle.std.proofs.Common.{◌≡◌, ◌-◌, ◌≤◌, length, take, reverse, vec_capacity, slice_get, Some}
use Rattle.object_format.specs.Image.{LinkedFn}
use Rattle.stack_vm.specs.Standing.{Runs}
use Rattle.stack_vm.specs.Running.{Counted}
use Rattle.stack_vm.proofs.Loop.{Going}
use Rattle.stack_vm.proofs.running.work.Given as goal

abbrev pub invariant-loop : goal.invariant-loop
invariant-loop g l = record {
  code : l.code ≡ l.function.code;
  runs : Runs l.functions l.function l.state (length l.words) l.frames.items (vec_capacity l.frames);
  counted : Counted l.functions (reverse l.frames.items) (take l.state.base (take l.state.top l.words)) l.state.below;
  frames : vec_capacity l.initial.frames ≤ vec_capacity l.frames;
  text : vec_capacity l.initial.text ≤ vec_capacity l.text;
  going : (f : LinkedFn) → slice_get l.functions l.fn.start.number ≡ Some f
      → Going l.functions f l.fn.start l.initial.frames.items (take l.fn.start.top l.initial.words) l.steps l.function l.state l.frames.items (take l.state.top l.words) (l.steps - l.counter) (g.S.Sink.told l.initial.sink) (g.S.Sink.told l.sink) l.text.items;
}
