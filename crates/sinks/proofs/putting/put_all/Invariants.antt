use Rattle.std.proofs.Common.{◌≡◌, ◌≤◌, ◌-◌, length, take}
use Rattle.sinks.specs.SinkState.{with_text}
use Rattle.sinks.proofs.putting.put_all.Given as goal

abbrev pub invariant-loop-sent : goal.invariant-loop-sent
invariant-loop-sent g l = record {
  within : l.sent ≤ length l.text;
  took : g.S.Sink.told l.sink ≡ with_text (take l.sent l.text) (g.S.Sink.told l.initial.sink);
}

abbrev pub decreases-loop-sent : goal.decreases-loop-sent
decreases-loop-sent g l = length l.text - l.sent
