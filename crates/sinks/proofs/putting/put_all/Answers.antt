use Rattle.std.proofs.Common.{arith, length-drop}
use Rattle.std.proofs.lemmas.List.{take_all}
use Rattle.sinks.specs.SinkState.{with_fault, with_want}
use Rattle.sinks.proofs.Texts.{takes_more, takes_prefix}
use Rattle.sinks.proofs.putting.put_all.Goals as goal

pub loop-sent-preserved : goal.loop-sent-preserved
loop-sent-preserved g c =
    let told = g.S.Sink.told in
    let text = c.args.text.now in
    let took = c.in-Took.ensures in
    record {
      within = omega (arith, took.0, length-drop c.loop-sent.sent text, c.loop-sent.invariant.within);
      took = takes_more (told c.args.sink.now) (told c.loop-sent.sink) (told c.put.new.self) text _ c.loop-sent.sent c.in-Took.count (take_all _ _ (omega (arith, length-drop c.loop-sent.sent text))) c.loop-sent.invariant.took took.2;
    }

pub returns-in-Failed : goal.returns-in-Failed
returns-in-Failed g c = takes_prefix (g.S.Sink.told c.args.sink.now) c.args.text.now c.loop-sent.sent with_fault (g.S.Sink.told c.loop-sent.sink) (g.S.Sink.told c.put.new.self) c.loop-sent.invariant.took c.in-Failed.ensures

pub returns-in-Memory : goal.returns-in-Memory
returns-in-Memory g c = takes_prefix (g.S.Sink.told c.args.sink.now) c.args.text.now c.loop-sent.sent with_want (g.S.Sink.told c.loop-sent.sink) (g.S.Sink.told c.put.new.self) c.loop-sent.invariant.took c.in-Memory.ensures
