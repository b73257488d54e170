use Rattle.std.proofs.Common.{rules, get_or, Err}
use Rattle.std.proofs.lemmas.List.{get_or_default}
use Rattle.mono_bodies.specs.declared.calls.PatternCall.{PatternCall}
use Rattle.mono_collect.specs.States.{RowEnds}
use Rattle.mono_collect.proofs.OneRow.{taking_none, taking_more, row_stops, taking_all}
use Rattle.mono_collect.proofs.walk.take_calls.Goals as goal

abbrev nothing : PatternCall
nothing = record { callee = 0; generics = 0; at = record { file = 0; line = 0; col = 0 } }

pub loop-call-init : goal.loop-call-init
loop-call-init c = rw c.new-row.ensures.items (record {
  taking = taking_none c.args.tree.now c.args.limit c.args.member c.args.instance c.args.calls.now c.args.found.now c.requires.member c.requires.patterns c.requires.before;
  count = c.requires.count;
  sizes = c.requires.sizes;
})

pub returns-in_err-place-clause-ends : goal.returns-in_err-place-clause-ends
returns-in_err-place-clause-ends c =
    let ends : RowEnds c.args.tree.now c.take_call.new.tree c.args.limit c.args.member c.args.instance c.args.found.now c.take_call.new.found (Err c.in_err-place.field-0.0) = row_stops c.args.tree.now c.args.limit c.args.member c.args.instance c.args.calls.now c.args.found.now c.requires.member c.requires.patterns c.requires.before c.loop-call.tree c.loop-call.found c.loop-call.call-index c.loop-call.row.items c.loop-call.invariant.taking (get_or c.args.calls.now c.loop-call.call-index nothing) c.loop-call-test.true (get_or_default _ _ _ _ c.loop-call-test.true) c.take_call.new.tree c.take_call.new.found c.in_err-place.field-0.0 c.in_err-place.ensures.ends in
    search rules

pub loop-call-preserved : goal.loop-call-preserved
loop-call-preserved c = record {
  taking = taking_more c.args.tree.now c.args.limit c.args.member c.args.instance c.args.calls.now c.args.found.now c.requires.member c.requires.patterns c.requires.before c.loop-call.tree c.loop-call.found c.loop-call.call-index c.loop-call.row.items c.loop-call.invariant.taking (get_or c.args.calls.now c.loop-call.call-index nothing) c.loop-call-test.true (get_or_default _ _ _ _ c.loop-call-test.true) c.take_call.new.tree c.take_call.new.found c.in_ok-place.place c.push.new.self.items c.in_ok-place.ensures.kept c.in_ok-place.ensures.rest c.in_ok-place.ensures.program c.in_ok-place.ensures.ends c.in_ok-push.ensures.items;
  count = c.in_ok-place.ensures.count;
  sizes = c.in_ok-place.ensures.sizes;
}

pub returns-clause-ends : goal.returns-clause-ends
returns-clause-ends c = taking_all c.args.tree.now c.args.limit c.args.member c.args.instance c.args.calls.now c.args.found.now c.requires.member c.requires.patterns c.requires.before c.loop-call.tree c.loop-call.found c.loop-call.call-index c.loop-call.row.items c.loop-call.invariant.taking c.loop-call-test.false c.loop-call.auto.call-index-end
