use Rattle.std.proofs.Common.{◌∙◌, ap, sym, map}
use Rattle.lar_typed.specs.TreeView.{Contents}
use Rattle.mono_collect.specs.declared.bodies.Body.{Body}
use Rattle.mono_collect.specs.Bodies.{body_of}
use Rattle.mono_collect.proofs.Patterns.{patterns_are}
use Rattle.mono_collect.proofs.Walked.{still_typed, function_there, walking_more}
use Rattle.mono_collect.proofs.walk.walk.Goals as goal

pub take_calls-requires-clause-patterns : goal.take_calls-requires-clause-patterns
take_calls-requires-clause-patterns c =
    patterns_are c.loop-member.tree c.args.bodies.now c.at-instance.result c.index-bodies-instance.result c.as_slice-calls.result.now
    (still_typed c.args.tree.now c.loop-member.tree c.args.limit c.loop-member.member c.loop-member.found c.loop-member.callees.items c.loop-member.invariant.walking c.requires.typed)
    (c.requires.bodies ∙ sym (ap (λ (t : Contents). map body_of t.functions) c.loop-member.invariant.walking.rest))
    (function_there c.loop-member.tree c.args.limit c.loop-member.member c.loop-member.found c.at-instance.result c.loop-member.invariant.walking.read c.at-instance.ensures)
    c.index-bodies-instance.is (c.as_slice-calls.ensures.value ∙ sym (ap (λ (b : Body). b.calls.items) c.index-bodies-instance.is))

pub loop-member-preserved : goal.loop-member-preserved
loop-member-preserved c = record {
  walking = walking_more c.args.tree.now c.loop-member.tree c.args.limit c.loop-member.member c.loop-member.found c.loop-member.callees.items c.loop-member.invariant.walking c.take_calls.new.tree c.at-instance.result c.take_calls.new.found c.in_ok-row.row c.push.new.self.items c.at-instance.ensures c.in_ok-row.ensures.kept c.in_ok-row.ensures.rest c.in_ok-row.ensures.program c.in_ok-row.ensures.ends c.in_ok-push.ensures.items;
  count = c.in_ok-row.ensures.count;
  sizes = c.in_ok-row.ensures.sizes;
}
