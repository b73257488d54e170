use Rattle.lar_judge.specs.Known.{type_if}
use Rattle.lar_judge.proofs.Kept.{type_within_kept}
use Rattle.lar_judge.proofs.Rows.{keeps_twice}
use Rattle.lar_site.proofs.Members.{member_inside, under_within, under_further, under_end}
use Rattle.lar_site.proofs.under.all_under.Goals as goal

pub under-requires-clause-generics : goal.under-requires-clause-generics
under-requires-clause-generics c = type_within_kept c.args.types.now c.loop-member.types c.args.generics c.loop-member.invariant.kept c.requires.generics

pub under-requires-clause-of : goal.under-requires-clause-of
under-requires-clause-of c =
    type_within_kept c.args.types.now c.loop-member.types c.member-item.result.of c.loop-member.invariant.kept (member_inside c.args.types.now c.args.members.now c.loop-member.member-index c.member-item.result c.requires.members c.member-item.is c.loop-member-test.true)

pub loop-member-preserved : goal.loop-member-preserved
loop-member-preserved c = record {
  kept = keeps_twice c.args.types.now c.loop-member.types c.under.new.types c.loop-member.invariant.kept c.under.ensures.kept;
  inside = under_within c.loop-member.types c.under.new.types c.loop-member.out.items c.push.new.self.items c.in_ok-under.field-0 c.under.ensures.kept c.loop-member.invariant.inside c.in_ok-push.ensures.items c.in_ok-under.ensures.within;
  are = under_further c.args.types.now c.loop-member.types c.under.new.types c.args.generics c.args.members.now c.loop-member.member-index c.member-item.result c.loop-member.out.items c.push.new.self.items c.in_ok-under.field-0 c.loop-member.invariant.kept c.under.ensures.kept c.requires.generics c.requires.members c.member-item.is c.loop-member-test.true c.loop-member.invariant.inside c.loop-member.invariant.are c.in_ok-push.ensures.items c.in_ok-under.ensures.is;
}

pub returns-clause-are : goal.returns-clause-are
returns-clause-are c = under_end c.args.types.now c.loop-member.types (type_if c.args.types.now c.args.generics) c.args.members.now c.loop-member.member-index c.loop-member.out.items c.loop-member-test.false c.loop-member.invariant.are
