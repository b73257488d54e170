use Rattle.std.proofs.Common.{[], ◌∷◌, ◌++◌, List, ap, ◌∙◌}
use Rattle.lar_tree.specs.ItemView.{field_view}
use Rattle.lar_rules.specs.Signatures.{member}
use Rattle.lar_written.specs.declared.members.Member.{Member}
use Rattle.lar_written.specs.Sites.{site_view}
use Rattle.lar_written.proofs.Standings.{keeps_twice}
use Rattle.lar_written.proofs.MemberLists.{member_first, member_further, member_begun, member_told, members_end, members_told}
use Rattle.lar_written.proofs.members.list_members.Goals as goal

pub loop-more-init : goal.loop-more-init
loop-more-init c = record {
  kept = c.one_member.ensures.kept;
  of = member_first c.one_member.new.types c.push.new.self.items c.in_ok-one_member.field-0 (member (site_view c.args.site.now) (field_view c.args.list.now.first)) c.in_ok-one_member.ensures.of (c.in_ok-push.ensures.items ∙ ap (λ (xs : List Member). xs ++ c.in_ok-one_member.field-0 ∷ []) c.new-out.ensures.items);
  told = member_begun (site_view c.args.site.now) c.args.list.now.first c.as_slice-more-items.result.now c.args.first.now c.one_member.new.first c.in_ok-one_member.ensures.told;
}

pub loop-more-preserved : goal.loop-more-preserved
loop-more-preserved c = record {
  kept = keeps_twice c.args.types.now c.loop-more.types c.one_member-in-loop-more.new.types c.loop-more.invariant.kept c.one_member-in-loop-more.ensures.kept;
  of = member_further c.loop-more.types c.one_member-in-loop-more.new.types (site_view c.args.site.now) (field_view c.args.list.now.first) c.as_slice-more-items.result.now c.loop-more.more-index c.more-item.result c.loop-more.out.items c.push-in-loop-more.new.self.items c.in_ok-one_member-2.field-0 c.one_member-in-loop-more.ensures.kept c.more-item.is c.loop-more-test.true c.loop-more.invariant.of c.in_ok-push-2.ensures.items c.in_ok-one_member-2.ensures.of;
  told = member_told (site_view c.args.site.now) c.as_slice-more-items.result.now c.loop-more.more-index c.more-item.result c.loop-more.first c.one_member-in-loop-more.new.first _ c.more-item.is c.loop-more-test.true c.loop-more.invariant.told c.in_ok-one_member-2.ensures.told;
}

pub returns-clause-of : goal.returns-clause-of
returns-clause-of c = members_end c.loop-more.types (site_view c.args.site.now) c.args.list.now c.as_slice-more-items.result.now c.loop-more.more-index c.loop-more.out.items c.as_slice-more-items.ensures c.loop-more-test.false c.loop-more.invariant.of

pub returns-clause-told : goal.returns-clause-told
returns-clause-told c = members_told (site_view c.args.site.now) c.args.list.now c.as_slice-more-items.result.now c.loop-more.more-index c.args.first.now c.loop-more.first c.as_slice-more-items.ensures c.loop-more-test.false c.loop-more.invariant.told
