use Rattle.std.proofs.Common.{[], ◌∷◌, ◌++◌, Some, sym, ap, ◌∙◌, arith, List}
use Rattle.std.proofs.lemmas.Result.{IfOk-weaker, on_ok_weaker}
use Rattle.lar_rules.specs.Written.{type_named, one_given}
use Rattle.lar_tree.specs.TypeView.{arg_view}
use Rattle.lar_written.specs.declared.given.Given.{Given}
use Rattle.lar_written.specs.Sites.{site_view}
use Rattle.lar_written.proofs.Arms.{ok_always, int_told, bool_told, unit_told, number_told, tuple_is_written, tuple_told, alone_is, alone_told, args_is, args_told, given_all, given_told_all}
use Rattle.lar_written.proofs.Loops.{others_further, others_told, others_all_told, given_first, given_further, given_told, given_begun, given_end, given_all_told}
use Rattle.lar_written.proofs.Standings.{keeps_twice}
use Rattle.lar_written.proofs.ty.+writing.Goals as goal

pub args_given-loop-member-init : goal.args_given-loop-member-init
args_given-loop-member-init t c = record {
  kept = c.one_given.ensures.kept;
  of = given_first c.one_given.new.types c.push.new.self.items c.in_ok-one_given.field-0 (one_given (site_view c.args.site.now) (arg_view c.args.args.now.list.first)) c.in_ok-one_given.ensures.of (c.in_ok-push.ensures.items ∙ ap (λ (xs : List Given). xs ++ c.in_ok-one_given.field-0 ∷ []) c.new-out.ensures.items);
  told = given_begun (site_view c.args.site.now) c.args.args.now.list.first c.as_slice-member-items.result.now c.args.first.now c.one_given.new.first c.in_ok-one_given.ensures.told;
}

pub args_given-loop-member-preserved : goal.args_given-loop-member-preserved
args_given-loop-member-preserved t c = record {
  kept = keeps_twice c.args.types.now c.loop-member.types c.one_given-in-loop-member.new.types c.loop-member.invariant.kept c.one_given-in-loop-member.ensures.kept;
  of = given_further c.loop-member.types c.one_given-in-loop-member.new.types (site_view c.args.site.now) (one_given (site_view c.args.site.now) (arg_view c.args.args.now.list.first)) c.as_slice-member-items.result.now c.loop-member.member-index c.member-item.result c.loop-member.out.items c.push-in-loop-member.new.self.items c.in_ok-one_given-2.field-0 c.one_given-in-loop-member.ensures.kept c.member-item.is c.loop-member-test.true c.loop-member.invariant.of c.in_ok-push-2.ensures.items c.in_ok-one_given-2.ensures.of;
  told = given_told (site_view c.args.site.now) c.as_slice-member-items.result.now c.loop-member.member-index c.member-item.result c.loop-member.first c.one_given-in-loop-member.new.first _ c.member-item.is c.loop-member-test.true c.loop-member.invariant.told c.in_ok-one_given-2.ensures.told;
}

pub args_given-returns-clause-of : goal.args_given-returns-clause-of
args_given-returns-clause-of t c =
    given_all c.loop-member.types (site_view c.args.site.now) c.args.args.now c.as_slice-member-items.result.now c.loop-member.out.items c.as_slice-member-items.ensures (given_end c.loop-member.types (site_view c.args.site.now) (one_given (site_view c.args.site.now) (arg_view c.args.args.now.list.first)) c.as_slice-member-items.result.now c.loop-member.member-index c.loop-member.out.items c.loop-member-test.false c.loop-member.invariant.of)

pub args_given-returns-clause-told : goal.args_given-returns-clause-told
args_given-returns-clause-told t c =
    given_told_all (site_view c.args.site.now) c.args.args.now c.as_slice-member-items.result.now c.args.first.now c.loop-member.first c.as_slice-member-items.ensures (given_all_told (site_view c.args.site.now) c.as_slice-member-items.result.now c.loop-member.member-index c.loop-member.first _ c.loop-member-test.false c.loop-member.invariant.told)

pub one_given-returns-in-Number-clause-told : goal.one_given-returns-in-Number-clause-told
one_given-returns-in-Number-clause-told t c = ok_always c.number_given.result (number_told (site_view c.args.site.now) c.args.arg.now c.in-Number.number c.args.first.now c.in-Number.is)

pub others_written-loop-member-preserved : goal.others_written-loop-member-preserved
others_written-loop-member-preserved t c = record {
  kept = keeps_twice c.args.types.now c.loop-member.types c.ty_written.new.types c.loop-member.invariant.kept c.ty_written.ensures.kept;
  of = others_further c.loop-member.types c.ty_written.new.types (site_view c.args.site.now) c.args.members.now c.loop-member.member-index c.member-item.result c.loop-member.out.items c.push.new.self.items c.in_ok-ty_written.field-0 c.ty_written.ensures.kept c.member-item.is c.loop-member-test.true c.loop-member.invariant.of c.in_ok-push.ensures.items c.in_ok-ty_written.ensures.of;
  told = others_told (site_view c.args.site.now) c.args.members.now c.loop-member.member-index c.member-item.result c.loop-member.first c.ty_written.new.first _ c.member-item.is c.loop-member-test.true c.loop-member.invariant.told c.in_ok-ty_written.ensures.told;
}

pub others_written-returns-clause-told : goal.others_written-returns-clause-told
others_written-returns-clause-told t c = others_all_told (site_view c.args.site.now) c.args.members.now c.loop-member.member-index c.loop-member.first _ c.loop-member-test.false c.loop-member.invariant.told

pub tuple_written-returns-clause-of : goal.tuple_written-returns-clause-of
tuple_written-returns-clause-of t c =
    IfOk-weaker c.tuple_of.result _ _ (λ n st. tuple_is_written c.ty_written.new.types c.ty_written-2.new.types c.others_written.new.types c.tuple_of.new.types (site_view c.args.site.now) c.args.tuple.now c.as_slice.result.now c.in_ok-head.head c.in_ok-next.next n c.in_ok-others.others.items c.as_slice-2.result.now c.ty_written-2.ensures.kept c.others_written.ensures.kept c.in_ok-head.ensures.of c.in_ok-next.ensures.of c.as_slice.ensures c.in_ok-others.ensures.of c.as_slice-2.ensures.value st) c.tuple_of.ensures.of

pub tuple_written-returns-clause-told : goal.tuple_written-returns-clause-told
tuple_written-returns-clause-told t c =
    ok_always c.tuple_of.result (tuple_told (site_view c.args.site.now) c.args.tuple.now c.as_slice.result.now c.args.first.now c.ty_written.new.first c.ty_written-2.new.first c.others_written.new.first c.as_slice.ensures c.in_ok-head.ensures.told c.in_ok-next.ensures.told c.in_ok-others.ensures.told)

pub ty_written-returns-in_ok-intern-in-Int-clause-told : goal.ty_written-returns-in_ok-intern-in-Int-clause-told
ty_written-returns-in_ok-intern-in-Int-clause-told t c = int_told (site_view c.args.site.now) c.args.ty.now _ c.args.first.now c.in-Int.is

pub ty_written-returns-in_ok-intern-in-Bool-clause-told : goal.ty_written-returns-in_ok-intern-in-Bool-clause-told
ty_written-returns-in_ok-intern-in-Bool-clause-told t c = bool_told (site_view c.args.site.now) c.args.ty.now _ c.args.first.now c.in-Bool.is

pub ty_written-returns-in-Unit-clause-told : goal.ty_written-returns-in-Unit-clause-told
ty_written-returns-in-Unit-clause-told t c = ok_always c.unit.result (unit_told (site_view c.args.site.now) c.args.ty.now _ _ c.args.first.now c.in-Unit.is)

pub ty_written-returns-in_ok-begun-in-None-clause-of : goal.ty_written-returns-in_ok-begun-in-None-clause-of
ty_written-returns-in_ok-begun-in-None-clause-of t c =
    IfOk-weaker c.name_ended.result _ _ (λ n h. alone_is c.name_ended.new.types (site_view c.args.site.now) c.args.ty.now c.in-Named.path c.in-Named.args n c.in-Named.is c.in-None.is (h (type_named (site_view c.args.site.now) c.in-Named.path) c.in_ok-begun-in-None.ensures.begun)) c.name_ended.ensures.of

pub ty_written-returns-in_ok-begun-in-None-clause-told : goal.ty_written-returns-in_ok-begun-in-None-clause-told
ty_written-returns-in_ok-begun-in-None-clause-told t c =
    on_ok_weaker c.name_ended.result (λ h. alone_told (site_view c.args.site.now) c.args.ty.now c.in-Named.path c.in-Named.args c.args.first.now c.name_begun.new.first c.name_ended.new.first c.in-Named.is c.in-None.is c.in_ok-begun-in-None.ensures.told (h (type_named (site_view c.args.site.now) c.in-Named.path) c.in_ok-begun-in-None.ensures.begun)) c.name_ended.ensures.told

pub ty_written-returns-in_ok-given-in-Some-clause-of : goal.ty_written-returns-in_ok-given-in-Some-clause-of
ty_written-returns-in_ok-given-in-Some-clause-of t c =
    IfOk-weaker c.name_ended-in-Some.result _ _ (λ n h. args_is c.args_given.new.types c.name_ended-in-Some.new.types (site_view c.args.site.now) c.args.ty.now c.in-Named.path c.in-Named.args c.get-args.result.now c.in_ok-given-in-Some.given.items c.as_slice.result.now n c.in-Named.is (c.in-Some.is ∙ ap Some (sym c.get-args.ensures)) c.in_ok-given-in-Some.ensures.of c.as_slice.ensures.value (h (type_named (site_view c.args.site.now) c.in-Named.path) c.in_ok-begun-in-Some.ensures.begun)) c.name_ended-in-Some.ensures.of

pub ty_written-returns-in_ok-given-in-Some-clause-told : goal.ty_written-returns-in_ok-given-in-Some-clause-told
ty_written-returns-in_ok-given-in-Some-clause-told t c =
    on_ok_weaker c.name_ended-in-Some.result (λ h. args_told c.args_given.new.types (site_view c.args.site.now) c.args.ty.now c.in-Named.path c.in-Named.args c.get-args.result.now c.in_ok-given-in-Some.given.items c.as_slice.result.now c.len.result c.args.first.now c.name_begun-in-Some.new.first c.args_given.new.first c.name_ended-in-Some.new.first c.in-Named.is (c.in-Some.is ∙ ap Some (sym c.get-args.ensures)) c.len.ensures c.in_ok-given-in-Some.ensures.of c.as_slice.ensures.value c.in_ok-begun-in-Some.ensures.told c.in_ok-given-in-Some.ensures.told (h (type_named (site_view c.args.site.now) c.in-Named.path) c.in_ok-begun-in-Some.ensures.begun)) c.name_ended-in-Some.ensures.told
