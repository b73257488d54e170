use Rattle.std.proofs.Common.{sym, ap, ◌∙◌, refl}
use Rattle.lar_tree.specs.TypeView.{type_view, tuple_view}
use Rattle.lar_tree.specs.Types.{int_type, bool_type, unit_type, named_type}
use Rattle.lar_written.specs.Sites.{site_view}
use Rattle.lar_written.proofs.Arms.{ok_always, const_told, tuple_is_const, const_miscounted, alone_view}
use Rattle.lar_written.proofs.Views.{int_view, bool_view, unit_view, tuple_view_is}
use Rattle.lar_written.proofs.ty.const_given.Goals as goal

pub returns-in-Int-clause-told : goal.returns-in-Int-clause-told
returns-in-Int-clause-told c = ok_always c.param_given.result (const_told (site_view c.args.site.now) c.args.place c.args.ty.now (int_type c.in-Int.at) c.args.first.now (ap type_view c.in-Int.is ∙ int_view c.in-Int.at) refl)

pub returns-in-Bool-clause-told : goal.returns-in-Bool-clause-told
returns-in-Bool-clause-told c = ok_always c.param_given-in-Bool.result (const_told (site_view c.args.site.now) c.args.place c.args.ty.now (bool_type c.in-Bool.at) c.args.first.now (ap type_view c.in-Bool.is ∙ bool_view c.in-Bool.at) refl)

pub returns-in-Unit-clause-told : goal.returns-in-Unit-clause-told
returns-in-Unit-clause-told c = ok_always c.param_given-in-Unit.result (const_told (site_view c.args.site.now) c.args.place c.args.ty.now (unit_type c.in-Unit.from c.in-Unit.field-1) c.args.first.now (ap type_view c.in-Unit.is ∙ unit_view c.in-Unit.from c.in-Unit.field-1) refl)

pub returns-in-Tuple-clause-told : goal.returns-in-Tuple-clause-told
returns-in-Tuple-clause-told c = ok_always c.param_given-in-Tuple.result (const_told (site_view c.args.site.now) c.args.place c.args.ty.now (tuple_view c.in-Tuple.tuple) c.args.first.now (ap type_view c.in-Tuple.is ∙ tuple_view_is c.in-Tuple.tuple) (tuple_is_const (site_view c.args.site.now) c.args.place c.in-Tuple.tuple))

pub returns-in-None-clause-told : goal.returns-in-None-clause-told
returns-in-None-clause-told c = ok_always c.param_given-in-None.result (const_told (site_view c.args.site.now) c.args.place c.args.ty.now (named_type c.in-Named.path) c.args.first.now (alone_view c.args.ty.now c.in-Named.path c.in-Named.args c.in-Named.is c.in-None.is) refl)

pub returns-in_ok-note_miscounted-in-Some-clause-told : goal.returns-in_ok-note_miscounted-in-Some-clause-told
returns-in_ok-note_miscounted-in-Some-clause-told c =
    const_miscounted (site_view c.args.site.now) c.args.place c.args.ty.now c.in-Named.path c.in-Named.args c.in-Some.args c.get-in-Some.result.now c.len.result c.args.first.now c.note_miscounted.new.first c.in-Named.is c.in-Some.is c.get-in-Some.ensures c.len.ensures c.in_ok-note_miscounted-in-Some.ensures
