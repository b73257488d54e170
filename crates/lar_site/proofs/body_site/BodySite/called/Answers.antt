use Rattle.std.proofs.Common.{◌≡◌, length, arith}
use Rattle.lar_names.specs.NamesView.{names_view}
use Rattle.lar_written.specs.Sites.{site_view}
use Rattle.lar_judge.proofs.Kept.{type_within_kept}
use Rattle.lar_judge.proofs.Rows.{keeps_twice}
use Rattle.lar_rules.specs.Signatures.{params, outcome}
use Rattle.lar_written.proofs.Standings.{stands_kept}
use Rattle.lar_site.proofs.ByNumber.{function_there, function_at_index}
use Rattle.lar_site.proofs.Members.{standing_within}
use Rattle.lar_site.proofs.UseFacts.{function_number, members_inside, called_is, called_within, called_told}
use Rattle.lar_site.proofs.body_site.BodySite.called.Goals as goal

pub all_under-requires-clause-generics : goal.all_under-requires-clause-generics
all_under-requires-clause-generics c = standing_within c.generics_fitted.new.types c.in_ok-fitted.fitted.of _ c.in_ok-fitted.ensures.of

pub all_under-requires-clause-members : goal.all_under-requires-clause-members
all_under-requires-clause-members c =
    let x = function_there c.args.types.now (names_view c.args.self.now.written.names.now) c.args.self.now.signatures.now c.args.number c.index-signature.result.now c.requires.stands c.requires.number c.index-signature.ensures in
    members_inside c.args.types.now c.generics_fitted.new.types c.deref-2.result.now c.index-signature.result.now.params.items (params (names_view c.args.self.now.written.names.now) x.0) c.in_ok-fitted.ensures.kept x.2.params_stand c.deref-2.ensures.value

pub under-requires-clause-generics : goal.under-requires-clause-generics
under-requires-clause-generics c =
    type_within_kept c.generics_fitted.new.types c.all_under.new.types c.in_ok-fitted.fitted.of c.in_ok-wanted.ensures.kept (standing_within c.generics_fitted.new.types c.in_ok-fitted.fitted.of _ c.in_ok-fitted.ensures.of)

pub under-requires-clause-of : goal.under-requires-clause-of
under-requires-clause-of c =
    let x = function_there c.args.types.now (names_view c.args.self.now.written.names.now) c.args.self.now.signatures.now c.args.number c.index-signature.result.now c.requires.stands c.requires.number c.index-signature.ensures in
    standing_within c.all_under.new.types c.index-signature.result.now.outcome _ (stands_kept c.args.types.now c.all_under.new.types c.index-signature.result.now.outcome (outcome (names_view c.args.self.now.written.names.now) x.0) (keeps_twice c.args.types.now c.generics_fitted.new.types c.all_under.new.types c.in_ok-fitted.ensures.kept c.in_ok-wanted.ensures.kept) x.2.outcome_stands)

pub returns-clause-within : goal.returns-clause-within
returns-clause-within c =
    called_within c.generics_fitted.new.types c.all_under.new.types c.under.new.types c.in_ok-fitted.fitted.of c.in_ok-outcome.outcome c.in_ok-wanted.wanted.items _ c.in_ok-wanted.ensures.kept c.in_ok-outcome.ensures.kept c.in_ok-fitted.ensures.of c.in_ok-wanted.ensures.within c.in_ok-outcome.ensures.within

pub returns-clause-is : goal.returns-clause-is
returns-clause-is c = λ f e.
    called_is c.args.types.now c.generics_fitted.new.types c.all_under.new.types c.under.new.types (site_view c.args.self.now.written) c.args.path.now _ _ f c.index-signature.result.now c.deref-2.result.now c.deref.result.now _
    (function_at_index c.args.types.now (names_view c.args.self.now.written.names.now) c.args.self.now.signatures.now c.args.number c.index-signature.result.now f c.requires.stands e c.index-signature.ensures)
    c.in_ok-fitted.ensures.kept c.in_ok-wanted.ensures.kept c.in_ok-outcome.ensures.kept (function_number (names_view c.args.self.now.written.names.now) c.args.number f e) (c.args_in-args.ensures (site_view c.args.self.now.written)) c.deref.ensures.value c.deref-2.ensures.value
    c.in_ok-fitted.ensures.of c.in_ok-wanted.ensures.within c.in_ok-wanted.ensures.are c.in_ok-outcome.ensures.within c.in_ok-outcome.ensures.is

pub returns-clause-told : goal.returns-clause-told
returns-clause-told c = λ f e.
    let count : c.len-params.result ≡ length c.index-signature.result.now.params.items = (let h = c.len-params.ensures in omega (arith, h)) in
    called_told c.args.types.now (site_view c.args.self.now.written) c.args.path.now _ _ f c.index-signature.result.now c.deref.result.now c.in_ok-fitted.fitted.counted c.len-params.result c.args.count c.args.first.now c.generics_fitted.new.first c.note_miscalled.new.first
    (function_at_index c.args.types.now (names_view c.args.self.now.written.names.now) c.args.self.now.signatures.now c.args.number c.index-signature.result.now f c.requires.stands e c.index-signature.ensures)
    (c.args_in-args.ensures (site_view c.args.self.now.written)) c.deref.ensures.value count c.in_ok-fitted.ensures.counted c.in_ok-fitted.ensures.told c.in_ok-note_miscalled.ensures
