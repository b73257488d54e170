use Rattle.std.proofs.Common.{◌∙◌}
use Rattle.lar_names.specs.NamesView.{names_view}
use Rattle.lar_written.specs.Sites.{site_view}
use Rattle.lar_rules.specs.Signatures.{fields}
use Rattle.lar_site.proofs.ByNumber.{struct_at_place, struct_at_index}
use Rattle.lar_site.proofs.Members.{standing_within}
use Rattle.lar_site.proofs.UseFacts.{struct_number, members_inside, made_is, made_within}
use Rattle.lar_site.proofs.body_site.BodySite.made_of.Goals as goal

pub all_under-requires-clause-generics : goal.all_under-requires-clause-generics
all_under-requires-clause-generics c = standing_within c.generics_fitted.new.types c.in_ok-fitted.fitted.of _ c.in_ok-fitted.ensures.of

pub all_under-requires-clause-members : goal.all_under-requires-clause-members
all_under-requires-clause-members c =
    let x = struct_at_place c.args.types.now (names_view c.args.self.now.written.names.now) c.args.self.now.signatures.now c.args.number c.index-signature.result.now c.requires.stands c.requires.number c.index-signature.ensures in
    members_inside c.args.types.now c.generics_fitted.new.types c.deref-2.result.now c.index-signature.result.now.fields.items (fields (names_view c.args.self.now.written.names.now) x.0) c.in_ok-fitted.ensures.kept x.2.fields_stand c.deref-2.ensures.value

pub returns-clause-within : goal.returns-clause-within
returns-clause-within c =
    made_within c.generics_fitted.new.types c.all_under.new.types c.in_ok-fitted.fitted.of c.in_ok-wanted.wanted.items c.in_ok-names.names.items _ _ c.deref-2.result.now c.deref-3.result.now c.index-signature.result.now.fields.items c.in_ok-wanted.ensures.kept c.in_ok-fitted.ensures.of c.in_ok-wanted.ensures.within c.in_ok-wanted.ensures.are c.in_ok-names.ensures c.deref-2.ensures.value c.deref-3.ensures.value

pub returns-clause-is : goal.returns-clause-is
returns-clause-is c = λ x e.
    made_is c.args.types.now c.generics_fitted.new.types c.all_under.new.types (site_view c.args.self.now.written) c.args.path.now _ _ x c.index-signature.result.now c.deref-2.result.now c.deref-3.result.now c.deref.result.now _
    (struct_at_index c.args.types.now (names_view c.args.self.now.written.names.now) c.args.self.now.signatures.now c.args.number c.index-signature.result.now x c.requires.stands e c.index-signature.ensures)
    c.in_ok-fitted.ensures.kept c.in_ok-wanted.ensures.kept (struct_number (names_view c.args.self.now.written.names.now) c.args.number x e) (c.args_in-args.ensures (site_view c.args.self.now.written)) (c.deref.ensures.value ∙ c.in_ok-sorts.ensures x e) c.deref-2.ensures.value c.deref-3.ensures.value
    c.in_ok-fitted.ensures.of c.in_ok-wanted.ensures.within c.in_ok-wanted.ensures.are c.in_ok-names.ensures
