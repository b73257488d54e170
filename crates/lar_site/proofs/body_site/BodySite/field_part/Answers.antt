use Rattle.type_table.specs.Rows.{type_at}
use Rattle.std.proofs.Common.{ap, ◌∙◌, subst, ◌<◌, ◌≤◌, length, get_or, List}
use Rattle.lar_signatures.specs.declared.structure.StructSignature.{StructSignature}
use Rattle.lar_names.specs.NamesView.{names_view}
use Rattle.lar_site.proofs.ByNumber.{no_struct, no_field, field_is, fields_inside}
use Rattle.lar_site.proofs.body_site.BodySite.field_part.Goals as goal

pub returns-in-None-clause-is : goal.returns-in-None-clause-is
returns-in-None-clause-is c =
    no_struct c.args.types.now (names_view c.args.self.now.written.names.now) c.args.self.now.signatures.now c.args.number (type_at c.args.types.now c.args.generics) c.args.name.now c.requires.stands
    (subst (λ (ss : List StructSignature). length ss ≤ c.args.number) c.deref.ensures.value c.in-None.ensures.lookup.3)

pub under-requires-clause-of : goal.under-requires-clause-of
under-requires-clause-of c =
    c.in-Some-field_named.ensures.within c.args.types.now
    (fields_inside c.args.types.now (names_view c.args.self.now.written.names.now) c.args.self.now.signatures.now c.args.number c.in-Some.signature.now c.deref-2.result.now c.requires.stands
    (subst (λ (ss : List StructSignature). c.args.number < length ss) c.deref.ensures.value c.in-Some.ensures.lookup.3.0)
    (c.in-Some.ensures.lookup.1 ∙ ap (λ (ss : List StructSignature). get_or ss c.args.number c.in-Some.signature.now) c.deref.ensures.value) c.deref-2.ensures.value)

pub returns-in-None-field_named-clause-is : goal.returns-in-None-field_named-clause-is
returns-in-None-field_named-clause-is c =
    no_field c.args.types.now (names_view c.args.self.now.written.names.now) c.args.self.now.signatures.now c.args.number c.in-Some.signature.now c.deref-2.result.now (type_at c.args.types.now c.args.generics) c.args.name.now c.requires.stands
    (subst (λ (ss : List StructSignature). c.args.number < length ss) c.deref.ensures.value c.in-Some.ensures.lookup.3.0)
    (c.in-Some.ensures.lookup.1 ∙ ap (λ (ss : List StructSignature). get_or ss c.args.number c.in-Some.signature.now) c.deref.ensures.value) c.deref-2.ensures.value (c.in-None-field_named.ensures.is c.args.types.now)

pub returns-in_ok-of-in-Some-field_named-clause-is : goal.returns-in_ok-of-in-Some-field_named-clause-is
returns-in_ok-of-in-Some-field_named-clause-is c =
    field_is c.args.types.now c.under.new.types (names_view c.args.self.now.written.names.now) c.args.self.now.signatures.now c.args.number c.in-Some.signature.now c.deref-2.result.now (type_at c.args.types.now c.args.generics) c.args.name.now c.in-Some-field_named.part c.in_ok-of-in-Some-field_named.of c.requires.stands
    (subst (λ (ss : List StructSignature). c.args.number < length ss) c.deref.ensures.value c.in-Some.ensures.lookup.3.0)
    (c.in-Some.ensures.lookup.1 ∙ ap (λ (ss : List StructSignature). get_or ss c.args.number c.in-Some.signature.now) c.deref.ensures.value) c.deref-2.ensures.value (c.in-Some-field_named.ensures.is c.args.types.now) c.in_ok-of-in-Some-field_named.ensures.is
