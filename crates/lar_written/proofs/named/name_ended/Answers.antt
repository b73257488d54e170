use Rattle.std.proofs.Common.{List, Some, ap, sym, ◌∙◌, map, subst}
use Rattle.std.proofs.lemmas.Result.{IfOk-weaker}
use Rattle.lar_written.specs.declared.given.Given.{Given}
use Rattle.lar_written.specs.Standing.{StandsIf}
use Rattle.lar_written.proofs.Arms.{ok_always}
use Rattle.lar_rules.specs.Fault.{least}
use Rattle.lar_written.specs.Given.{marks, given_view, name_of}
use Rattle.lar_written.specs.Sites.{site_view}
use Rattle.lar_written.proofs.Fits.{least_none, unknown_is, unknown_late, generic_is, generic_late, generic_miscounted, struct_is, struct_late, none_given, some_given}
use Rattle.lar_written.proofs.named.name_ended.Goals as goal

pub returns-in-Unknown-clause-of : goal.returns-in-Unknown-clause-of
returns-in-Unknown-clause-of c = λ t b. unknown_is c.args.types.now t _ (sym b.name ∙ c.in-Unknown.is)

pub returns-in-Unknown-clause-told : goal.returns-in-Unknown-clause-told
returns-in-Unknown-clause-told c = λ t b. least_none c.args.first.now ∙ ap (least c.args.first.now) (sym (unknown_late (site_view c.args.site.now) t (map marks c.args.given.now) (sym b.name ∙ c.in-Unknown.is)))

pub returns-in_ok-intern-in-Generic-clause-of : goal.returns-in_ok-intern-in-Generic-clause-of
returns-in_ok-intern-in-Generic-clause-of c = λ t b.
    let none = none_given c.args.given.now c.if-is_empty.ensures in
    subst (λ (gs : List Given). StandsIf c.intern.new.self (Some c.in_ok-intern-in-Generic.field-0) (name_of t (map (given_view c.args.types.now) gs))) (sym none) (generic_is c.intern.new.self t c.in-Generic.place c.in_ok-intern-in-Generic.field-0 (sym b.name ∙ c.in-Generic.is) c.in_ok-intern-in-Generic.ensures.number)

pub returns-in_ok-intern-in-Generic-clause-told : goal.returns-in_ok-intern-in-Generic-clause-told
returns-in_ok-intern-in-Generic-clause-told c = λ t b. least_none c.args.first.now ∙ ap (least c.args.first.now) (sym (generic_late (site_view c.args.site.now) t c.in-Generic.place (map marks c.args.given.now) (sym b.name ∙ c.in-Generic.is)))

pub returns-else-is_empty-clause-of : goal.returns-else-is_empty-clause-of
returns-else-is_empty-clause-of c = λ t b. generic_miscounted c.args.types.now t c.in-Generic.place (map (given_view c.args.types.now) c.args.given.now) (sym b.name ∙ c.in-Generic.is) (some_given c.args.types.now c.args.given.now c.if-is_empty.ensures)

pub returns-else-is_empty-clause-told : goal.returns-else-is_empty-clause-told
returns-else-is_empty-clause-told c = λ t b. least_none c.args.first.now ∙ ap (least c.args.first.now) (sym (generic_late (site_view c.args.site.now) t c.in-Generic.place (map marks c.args.given.now) (sym b.name ∙ c.in-Generic.is)))

pub returns-in_ok-fitted-in-Struct-clause-of : goal.returns-in_ok-fitted-in-Struct-clause-of
returns-in_ok-fitted-in-Struct-clause-of c =
    IfOk-weaker c.struct_of.result _ _ (λ n st. λ t b. struct_is c.fit_ended.new.types c.struct_of.new.types t c.in-Struct.number c.as_slice.result.now (map (given_view c.args.types.now) c.args.given.now) c.in_ok-fitted-in-Struct.fitted.of n (sym b.name ∙ c.in-Struct.is) (λ x e. c.as_slice.ensures.value ∙ b.sorts x e) c.in_ok-fitted-in-Struct.ensures.of st) c.struct_of.ensures.of

pub returns-in_ok-fitted-in-Struct-clause-told : goal.returns-in_ok-fitted-in-Struct-clause-told
returns-in_ok-fitted-in-Struct-clause-told c =
    ok_always c.struct_of.result (λ t b. c.in_ok-fitted-in-Struct.ensures.told ∙ ap (least c.args.first.now) (struct_late (site_view c.args.site.now) t c.in-Struct.number c.as_slice.result.now (map marks c.args.given.now) (sym b.name ∙ c.in-Struct.is) (λ x e. c.as_slice.ensures.value ∙ b.sorts x e)))
