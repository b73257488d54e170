use Rattle.std.proofs.Common.{None}
use Rattle.lar_rules.specs.Signatures.{fields}
use Rattle.lar_judge.specs.Making.{made_generics}
use Rattle.lar_judge.proofs.NewRules.{are_set, new_none, new_none_told, new_some, new_some_told}
use Rattle.lar_judge.proofs.making.new_struct.Goals as goal

pub returns-in-None-clause-known : goal.returns-in-None-clause-known
returns-in-None-clause-known c env p gs is x e h k = new_none c.args.types.now env c.args.at p gs c.args.made x is c.unless_asserting.result c.in-None.is h (λ fs. c.unless_asserting.ensures.known c.args.types.now env fs e tt)

pub returns-in-None-clause-told : goal.returns-in-None-clause-told
returns-in-None-clause-told c env p gs is x e h k = new_none_told c.args.types.now env c.args.at p gs c.args.made x is c.args.first.now _ c.in-None.is h (c.unless_asserting.ensures.told env None e)

pub returns-in_ok-typed-in-Some-clause-known : goal.returns-in_ok-typed-in-Some-clause-known
returns-in_ok-typed-in-Some-clause-known c env p gs is x e h k =
    new_some c.args.types.now c.made_expr.new.types env c.args.at p gs c.args.made c.in-Some.made x is _ _ c.unless_asserting-in-Some.result c.in-Some.is h
    (λ y m. c.in_ok-fields-in-Some.ensures.is (made_generics env.site p gs y).of (fields env.site.all y) is
    (are_set c.args.types.now env.site p gs c.in-Some.made y c.deref-in-Some.result.now c.deref.result.now c.args.set.now c.in_ok-places-in-Some.places.items c.deref-in-Some-2.result.now c.same_names-same.result c.args.values.items is m k c.deref-in-Some.ensures.value c.deref.ensures.value c.deref-in-Some-2.ensures.value c.in_ok-places-in-Some.ensures c.same_names-same.ensures.is))
    c.in_ok-typed-in-Some.ensures.is
    (λ fs. c.unless_asserting-in-Some.ensures.known c.made_expr.new.types env fs e c.in_ok-typed-in-Some.ensures.within)

pub returns-in_ok-typed-in-Some-clause-told : goal.returns-in_ok-typed-in-Some-clause-told
returns-in_ok-typed-in-Some-clause-told c env p gs is x e h k =
    new_some_told c.args.types.now env c.args.at p gs c.args.made c.in-Some.made x is None c.args.first.now c.set_fields.new.first _ c.in-Some.is h
    (λ y m. c.in_ok-fields-in-Some.ensures.told env.site (made_generics env.site p gs y).of (fields env.site.all y) is e.site
    (are_set c.args.types.now env.site p gs c.in-Some.made y c.deref-in-Some.result.now c.deref.result.now c.args.set.now c.in_ok-places-in-Some.places.items c.deref-in-Some-2.result.now c.same_names-same.result c.args.values.items is m k c.deref-in-Some.ensures.value c.deref.ensures.value c.deref-in-Some-2.ensures.value c.in_ok-places-in-Some.ensures c.same_names-same.ensures.is))
    (c.unless_asserting-in-Some.ensures.told env None e)
