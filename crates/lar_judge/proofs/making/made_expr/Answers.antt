use Rattle.lar_judge.proofs.NewRules.{made_known}
use Rattle.lar_judge.proofs.making.made_expr.Goals as goal

pub returns-in_ok-of-in-Some-fields-clause-within : goal.returns-in_ok-of-in-Some-fields-clause-within
returns-in_ok-of-in-Some-fields-clause-within c =
    (made_known c.args.types.now c.intern.new.self c.args.number c.in-Some.generics c.in_ok-of-in-Some-fields.of c.args.generics c.args.fields c.in-Some-fields.fields c.new.result c.in-Some.is c.in-Some-fields.is c.intern.ensures.kept c.requires.fields c.in_ok-of-in-Some-fields.ensures.number c.new.ensures).1

pub returns-in_ok-of-in-Some-fields-clause-is : goal.returns-in_ok-of-in-Some-fields-clause-is
returns-in_ok-of-in-Some-fields-clause-is c =
    (made_known c.args.types.now c.intern.new.self c.args.number c.in-Some.generics c.in_ok-of-in-Some-fields.of c.args.generics c.args.fields c.in-Some-fields.fields c.new.result c.in-Some.is c.in-Some-fields.is c.intern.ensures.kept c.requires.fields c.in_ok-of-in-Some-fields.ensures.number c.new.ensures).0
