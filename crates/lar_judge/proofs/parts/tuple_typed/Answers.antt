use Rattle.lar_judge.proofs.Tuples.{tuple_made}
use Rattle.lar_judge.proofs.parts.tuple_typed.Goals as goal

pub returns-in_ok-of-in-Some-clause-within : goal.returns-in_ok-of-in-Some-clause-within
returns-in_ok-of-in-Some-clause-within c =
    (tuple_made c.args.types.now c.list_type.new.types c.intern.new.self c.args.parts c.in-Some.parts _ _ c.in_ok-of-in-Some.of c.tuple.result c.in-Some.is c.as_slice.ensures c.requires c.list_type.ensures.kept c.intern.ensures.kept c.in_ok-list-in-Some.ensures.number c.in_ok-of-in-Some.ensures.number c.tuple.ensures).1

pub returns-in_ok-of-in-Some-clause-is : goal.returns-in_ok-of-in-Some-clause-is
returns-in_ok-of-in-Some-clause-is c =
    (tuple_made c.args.types.now c.list_type.new.types c.intern.new.self c.args.parts c.in-Some.parts _ _ c.in_ok-of-in-Some.of c.tuple.result c.in-Some.is c.as_slice.ensures c.requires c.list_type.ensures.kept c.intern.ensures.kept c.in_ok-list-in-Some.ensures.number c.in_ok-of-in-Some.ensures.number c.tuple.ensures).0
