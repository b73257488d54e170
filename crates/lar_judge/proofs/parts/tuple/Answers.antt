use Rattle.lar_judge.proofs.Tuples.{tuple_knows, tuple_told}
use Rattle.lar_judge.proofs.parts.tuple.Goals as goal

pub returns-clause-known : goal.returns-clause-known
returns-clause-known c env e = tuple_knows c.args.types.now c.tuple_typed.new.types env c.args.at c.args.parts.items c.in_ok-parts.parts c.in_ok-typed.typed c.unless_asserting.result
    (c.in_ok-parts.ensures.is c.args.types.now) c.in_ok-typed.ensures.is (c.unless_asserting.ensures.known c.tuple_typed.new.types env _ e c.in_ok-typed.ensures.within)

pub returns-clause-told : goal.returns-clause-told
returns-clause-told c env e = tuple_told c.args.types.now env c.args.at c.args.parts.items _ _ (c.unless_asserting.ensures.told env _ e)

pub tuple_typed-requires : goal.tuple_typed-requires
tuple_typed-requires c = c.in_ok-parts.ensures.within c.args.types.now c.requires
