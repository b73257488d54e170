use Rattle.std.proofs.lemmas.Result.{IfOk-weaker}
use Rattle.lar_signatures.proofs.Declaring.{fields_known, fields_unknown}
use Rattle.lar_signatures.proofs.declared.field_types.Goals as goal

pub returns-in-Some-clause-of : goal.returns-in-Some-clause-of
returns-in-Some-clause-of c =
    fields_known c.args.types.now c.listed.new.types c.in-Some.list c.args.fields.now c.in_ok-known.known.items c.deref.result.now c.in_ok-list.field-0 c.in_ok-known.ensures c.deref.ensures.value c.in-Some.is c.in_ok-list.ensures.of

pub returns-clause-of : goal.returns-clause-of
returns-clause-of c =
    IfOk-weaker c.intern.result _ _ (λ n s. fields_unknown c.args.types.now c.listed.new.types c.intern.new.self n c.args.fields.now c.in_ok-known.known.items c.deref.result.now c.in_ok-list.field-0 c.in_ok-known.ensures c.deref.ensures.value c.in-None.is c.in_ok-list.ensures.of s) c.intern.ensures.number
