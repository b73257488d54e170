use Rattle.std.proofs.lemmas.Result.{IfOk-weaker}
use Rattle.lar_written.proofs.Arms.{ok_always}
use Rattle.lar_types.proofs.FunctionFacts.{function_known}
use Rattle.lar_types.proofs.functions.checked_function.Goals as goal

pub returns-clause-of : goal.returns-clause-of
returns-clause-of c =
    IfOk-weaker c.typed_function.result _ _ (λ made e n. function_known c.args.types.now c.checked_body.new.types c.args.names.now c.args.item.now c.args.signature.now c.in_ok-found.found made c.deref.result.now c.deref-2.result.now n
    (c.functions.ensures c.checked_body.new.types) c.checked_body.ensures.kept (c.requires.signed n) (c.in_ok-found.ensures.known n) c.deref.ensures.value c.deref-2.ensures.value e) c.typed_function.ensures

pub returns-clause-told : goal.returns-clause-told
returns-clause-told c = ok_always c.typed_function.result c.in_ok-found.ensures.told
