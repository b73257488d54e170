use Rattle.std.proofs.Common.{◌+◌, Ok, Err, subst}
use Rattle.std.proofs.lemmas.Result.{err_from_is_err_and}
use Rattle.object_format.specs.Object.{UnlinkedFn}
use Rattle.symbol_link.specs.Defining.{DefinesOne}
use Rattle.symbol_link.specs.Found.{found}
use Rattle.symbol_link.proofs.Defined.{defines_more, defines_fault}
use Rattle.symbol_link.proofs.defining.define_functions.Goals as goal

pub returns-in_err-define_function : goal.returns-in_err-define_function
returns-in_err-define_function c =
    let p = err_from_is_err_and c.from_residual.result c.from_residual.ensures.1 in
    let e = c.in_err-define_function.field-0.0 in
    let was = found c.loop-k.definitions in
    let now = found c.define_function.new.definitions in
    let one = subst (λ (f : UnlinkedFn). DefinesOne was now f c.args.object (c.args.start + c.loop-k.k) (Err e)) c.index-functions-k.is c.in_err-define_function.ensures in
    rw (p.1, p.2) (defines_fault (found c.args.definitions.now) was now c.args.functions.now c.loop-k.k c.index-functions-k.result c.args.object c.args.start e c.requires.distinct c.loop-k-test.true c.loop-k.invariant one)

pub loop-k-preserved : goal.loop-k-preserved
loop-k-preserved c =
    let x = c.in_ok-define_function.field-0 in
    let was = found c.loop-k.definitions in
    let now = found c.define_function.new.definitions in
    let one = subst (λ (f : UnlinkedFn). DefinesOne was now f c.args.object (c.args.start + c.loop-k.k) (Ok x)) c.index-functions-k.is c.in_ok-define_function.ensures in
    defines_more (found c.args.definitions.now) was now c.args.functions.now c.loop-k.k c.index-functions-k.result c.args.object c.args.start x c.requires.distinct c.loop-k-test.true c.loop-k.invariant one
