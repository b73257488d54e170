use Rattle.std.proofs.Common.{List, subst, sym}
use Rattle.std.proofs.lemmas.Result.{err_from_is_err_and}
use Rattle.object_format.specs.Object.{UnlinkedFn, symbols_of}
use Rattle.std.specs.List.{IsDistinct}
use Rattle.std.specs.Str.{bytes_eq}
use Rattle.symbol_link.specs.Found.{found}
use Rattle.symbol_link.proofs.Apart.{distinct_front}
use Rattle.symbol_link.proofs.Places.{defines_next, defines_stop, nothing_yet, all_defined}
use Rattle.symbol_link.proofs.defining.define_all.Goals as goal

pub define_functions-requires-clause-distinct : goal.define_functions-requires-clause-distinct
define_functions-requires-clause-distinct c =
    let own = c.functions-functions.ensures.unlinked in
    let o = c.index-objects-number.result in
    subst (λ (fs : List UnlinkedFn). IsDistinct bytes_eq (symbols_of fs)) (sym c.functions-functions.ensures.list) (distinct_front (symbols_of o.functions) o.externals own.distinct)

pub loop-number-init : goal.loop-number-init
loop-number-init c = nothing_yet c.args.objects.now (found c.new-definitions.result) c.new-definitions.ensures

pub loop-number-preserved : goal.loop-number-preserved
loop-number-preserved c =
    let was = found c.loop-number.definitions in
    let now = found c.define_functions.new.definitions in
    let number = c.loop-number.number in
    let start = c.loop-number.start in
    let x = c.in_ok-define_functions.field-0 in
    defines_next c.args.objects.now was now number start c.index-objects-number.result c.functions-functions.result.now x c.loop-number-test.true c.index-objects-number.is c.functions-functions.ensures.list c.functions-functions.ensures.unlinked c.loop-number.invariant c.in_ok-define_functions.ensures

pub returns-in_err-define_functions : goal.returns-in_err-define_functions
returns-in_err-define_functions c =
    let p = err_from_is_err_and c.from_residual.result c.from_residual.ensures.1 in
    let was = found c.loop-number.definitions in
    let now = found c.define_functions.new.definitions in
    rw (p.1, p.2) (defines_stop c.args.objects.now was now c.loop-number.number c.loop-number.start c.index-objects-number.result c.functions-functions.result.now c.in_err-define_functions.field-0.0 c.loop-number-test.true c.index-objects-number.is c.functions-functions.ensures.list c.loop-number.invariant c.in_err-define_functions.ensures)

pub returns : goal.returns
returns c = all_defined c.args.objects.now (found c.loop-number.definitions) c.loop-number.number c.loop-number.start c.loop-number-test.false c.loop-number.invariant
