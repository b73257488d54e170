use Rattle.std.proofs.Common.{rules, w64}
use Rattle.std.specs.Int.RustNames.{FitsSigned}
use Rattle.std.proofs.lemmas.Int.{to_z-of_z}
use Rattle.lar_lexer.specs.Reading.{prints_at}
use Rattle.lar_lexer.proofs.OneByOne.{goes_on, stops, is_full}
use Rattle.lar_lexer.proofs.thin_form.read_prints.Goals as goal

pub returns-in_default-clause-prints : goal.returns-in_default-clause-prints
returns-in_default-clause-prints c =
    stops c.loop.numbers.items c.loop.counter c.loop.rest.now (prints_at 1000 c.args.bytes.now) c.loop-test.true c.in_default.ensures c.loop.invariant.told

pub loop-preserved : goal.loop-preserved
loop-preserved c =
    let fits : FitsSigned w64 c.in-Some.number = search rules in
    let told = goes_on c.loop.numbers.items c.loop.counter c.loop.rest.now c.in-Some.after.now c.in-Some.number (prints_at 1000 c.args.bytes.now) c.loop-test.true c.in-Some.ensures c.loop.invariant.told in
    record {
      told = rw (c.in_ok-push.ensures.items, to_z-of_z w64 c.in-Some.number fits) told;
      count = search rules;
    }

pub returns-clause-prints : goal.returns-clause-prints
returns-clause-prints c = is_full c.loop.numbers.items c.loop.counter c.loop.rest.now (prints_at 1000 c.args.bytes.now) c.loop-test.false c.loop.invariant.told
