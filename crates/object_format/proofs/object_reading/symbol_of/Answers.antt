use Rattle.std.proofs.Common.{◌≡◌, true, ◌<◌, ◌^◌, length, sym, ap, ◌∙◌, arith, subst}
use Rattle.std.specs.Option.{is_some}
use Rattle.object_format.specs.Object.{IsSymbol}
use Rattle.object_format.specs.ObjectReading.{is_symbol}
use Rattle.object_format.proofs.Fields.{length-block}
use Rattle.object_format.proofs.SymbolTests.{symbol-tested}
use Rattle.object_format.proofs.object_reading.symbol_of.Goals as goal

pub returns-in-Some-clause-own : goal.returns-in-Some-clause-own
returns-in-Some-clause-own c =
    let len = length-block c.in_ok-len.len _ _ c.in_ok-bytes.ensures in
    let short : length c.in_ok-bytes.bytes.now < 2 ^ 32 = omega (arith, len, c.in_ok-len.ensures.fits) in
    let tested : is_symbol c.in_ok-bytes.bytes.now ≡ true = sym c.symbol_text.ensures.some ∙ ap is_some c.in-Some.is in
    subst IsSymbol (sym c.in-Some.ensures.text) (symbol-tested c.in_ok-bytes.bytes.now short tested)
