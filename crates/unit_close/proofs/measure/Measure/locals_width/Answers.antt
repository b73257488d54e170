use Rattle.std.proofs.Common.{arith, ◌≡◌, ◌+◌, ◌<◌, length}
use Rattle.std.proofs.Math.Numerals.{suc-eq-add-one}
use Rattle.std.proofs.Common.{sym}
use Rattle.unit_input.specs.Widths.{cut}
use Rattle.unit_close.proofs.LocalWords.{none_words, one_more}
use Rattle.unit_close.proofs.measure.Measure.locals_width.Goals as goal

pub loop-i-init : goal.loop-i-init
loop-i-init c = none_words _ _ _

pub loop-i-preserved : goal.loop-i-preserved
loop-i-preserved c =
    let room : c.loop-i.i < length c.args.locals.now = omega (arith, c.loop-i-test.true, c.requires.count) in
    let now : c.min-total.result ≡ cut (c.loop-i.total + c.width-width.result) = grind arith in
    one_more _ _ _ c.args.locals.now c.loop-i.i (c.loop-i.i + 1) c.loop-i.total c.width-width.result c.min-total.result room (sym (suc-eq-add-one c.loop-i.i)) c.loop-i.invariant c.width-width.ensures now
