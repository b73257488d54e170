use Rattle.std.proofs.Common.{◌∙◌, sym, subst, ap, length, arith}
use Rattle.object_format.specs.Code.{IsWhole}
use Rattle.symbol_link.specs.Callees.{place_by, reach}
use Rattle.symbol_link.specs.Relocation.{relocated}
use Rattle.symbol_link.proofs.Moved.{length-relocated, whole-relocated}
use Rattle.symbol_link.proofs.placing.placed.Goals as goal

pub new-requires-clause-short : goal.new-requires-clause-short
new-requires-clause-short c =
    let place = place_by c.args.callees.now in
    let same = c.in_ok-code.ensures ∙ ap (relocated place) c.code.ensures.code in
    let long = length-relocated place (reach c.args.callees.now) c.args.function.now.code c.requires in
    omega (arith, ap length same, long, c.code.ensures.short, ap length c.code.ensures.code)

pub new-requires-clause-whole : goal.new-requires-clause-whole
new-requires-clause-whole c =
    let place = place_by c.args.callees.now in
    let same = c.in_ok-code.ensures ∙ ap (relocated place) c.code.ensures.code in
    subst IsWhole (sym same) (whole-relocated place (reach c.args.callees.now) c.args.function.now.code c.requires)
