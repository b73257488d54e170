use Rattle.std.proofs.Common.{sym, ap, length, ◌∙◌, subst, arith}
use Rattle.object_format.specs.Code.{IsWhole}
use Rattle.object_format.proofs.CodeFaults.{made-code_fault, whole-made}
use Rattle.object_format.proofs.Fields.{length-block}
use Rattle.object_format.proofs.image_reading.function_of.Goals as goal

pub new-requires-clause-whole : goal.new-requires-clause-whole
new-requires-clause-whole c =
    let none = sym c.fault_of.ensures ∙ c.in_default.is in
    subst IsWhole (sym c.in_ok-code-2.ensures) (whole-made c.args.callees _ (made-code_fault c.args.callees _ c.in_ok-code.code.now none))

pub new-requires-clause-short : goal.new-requires-clause-short
new-requires-clause-short c =
    let len = length-block c.in_ok-len.len _ _ c.in_ok-code.ensures in
    omega (arith, len, ap length c.in_ok-code-2.ensures, c.in_ok-len.ensures.fits)
