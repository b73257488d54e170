use Rattle.std.proofs.Common.{ℕ, sym, subst, arith}
use Rattle.std.specs.List.{AllByRecursion}
use Rattle.object_format.specs.Code.{IsLinkedCode}
use Rattle.object_format.proofs.Images.{head_takes, functions_take}
use Rattle.object_format.proofs.image_reading.image_of.Goals as goal

pub new-requires-clause-entry : goal.new-requires-clause-entry
new-requires-clause-entry c =
    let head = head_takes _ _ (λ i. omega (arith, c.type_inv.bytes i)) c.in_ok-version.ensures in
    let fs = functions_take _ _ _ _ _ head.0.fits c.in_ok-functions.ensures in
    omega (arith, head.1.below, fs.1.many)

pub new-requires-clause-count : goal.new-requires-clause-count
new-requires-clause-count c =
    let head = head_takes _ _ (λ i. omega (arith, c.type_inv.bytes i)) c.in_ok-version.ensures in
    let fs = functions_take _ _ _ _ _ head.0.fits c.in_ok-functions.ensures in
    omega (arith, head.1.fits, fs.1.many)

pub new-requires-clause-calls : goal.new-requires-clause-calls
new-requires-clause-calls c =
    let head = head_takes _ _ (λ i. omega (arith, c.type_inv.bytes i)) c.in_ok-version.ensures in
    let fs = functions_take _ _ _ _ _ head.0.fits c.in_ok-functions.ensures in
    subst (λ (k : ℕ). AllByRecursion (λ f. IsLinkedCode k f.code) c.in_ok-functions.functions) (sym fs.1.many) fs.1.linked
