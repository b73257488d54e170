use Rattle.std.proofs.Common.{◌≡◌, List, length, sym, ◌∙◌, ap}
use Rattle.std.specs.Prelude.{slice_get, Some}
use Rattle.object_format.specs.Image.{LinkedFn}
use Rattle.object_format.specs.Code.{IsLinkedCode}
use Rattle.object_format.proofs.CodeFaults.{code_fault-linked}
use Rattle.stack_vm.proofs.Offsets.{all_get, element_at}
use Rattle.stack_vm.proofs.validating.greatest_heights.Goals as goal

pub check-requires-clause-whole : goal.check-requires-clause-whole
check-requires-clause-whole c =
    let fs = c.args.image.now.functions in
    let count = length fs in
    let f = c.function-item.result in
    let is : slice_get c.functions-functions.result.now c.loop-function.function-index ≡ Some f = element_at c.functions-functions.result.now c.loop-function.function-index f c.loop-function-test.true c.function-item.is in
    let there : slice_get fs c.loop-function.function-index ≡ Some f = ap (λ (xs : List LinkedFn). slice_get xs c.loop-function.function-index) (sym c.functions-functions.ensures.list) ∙ is in
    (Some count, code_fault-linked count 0 f.code (all_get (λ (g : LinkedFn). IsLinkedCode count g.code) fs c.loop-function.function-index f c.functions-functions.ensures.linked.calls there))
