use Rattle.std.specs.Int.{w64}
use Rattle.std.proofs.Common.{rules, ◌-◌, ◌+◌, ap, ◌∙◌, arith, slice_set, take, ℤ}
use Rattle.std.proofs.lemmas.Int.{to_z-of_z}
use Rattle.std.proofs.Math.Seq.{take-set-lt}
use Rattle.stack_vm.proofs.machine.store.Goals as goal

pub returns : goal.returns
returns c = record {
  words =
      take-set-lt (c.args.state.top - 1) c.args.words.now (c.args.state.base + c.args.slot) _ (omega arith)
      ∙ ap (λ (x : ℤ). slice_set (take (c.args.state.top - 1) c.args.words.now) (c.args.state.base + c.args.slot) x) (to_z-of_z w64 c.under.result (search rules) ∙ c.under.ensures);
}
