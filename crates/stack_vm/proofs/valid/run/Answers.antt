use Rattle.std.proofs.Common.{◌≡◌, ℕ, List, sym, ap, subst, slice_get}
use Rattle.object_format.specs.Image.{LinkedFn, Linked}
use Rattle.stack_vm.specs.Sound.{AllSound}
use Rattle.stack_vm.specs.Acts.{runs_from, runs_of}
use Rattle.stack_vm.specs.Running.{RunLeaves}
use Rattle.stack_vm.specs.Valid.{Validated}
use Rattle.stack_vm.proofs.Starting.{sound_image, leaves_defined}
use Rattle.stack_vm.proofs.valid.run.Goals as goal

pub run_from-requires-clause-sound : goal.run_from-requires-clause-sound
run_from-requires-clause-sound g c = subst AllSound (sym c.functions.ensures.list) (sound_image c.valid.invariant.0.version c.valid.inside.image c.functions.ensures.linked c.valid.invariant.0.valid)

pub returns-clause-leaves : goal.returns-clause-leaves
unfolding runs_of
returns-clause-leaves g c =
    let old = g.S.Sink.told c.args.sink.now in
    let new = g.S.Sink.told c.run_from.new.sink in
    let image = c.valid.inside.image in
    let same : image ≡ c.args.valid.now.image = ap (λ (v : Validated). v.image) c.valid.view_is in
    let functions = subst (λ (fs : List LinkedFn). RunLeaves (runs_from fs c.args.steps c.entry-entry.result (slice_get fs c.entry-entry.result)) old new c.run_from.result) c.functions.ensures.list c.run_from.ensures.leaves in
    let entry = subst (λ (n : ℕ). RunLeaves (runs_from image.functions c.args.steps n (slice_get image.functions n)) old new c.run_from.result) c.entry-entry.ensures functions in
    subst (λ (i : Linked). RunLeaves (runs_from i.functions c.args.steps i.entry (slice_get i.functions i.entry)) old new c.run_from.result) same entry

pub returns-clause-defined : goal.returns-clause-defined
returns-clause-defined g c =
    leaves_defined (runs_of c.args.valid.now.image c.args.steps) (g.S.Sink.told c.args.sink.now) (g.S.Sink.told c.run_from.new.sink) c.run_from.result (returns-clause-leaves g c)
