use Rattle.std.proofs.Common.{arith, subst, ◌∙◌, ap, refl, ◌≡◌, ℕ, ◌+◌, ◌-◌, ◌<◌, ◌++◌, length, vec_capacity, take, replicate, pos, Some}
use Rattle.stack_vm.proofs.machine.call.Goals as goal
use Rattle.stack_vm.proofs.Frames.{begins, the_same}
use Rattle.stack_vm.proofs.Places.{at_greatest, at_within}
use Rattle.stack_vm.specs.Standing.{CallGives, begun}
use Rattle.object_format.specs.Image.{LinkedFn}

pub returns-clause-runs : goal.returns-clause-runs
returns-clause-runs c =
    let few : length c.args.frames.now.items + 1 < 10_000 = omega (arith, c.len.ensures) in
    rw (c.params.ensures, c.slots.ensures.slots, c.slots-2.ensures.slots, c.clear.auto.words, rw c.unwrap.ensures at c.push.ensures.items) (begins c.args.functions.now c.args.function.now c.callee-callee.result.now c.args.state c.args.number (length c.args.words.now) c.args.frames.now.items (vec_capacity c.args.frames.now) (vec_capacity c.push.new.self)
    c.requires.runs c.callee-callee.ensures.leaves c.callee-callee.ensures.sound c.slots-2.ensures.own c.callee-callee.ensures.is c.requires.leaves.there few (omega arith) c.push.ensures.capacity)

pub returns-clause-did : goal.returns-clause-did
returns-clause-did c g is =
    let f = c.callee-callee.result.now in
    let n : ((c.args.state.top - f.params) + f.slots) - c.args.state.top ≡ f.slots - f.params = omega (arith, c.callee-callee.ensures.leaves.there, c.requires.runs.stands.above) in
    let to : (c.args.state.top - c.params.result) + c.slots-2.result ≡ (c.args.state.top - f.params) + f.slots = rw (c.params.ensures, c.slots-2.ensures.slots) refl in
    let cleared = subst (λ (k : ℕ). take k c.clear.new.words ≡ take c.args.state.top c.args.words.now ++ replicate (k - c.args.state.top) (pos 0)) to c.clear.ensures in
    rw (c.params.ensures, c.slots.ensures.slots, c.slots-2.ensures.slots) (subst (λ (g : LinkedFn). CallGives c.args.functions.now g c.args.function.now c.args.number c.args.state (take c.args.state.top c.args.words.now) c.clear.new.words c.args.frames.now.items c.push.new.self.items (Some (begun c.args.function.now f c.args.state c.args.number)))
    (the_same _ f g c.callee-callee.ensures.is is)
    (record {
      state = refl;
      words = cleared ∙ ap (λ (k : ℕ). take c.args.state.top c.args.words.now ++ replicate k (pos 0)) n;
      frames = rw c.unwrap.ensures at c.push.ensures.items;
      shallow = omega (arith, c.len.ensures);
      few = omega arith;
    }))

pub overflow_add-below-2 : goal.overflow_add-below-2
overflow_add-below-2 c = omega (arith, at_greatest c.args.functions.now c.args.function.now c.args.state.place _ c.requires.runs.stands.here, c.requires.runs.stands.room, c.requires.runs.stands.above, c.requires.runs.long, c.requires.runs.below)

pub overflow_add-below-else-len-ge-MOST_FRAMES : goal.overflow_add-below-else-len-ge-MOST_FRAMES
overflow_add-below-else-len-ge-MOST_FRAMES c = omega (arith, c.greatest_at-most.ensures.small, at_greatest c.args.functions.now c.args.function.now c.args.state.place _ c.requires.runs.stands.here, c.requires.runs.stands.room, c.requires.runs.stands.above, c.requires.runs.long, c.requires.runs.below)

pub overflow_add-frame : goal.overflow_add-frame
overflow_add-frame c = omega (arith, at_within c.args.functions.now c.args.function.now c.args.state.place _ c.requires.runs.stands.here, c.requires.runs.stands.own.short)

pub overflow_cast-frame : goal.overflow_cast-frame
overflow_cast-frame c = omega (arith, at_within c.args.functions.now c.args.function.now c.args.state.place _ c.requires.runs.stands.here, c.requires.runs.stands.own.short)
