use Rattle.std.proofs.Common.{arith, subst, sym, ◌∙◌, ap, refl, ℕ, ◌+◌, ◌-◌, ◌≡◌, List, ◌++◌, length, vec_capacity, take, drop, ℤ}
use Rattle.std.proofs.lemmas.List.{length-take, take-take}
use Rattle.stack_vm.proofs.machine.leave.Goals as goal
use Rattle.stack_vm.proofs.Frames.{resumes}
use Rattle.stack_vm.proofs.Stack.{drop_take_at}
use Rattle.stack_vm.proofs.Places.{at_greatest}
use Rattle.stack_vm.specs.Standing.{Runs}
use Rattle.stack_vm.specs.declared.machine.Frame.{Frame}

pub returns-clause-runs : goal.returns-clause-runs
returns-clause-runs c =
    rw (c.result-count.ensures, c.move_down.auto.words) (resumes c.args.functions.now c.args.function.now c.args.state (length c.args.words.now) c.pop.new.self.items c.in_ok-frame.frame (vec_capacity c.args.frames.now) (vec_capacity c.pop.new.self)
    (subst (λ (all : List Frame). Runs c.args.functions.now c.args.function.now c.args.state (length c.args.words.now) all (vec_capacity c.args.frames.now)) c.in_ok-frame.ensures.items c.requires.runs)
    (omega (arith, c.pop.ensures.capacity)))

pub returns-clause-did : goal.returns-clause-did
returns-clause-did c =
    let count = c.args.function.now.«result» in
    let top = c.args.state.top in
    let old = c.args.words.now in
    let V : List ℤ = take top old in
    let long : length V - count ≡ top - count = omega (arith, length-take top old, c.requires.runs.stands.above, c.requires.runs.stands.room, c.requires.height, at_greatest c.args.functions.now c.args.function.now c.args.state.place _ c.requires.runs.stands.here) in
    let up : top - (top - count) ≡ count = omega (arith, c.requires.height, c.requires.runs.stands.above) in
    let rest : drop (length V - count) V ≡ take count (drop (top - count) old) =
    ap (λ (k : ℕ). drop k V) long ∙ (drop_take_at old (top - count) top (omega arith) ∙ ap (λ (k : ℕ). take k (drop (top - count) old)) up) in
    let moved = subst (λ (k : ℕ). take (c.args.state.base + k) c.move_down.new.words ≡ take c.args.state.base old ++ take k (drop (top - k) old)) c.result-count.ensures c.move_down.ensures in
    rw c.result-count.ensures (
      c.in_ok-frame.frame,
      c.in_ok-frame.ensures.items,
      refl,
      moved
          ∙ (ap (λ (xs : List ℤ). xs ++ take count (drop (top - count) old)) (sym (take-take c.args.state.base top old (omega (arith, c.requires.runs.stands.above))))
          ∙ ap (λ (ys : List ℤ). take c.args.state.base V ++ ys) (sym rest)),
    )

pub move_down-requires : goal.move_down-requires
move_down-requires c =
    let below = at_greatest c.args.functions.now c.args.function.now c.args.state.place _ c.requires.runs.stands.here in
    rw c.result-count.ensures (omega (arith, c.requires.height, c.requires.runs.stands.above), omega (arith, below, c.requires.height, c.requires.runs.stands.above, c.requires.runs.stands.room))
