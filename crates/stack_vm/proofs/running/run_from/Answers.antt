use Rattle.std.proofs.Common.{◌≡◌, ℕ, ◌-◌, ◌++◌, ◌∷◌, [], length, take, replicate, pos, Option, Some, slice_get, refl, sym, ap, ◌∙◌, subst, arith, ltb, true, false}
use Rattle.std.specs.Prelude.{vec_capacity}
use Rattle.std.proofs.lemmas.Bool.{lt-ltb, le-ltb}
use Rattle.sinks.proofs.Texts.{with_text-nil}
use Rattle.stack_vm.specs.Heights.{greatest_of}
use Rattle.stack_vm.specs.Acts.{Ran, runs, runs_from, begun_at}
use Rattle.stack_vm.specs.Running.{acts, RunLeaves, WorkLeaves}
use Rattle.stack_vm.specs.declared.machine.State.{State}
use Rattle.stack_vm.proofs.Defined.{runs_defined}
use Rattle.stack_vm.proofs.Frames.{found}
use Rattle.stack_vm.proofs.Starting.{starts, starts_as}
use Rattle.stack_vm.proofs.running.run_from.Goals as goal

pub returns-then-greatest_at-gt-MOST_WORDS-clause-leaves : goal.returns-then-greatest_at-gt-MOST_WORDS-clause-leaves
returns-then-greatest_at-gt-MOST_WORDS-clause-leaves g c =
    let fs = c.args.functions.now in
    let f = c.index-functions-entry.result in
    let is : slice_get fs c.args.entry ≡ Some f = found fs c.args.entry f c.requires.there c.index-functions-entry.is in
    let deep : ltb 1048576 (greatest_of fs f) ≡ true = lt-ltb _ _ (omega (arith, c.greatest_at.ensures.most, c.if-greatest_at-gt-MOST_WORDS.true)) in
    ([], rw (is, deep) refl, sym (with_text-nil (g.S.Sink.told c.args.sink.now)))

pub work-end-requires-clause-runs : goal.work-end-requires-clause-runs
work-end-requires-clause-runs g c =
    let fs = c.args.functions.now in
    let f = c.index-functions-entry.result in
    let is : slice_get fs c.args.entry ≡ Some f = found fs c.args.entry f c.requires.there c.index-functions-entry.is in
    rw (c.slots-top.ensures.slots, c.clear.ensures.items) (starts fs f c.args.entry (length c.clear-3.new.words) (vec_capacity c.clear.new.self) is c.requires.there (c.requires.sound c.args.entry f is) c.slots-top.ensures.own
    (omega (arith, c.greatest_at.ensures.most, c.if-greatest_at-gt-MOST_WORDS.false)) (omega (arith, c.clear-3.auto.words, c.requires.long)) (omega (arith, c.clear.ensures.capacity, c.requires.frames)))

pub returns-clause-leaves : goal.returns-clause-leaves
returns-clause-leaves g c =
    let fs = c.args.functions.now in
    let f = c.index-functions-entry.result in
    let entry = c.args.entry in
    let top = c.slots-top.result in
    let words = c.clear-3.new.words in
    let is : slice_get fs entry ≡ Some f = found fs entry f c.requires.there c.index-functions-entry.is in
    let start : State = record { number = entry; place = 0; base = 0; top = top; below = 0 } in
    let old = g.S.Sink.told c.args.sink.now in
    let wanted = runs fs c.args.steps (acts fs f start c.clear.new.self.items (take top words)) in
    let worked : WorkLeaves wanted old (g.S.Sink.told c.work-end.new.sink) c.as_slice.result.now c.work-end.result = rw c.as_slice.ensures.value (c.work-end.ensures.leaves f is) in
    let shallow : ltb 1048576 (greatest_of fs f) ≡ false = le-ltb _ _ (omega (arith, c.greatest_at.ensures.most, c.if-greatest_at-gt-MOST_WORDS.false)) in
    let all : f.slots - 0 ≡ f.slots = omega arith in
    let cleared = subst (λ (k : ℕ). take k words ≡ take 0 c.args.words.now ++ replicate (k - 0) (pos 0)) c.slots-top.ensures.slots c.clear-3.ensures in
    let zeros : take f.slots words ≡ replicate f.slots (pos 0) = cleared ∙ ap (λ (k : ℕ). replicate k (pos 0)) all in
    let begun : acts fs f start c.clear.new.self.items (take top words) ≡ begun_at entry f ∷ [] = rw (c.clear.ensures.items, c.slots-top.ensures.slots) (starts_as fs f entry (take f.slots words) zeros) in
    let from : runs_from fs c.args.steps entry (slice_get fs entry) ≡ runs fs c.args.steps (begun_at entry f ∷ []) = rw (is, shallow) refl in
    let same : wanted ≡ runs_from fs c.args.steps entry (slice_get fs entry) = ap (runs fs c.args.steps) begun ∙ sym from in
    let ran = runs_defined fs c.args.steps entry f c.requires.sound is in
    subst (λ (w : Option Ran). RunLeaves w old (g.S.Sink.told c.finish.new.sink) c.finish.result) same (c.finish.ensures wanted ran.0 old (same ∙ ran.1) worked)
