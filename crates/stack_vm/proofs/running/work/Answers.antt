use Rattle.std.proofs.Common.{◌≡◌, ℕ, suc, ◌+◌, ◌-◌, List, [], ◌++◌, length, take, reverse, get_or, slice_get, ℤ, Option, Some, arith, rules, sym, ◌∙◌, ap, subst}
use Rattle.std.proofs.lemmas.Option.{slice_get-get_or}
use Rattle.std.proofs.lemmas.Int.{to_z-of_z}
use Rattle.std.specs.Int.{w64}
use Rattle.object_format.specs.Image.{LinkedFn}
use Rattle.sinks.specs.SinkState.{with_fault, with_want}
use Rattle.sinks.proofs.Texts.{with_text-nil}
use Rattle.stack_vm.specs.Effect.{Did, DidAt}
use Rattle.stack_vm.specs.Standing.{height, LeaveGives, Called, TooDeep}
use Rattle.stack_vm.specs.Acts.{Goes, step, runs, line_of}
use Rattle.stack_vm.specs.Running.{acts}
use Rattle.stack_vm.specs.declared.end.Kind.TheVariants as kinds
use Rattle.stack_vm.specs.declared.operation.Operation.{Operation}
use Rattle.stack_vm.specs.declared.machine.State.{State}
use Rattle.stack_vm.specs.declared.machine.Frame.{Frame}
use Rattle.stack_vm.specs.declared.machine.Next.TheVariants as next
use Rattle.stack_vm.proofs.Frames.{went, found, the_same}
use Rattle.stack_vm.proofs.Places.{at_within}
use Rattle.stack_vm.proofs.Loop.{goes_on_quiet, goes_on_loud, ends_here, prefix_of, steps_on, prints_on, calls_on, returns_on, returns_last, run_ended, run_trapped, run_over, deep_on, stack_long, counted_same, waits_room, after_text-nil}
use Rattle.stack_vm.proofs.Stops.{traps}
use Rattle.stack_vm.proofs.running.work.Goals as goal
use Rattle.stack_vm.proofs.running.work.Goals.{in-Went, in-Call+in-Some, in-Return+in-Some-leave, in-Print+in-Done}

pub loop-init : goal.loop-init
loop-init g c =
    let fs = c.args.functions.now in
    let f = c.index-functions-state.result in
    let is : slice_get fs c.args.start.number ≡ Some f = found fs c.args.start.number f c.requires.runs.there c.index-functions-state.is in
    record {
      code = c.code-code.ensures.code;
      runs = c.requires.runs.runs f is;
      counted = c.requires.counted;
      frames = omega arith;
      text = omega arith;
      going = λ f0 is0.
          let same : f0 ≡ f = the_same (slice_get fs c.args.start.number) f0 f is0 is in
          let all : c.args.steps - 0 ≡ c.args.steps = omega arith in
          rw (same, c.requires.nothing) (record { put = []; told = sym (with_text-nil (g.S.Sink.told c.args.sink.now)); whole = after_text-nil _ ∙ ap (λ (n : ℕ). runs fs n (acts fs f c.args.start c.args.frames.now.items (take c.args.start.top c.args.words.now))) all });
    }

pub trapped-requires : goal.trapped-requires
trapped-requires g c = omega (arith, at_within _ _ _ _ c.loop.invariant.runs.stands.here, c.loop.invariant.runs.stands.own.short)

pub trapped-requires-in-Trapped : goal.trapped-requires-in-Trapped
trapped-requires-in-Trapped g c = omega (arith, at_within _ _ _ _ c.loop.invariant.runs.stands.here, c.loop.invariant.runs.stands.own.short)

pub returns-in_default-clause-leaves : goal.returns-in_default-clause-leaves
returns-in_default-clause-leaves g c f0 is0 =
    let fs = c.args.functions.now in
    let f = c.loop.function.now in
    let s = c.loop.state in
    let V : List ℤ = take s.top c.loop.words in
    let r = c.loop.invariant.runs in
    let frames = c.loop.frames.items in
    let left = c.args.steps - c.loop.counter in
    let rest = c.args.steps - (c.loop.counter + 1) in
    let one_less : left ≡ suc rest = omega arith in
    let fine = r.stands.sound.each s.place (height f s) r.stands.here in
    let long = stack_long fs f s c.loop.words r.stands in
    let k = c.in-Call.callee in
    let did : Did V s fine.0 (next.Call k) (take s.top c.step.new.words) = subst (λ (o : Option Operation). DidAt V s o (next.Call k) (take s.top c.step.new.words)) fine.1.at c.in-Call.ensures.did in
    let safe = c.in-Call.ensures.safe in
    let g0 : LinkedFn = get_or fs k f in
    let is_g : slice_get fs k ≡ Some g0 = slice_get-get_or fs k f safe.there in
    let deep : TooDeep fs g0 f s (length frames) = c.in_default.ensures.did g0 is_g in
    let leaves = safe.leaves g0 is_g in
    let stepped = deep_on fs f g0 k s frames V fine.0 r.is fine.1.at did.0 is_g long r.stands.above leaves.there c.loop.invariant.counted deep in
    let ran = run_trapped fs f s frames V left rest kinds.Depth one_less stepped in
    rw c.trapped.ensures (ends_here _ _ _ _ _ _ _ _ _ _ _ _ _ _ _ (c.loop.invariant.going f0 is0) ran)

pub returns-in_default-leave-clause-leaves : goal.returns-in_default-leave-clause-leaves
returns-in_default-leave-clause-leaves g c f0 is0 =
    let fs = c.args.functions.now in
    let f = c.loop.function.now in
    let s = c.loop.state in
    let V : List ℤ = take s.top c.loop.words in
    let r = c.loop.invariant.runs in
    let frames = c.loop.frames.items in
    let left = c.args.steps - c.loop.counter in
    let rest = c.args.steps - (c.loop.counter + 1) in
    let one_less : left ≡ suc rest = omega arith in
    let fine = r.stands.sound.each s.place (height f s) r.stands.here in
    let long = stack_long fs f s c.loop.words r.stands in
    let did : Did V s fine.0 next.Return (take s.top c.step.new.words) = subst (λ (o : Option Operation). DidAt V s o next.Return (take s.top c.step.new.words)) fine.1.at c.in-Return.ensures.did in
    let none : frames ≡ [] = c.in_default-leave.ensures.did in
    let ran = run_ended fs f s frames V left rest one_less (returns_last fs f s frames V fine.0 r.is fine.1.at did.0 none) in
    ends_here _ _ _ _ _ _ _ _ _ _ _ _ _ _ _ (c.loop.invariant.going f0 is0) ran

pub returns-in-Failed-clause-leaves : goal.returns-in-Failed-clause-leaves
returns-in-Failed-clause-leaves g c f0 is0 = prefix_of _ _ _ _ _ _ _ _ _ _ _ with_fault _ _ (g.S.Sink.told c.print.new.sink) _ (c.loop.invariant.going f0 is0) c.in-Failed.ensures.keeps

pub returns-in-Memory-clause-leaves : goal.returns-in-Memory-clause-leaves
returns-in-Memory-clause-leaves g c f0 is0 = prefix_of _ _ _ _ _ _ _ _ _ _ _ with_want _ _ (g.S.Sink.told c.print.new.sink) _ (c.loop.invariant.going f0 is0) c.in-Memory.ensures.keeps

pub returns-in-Trapped-clause-leaves : goal.returns-in-Trapped-clause-leaves
returns-in-Trapped-clause-leaves g c f0 is0 =
    let fs = c.args.functions.now in
    let f = c.loop.function.now in
    let s = c.loop.state in
    let V : List ℤ = take s.top c.loop.words in
    let r = c.loop.invariant.runs in
    let fine = r.stands.sound.each s.place (height f s) r.stands.here in
    let did : Did V s fine.0 (next.Trapped c.in-Trapped.kind) (take s.top c.step.new.words) = subst (λ (o : Option Operation). DidAt V s o (next.Trapped c.in-Trapped.kind) (take s.top c.step.new.words)) fine.1.at c.in-Trapped.ensures.did in
    let long = stack_long fs f s c.loop.words r.stands in
    let stepped = traps fs f s V fine.0 _ c.in-Trapped.kind r.is fine.1.at fine.1.fine long r.stands.above did in
    let ran = run_trapped fs f s c.loop.frames.items V (c.args.steps - c.loop.counter) (c.args.steps - (c.loop.counter + 1)) c.in-Trapped.kind (omega arith) stepped in
    rw c.trapped-in-Trapped.ensures (ends_here _ _ _ _ _ _ _ _ _ _ _ _ _ _ _ (c.loop.invariant.going f0 is0) ran)

pub returns-clause-leaves : goal.returns-clause-leaves
returns-clause-leaves g c f0 is0 =
    ends_here _ _ _ _ _ _ _ _ _ _ _ _ _ _ _ (c.loop.invariant.going f0 is0) (run_over c.args.functions.now c.loop.function.now c.loop.state c.loop.frames.items (take c.loop.state.top c.loop.words) (c.args.steps - c.loop.counter) (omega arith))

pub loop-preserved : goal.loop-preserved
loop-preserved g c =
    let fs = c.args.functions.now in
    let f = c.loop.function.now in
    let s = c.loop.state in
    let V : List ℤ = take s.top c.loop.words in
    let r = c.loop.invariant.runs in
    let frames = c.loop.frames.items in
    let left = c.args.steps - c.loop.counter in
    let rest = c.args.steps - (c.loop.counter + 1) in
    let one_less : left ≡ suc rest = omega arith in
    let fine = r.stands.sound.each s.place (height f s) r.stands.here in
    let long = stack_long fs f s c.loop.words r.stands in
    elim c.match-step.branch [
      | in-Went w ↦
          let t = w.in-Went.next in
          let now : List ℤ = take t.top c.step.new.words in
          let did : Did V s fine.0 (next.Went t) now = subst (λ (o : Option Operation). DidAt V s o (next.Went t) now) fine.1.at w.in-Went.ensures.did in
          let safe = w.in-Went.ensures.safe in
          let on = steps_on fs f s t frames V now fine.0 r.is fine.1.at fine.1.fine long r.stands.above did in
          rw (w.words-is, w.frames-is, w.text-is, w.sink-is, w.function-is, w.code-is, w.state-is) (record {
            code = c.loop.invariant.code;
            runs = went _ _ s _ _ _ _ (rw c.step.auto.words r) safe;
            counted = counted_same fs (reverse frames) (take t.base now) (take s.base V) t.below s.below c.loop.invariant.counted on.1 safe.3;
            frames = c.loop.invariant.frames;
            text = c.loop.invariant.text;
            going = λ f0 is0. goes_on_quiet _ _ _ _ _ _ f f s t frames frames V now left rest _ _ _ (c.loop.invariant.going f0 is0) one_less on.0;
          })
      | in-Call+in-Some w ↦
          let t = w.in-Some.next in
          let k = w.in-Call.callee in
          let h = w.index-functions-state-in-Call.result in
          let is_h : slice_get fs t.number ≡ Some h = found fs t.number h w.in-Some.ensures.runs.there w.index-functions-state-in-Call.is in
          let more = w.call.new.frames.items in
          let now : List ℤ = take t.top w.call.new.words in
          let did : Did V s fine.0 (next.Call k) (take s.top c.step.new.words) = subst (λ (o : Option Operation). DidAt V s o (next.Call k) (take s.top c.step.new.words)) fine.1.at w.in-Call.ensures.did in
          let safe = w.in-Call.ensures.safe in
          let g0 : LinkedFn = get_or fs k h in
          let is_g : slice_get fs k ≡ Some g0 = slice_get-get_or fs k h safe.there in
          let called : Called fs g0 f k s t V now frames more = subst (λ (X : List ℤ). Called fs g0 f k s t X now frames more) did.1 (w.in-Some.ensures.did g0 is_g) in
          let number : t.number ≡ k = ap (λ (u : State). u.number) called.state in
          let same : g0 ≡ h = the_same (slice_get fs k) g0 h is_g (ap (slice_get fs) (sym number) ∙ is_h) in
          let leaves = safe.leaves g0 is_g in
          let sound_g = c.requires.sound k g0 is_g in
          let on = calls_on fs f g0 k s t frames more V now fine.0 r.is fine.1.at did.0 is_g long r.stands.above leaves.there sound_g.params c.loop.invariant.counted called in
          let stepped : step fs (acts fs f s frames V) ≡ Goes (acts fs h t more now) [] = subst (λ (u : LinkedFn). step fs (acts fs f s frames V) ≡ Goes (acts fs u t more now) []) same on.0 in
          rw (w.words-is, w.frames-is, w.text-is, w.sink-is, w.function-is, w.code-is, w.state-is) (record {
            code = w.code-code-in-Call.ensures.code;
            runs = w.in-Some.ensures.runs.runs h is_h;
            counted = on.1;
            frames = omega (arith, c.loop.invariant.frames, w.in-Some.ensures.capacity);
            text = c.loop.invariant.text;
            going = λ f0 is0. goes_on_quiet _ _ _ _ _ _ f h s t frames more V now left rest _ _ _ (c.loop.invariant.going f0 is0) one_less stepped;
          })
      | in-Return+in-Some-leave w ↦
          let t = w.in-Some-leave.next in
          let h = w.index-functions-state-in-Return.result in
          let is_h : slice_get fs t.number ≡ Some h = found fs t.number h w.in-Some-leave.ensures.runs.there w.index-functions-state-in-Return.is in
          let more = w.leave.new.frames.items in
          let now : List ℤ = take t.top w.leave.new.words in
          let did : Did V s fine.0 next.Return (take s.top c.step.new.words) = subst (λ (o : Option Operation). DidAt V s o next.Return (take s.top c.step.new.words)) fine.1.at w.in-Return.ensures.did in
          let gave : LeaveGives f s V w.leave.new.words frames more (Some t) = subst (λ (X : List ℤ). LeaveGives f s X w.leave.new.words frames more (Some t)) did.1 w.in-Some-leave.ensures.did in
          let b : Frame = gave.0 in
          let there : slice_get fs b.number ≡ Some h = ap (λ (u : State). slice_get fs u.number) (sym gave.2) ∙ is_h in
          let room = waits_room fs (length c.loop.words) frames more b s.base f.«result» h r.waits gave.1 there in
          let on = returns_on fs f h s t frames more b V now fine.0 r.is fine.1.at did.0 long r.stands.above w.in-Return.ensures.safe gave.1 there room gave.2 gave.3 c.loop.invariant.counted in
          rw (w.words-is, w.frames-is, w.text-is, w.sink-is, w.function-is, w.code-is, w.state-is) (record {
            code = w.code-code-in-Return.ensures.code;
            runs = w.in-Some-leave.ensures.runs.runs h is_h;
            counted = on.1;
            frames = omega (arith, c.loop.invariant.frames, w.in-Some-leave.ensures.capacity);
            text = c.loop.invariant.text;
            going = λ f0 is0. goes_on_quiet _ _ _ _ _ _ f h s t frames more V now left rest _ _ _ (c.loop.invariant.going f0 is0) one_less on.0;
          })
      | in-Print+in-Done w ↦
          let t = w.in-Print.next in
          let now : List ℤ = take t.top c.step.new.words in
          let did : Did V s fine.0 (next.Print t w.in-Print.value) now = subst (λ (o : Option Operation). DidAt V s o (next.Print t w.in-Print.value) now) fine.1.at w.in-Print.ensures.did in
          let safe = w.in-Print.ensures.safe in
          let on = prints_on fs f s t frames V now fine.0 w.in-Print.value r.is fine.1.at fine.1.fine long r.stands.above did in
          let kept = w.in-Done.ensures.keeps in
          rw (w.words-is, w.frames-is, w.text-is, w.sink-is, w.function-is, w.code-is, w.state-is) (record {
            code = c.loop.invariant.code;
            runs = went _ _ s _ _ _ _ (rw c.step.auto.words r) safe;
            counted = counted_same fs (reverse frames) (take t.base now) (take s.base V) t.below s.below c.loop.invariant.counted on.1 safe.3;
            frames = c.loop.invariant.frames;
            text = omega (arith, c.loop.invariant.text, w.in-Done.ensures.capacity);
            going = λ f0 is0. goes_on_loud _ _ _ _ _ _ f s t frames V now left rest _ _ (g.S.Sink.told w.print.new.sink) _ w.print.new.text.items (line_of w.in-Print.value) kept.0 (c.loop.invariant.going f0 is0) one_less on.0 kept.1 (kept.2 ∙ ap (λ (y : ℤ). c.loop.text.items ++ line_of y) (to_z-of_z w64 w.in-Print.value (search rules)));
          })
    ]
