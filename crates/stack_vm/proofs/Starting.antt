-- A valid image is sound, and its run begins as the machine's does; and how the last text is put.
use Rattle.std.proofs.Common.{◌≡◌, ◌≢◌, ℕ, zero, suc, ◌+◌, ◌<◌, ◌≤◌, List, [], ◌∷◌, ◌++◌, length, take, drop, replicate, slice_get, ℤ, pos, Option, Some, None, refl, arith, ◌∙◌, ap, subst}
use Rattle.std.specs.List.{AllByRecursion}
use Rattle.std.proofs.lemmas.List.{take_all, drop_all, length-replicate}
use Rattle.object_format.specs.Code.{IsLinkedCode}
use Rattle.object_format.specs.Image.{LinkedFn, Linked, IsLinked, IsLinkedFn}
use Rattle.object_format.specs.Version.{code_offset, functions_place}
use Rattle.object_format.specs.declared.version.Version.{Version}
use Rattle.object_format.proofs.CodeFaults.{or_later-none}
use Rattle.sinks.specs.Prefixes.{TakesPrefix}
use Rattle.sinks.specs.Putting.{PuttingLeaves}
use Rattle.sinks.specs.SinkState.{SinkState, with_text, with_fault, with_want}
use Rattle.sinks.specs.declared.putting.Putting.TheVariants as putting
use Rattle.sinks.proofs.Texts.{prefix_later, with_text-append}
use Rattle.stack_vm.specs.Heights.{greatest_of}
use Rattle.stack_vm.specs.Faults.{functions_fault, entry_fault, image_fault}
use Rattle.stack_vm.specs.Sound.{At, IsSound, AllSound}
use Rattle.stack_vm.specs.Standing.{Runs, RunsOn}
use Rattle.stack_vm.specs.Acts.{Ran, begun_at, Act}
use Rattle.stack_vm.specs.Running.{acts, WorkLeaves, RunLeaves, PrefixOf, PrefixIf}
use Rattle.stack_vm.specs.declared.end.End.{End}
use Rattle.stack_vm.specs.declared.end.End.TheVariants as end
use Rattle.stack_vm.specs.declared.machine.State.{State}
use Rattle.stack_vm.proofs.Frames.{the_same}
use Rattle.stack_vm.proofs.Soundness.{sound_function}

functions_sound : (fs : List LinkedFn) (version : Version) (at : ℕ) (gs : List LinkedFn) → functions_fault fs version at gs ≡ None → AllByRecursion (λ f. IsLinkedCode (length fs) f.code) gs → (k : ℕ) (f : LinkedFn) → slice_get gs k ≡ Some f → IsSound fs f
functions_sound fs version at [] e linked k f is = absurd cc
functions_sound fs version at (g ∷ gs) e linked zero f is =
    let parts = or_later-none _ _ e in
    let same : g ≡ f = cc in
    subst (IsSound fs) same (sound_function fs version at g parts.0 linked.0)
functions_sound fs version at (g ∷ gs) e linked (suc k) f is =
    let parts = or_later-none _ _ e in
    functions_sound fs version (at + code_offset version + length g.code) gs parts.1 linked.1 k f is

-- a valid image is sound
pub sound_image : (version : Version) (i : Linked) → IsLinked i → image_fault version i ≡ None → AllSound i.functions
sound_image version i linked e =
    let parts = or_later-none (entry_fault (slice_get i.functions i.entry)) (functions_fault i.functions version functions_place i.functions) e in
    functions_sound i.functions version functions_place i.functions parts.1 linked.calls

-- the state before the first step
abbrev pub start_of : ℕ → LinkedFn → State
start_of entry f = record { number = entry; place = 0; base = 0; top = f.slots; below = 0 }

pub starts : (fs : List LinkedFn) (f : LinkedFn) (entry words capacity : ℕ) → slice_get fs entry ≡ Some f → entry < length fs → IsSound fs f → IsLinkedFn f → greatest_of fs f ≤ 1_048_576 → words ≡ 3_598_576 → 10_000 ≤ capacity
    → RunsOn fs (start_of entry f) words [] capacity
starts fs f entry words capacity is there sound own few long room = record {
  there = there;
  runs = λ h e. subst (λ (h : LinkedFn). Runs fs h (start_of entry f) words [] capacity) (the_same (slice_get fs entry) f h is e) (record {
    is = is;
    stands = record {
      sound = sound;
      own = own;
      fits = omega arith;
      here = subst (λ (n : ℕ). At fs f 0 n) (omega arith) sound.start;
      above = omega arith;
      room = omega (arith, own.slots);
    };
    long = long;
    base = omega arith;
    below = omega arith;
    depth = omega arith;
    room = room;
    waits = tt;
  });
}

abbrev begun_as : ℕ → List ℤ → List ℤ → Act
begun_as entry slots operands = record { number = entry; place = 0; slots = slots; operands = operands }

-- the words of the entry's slots are all there is
pub starts_as : (fs : List LinkedFn) (f : LinkedFn) (entry : ℕ) (V : List ℤ) → V ≡ replicate f.slots (pos 0) → acts fs f (start_of entry f) [] V ≡ begun_at entry f ∷ []
starts_as fs f entry V e =
    let zeros : List ℤ = replicate f.slots (pos 0) in
    let many : length zeros ≡ f.slots = length-replicate f.slots (pos 0) in
    let slots : take f.slots zeros ≡ zeros = take_all f.slots zeros (omega (arith, many)) in
    let operands : drop (0 + f.slots) zeros ≡ [] = drop_all (0 + f.slots) zeros (omega (arith, many)) in
    rw (e, operands, slots) refl

-- ---- the last text

-- an end that no put made
pub whole_end : (wanted : Option Ran) (old new : SinkState) (kept : List ℕ) (e : End) → e ≢ end.WriteFault → e ≢ end.Memory → WorkLeaves wanted old new kept e
    → (put : List ℕ) × (wanted ≡ Some (record { how = e; text = put ++ kept })) × (new ≡ with_text put old)
whole_end wanted old new kept end.WriteFault a b h = absurd (a refl)
whole_end wanted old new kept end.Memory a b h = absurd (b refl)
whole_end wanted old new kept end.Ended a b h = h
whole_end wanted old new kept (end.Trapped kind f at) a b h = h
whole_end wanted old new kept end.OutOfSteps a b h = h

pub run_end : (wanted : Option Ran) (old newer : SinkState) (e : End) → e ≢ end.WriteFault → e ≢ end.Memory → (text : List ℕ) × (wanted ≡ Some (record { how = e; text = text })) × (newer ≡ with_text text old) → RunLeaves wanted old newer e
run_end wanted old newer end.WriteFault a b h = absurd (a refl)
run_end wanted old newer end.Memory a b h = absurd (b refl)
run_end wanted old newer end.Ended a b h = h
run_end wanted old newer (end.Trapped kind f at) a b h = h
run_end wanted old newer end.OutOfSteps a b h = h

pub done_end : (wanted : Option Ran) (old new newer : SinkState) (kept : List ℕ) (e : End) → e ≢ end.WriteFault → e ≢ end.Memory → WorkLeaves wanted old new kept e → newer ≡ with_text kept new → RunLeaves wanted old newer e
done_end wanted old new newer kept e a b h told =
    let w = whole_end wanted old new kept e a b h in
    run_end wanted old newer e a b (w.0 ++ kept, w.1, told ∙ ap (with_text kept) w.2 ∙ with_text-append old w.0 kept)

-- a put that did not take all of the last text
prefix_end : (wanted : Option Ran) (then : SinkState → SinkState) (old new newer : SinkState) (kept : List ℕ) (e : End) → e ≢ end.WriteFault → e ≢ end.Memory → WorkLeaves wanted old new kept e → TakesPrefix new kept then newer → PrefixOf wanted then old newer
prefix_end wanted then old new newer kept e a b h p =
    let w = whole_end wanted old new kept e a b h in
    record { ran = record { how = e; text = w.0 ++ kept }; gives = w.1; takes = prefix_later old new newer w.0 kept then w.2 p }

pub failed_end : (wanted : Option Ran) (old new newer : SinkState) (kept : List ℕ) (e : End) → e ≢ end.WriteFault → e ≢ end.Memory → WorkLeaves wanted old new kept e → PuttingLeaves new kept putting.Failed newer → RunLeaves wanted old newer end.WriteFault
failed_end wanted old new newer kept e a b h p = prefix_end wanted with_fault old new newer kept e a b h p

pub memory_end : (wanted : Option Ran) (old new newer : SinkState) (kept : List ℕ) (e : End) → e ≢ end.WriteFault → e ≢ end.Memory → WorkLeaves wanted old new kept e → PuttingLeaves new kept putting.Memory newer → RunLeaves wanted old newer end.Memory
memory_end wanted old new newer kept e a b h p = prefix_end wanted with_want old new newer kept e a b h p

-- an end that a put made
prefix_there : (wanted : Option Ran) (ran : Ran) (then : SinkState → SinkState) (old new : SinkState) → wanted ≡ Some ran → PrefixIf wanted then old new → PrefixOf wanted then old new
prefix_there wanted ran then old new is h = record { ran = ran; gives = is; takes = subst (λ (w : Option Ran). PrefixIf w then old new) is h }

pub kept_failed : (wanted : Option Ran) (ran : Ran) (old new : SinkState) (kept : List ℕ) → wanted ≡ Some ran → WorkLeaves wanted old new kept end.WriteFault → RunLeaves wanted old new end.WriteFault
kept_failed wanted ran old new kept is h = prefix_there wanted ran with_fault old new is h

pub kept_memory : (wanted : Option Ran) (ran : Ran) (old new : SinkState) (kept : List ℕ) → wanted ≡ Some ran → WorkLeaves wanted old new kept end.Memory → RunLeaves wanted old new end.Memory
kept_memory wanted ran old new kept is h = prefix_there wanted ran with_want old new is h

-- whatever the end, the defined run is not stuck
pub leaves_defined : (wanted : Option Ran) (old new : SinkState) (e : End) → RunLeaves wanted old new e → (ran : Ran) × (wanted ≡ Some ran)
leaves_defined wanted old new end.WriteFault h = (h.ran, h.gives)
leaves_defined wanted old new end.Memory h = (h.ran, h.gives)
leaves_defined wanted old new end.Ended h = (_, h.1)
leaves_defined wanted old new (end.Trapped kind f at) h = (_, h.1)
leaves_defined wanted old new end.OutOfSteps h = (_, h.1)
