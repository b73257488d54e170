-- One turn of a run, from the stack to the functions at work.
use Rattle.std.proofs.Common.{◌≡◌, ℕ, suc, ◌+◌, ◌-◌, ◌≤◌, List, [], ◌∷◌, ◌++◌, length, take, drop, reverse, replicate, slice_get, ℤ, pos, false, Option, Some, None, refl, arith, sym, ◌∙◌, ap, subst, append_assoc, append-nil, length-drop}
use Rattle.std.proofs.lemmas.List.{length-take, take-take, take-append-le, reverse-append}
use Rattle.object_format.specs.Image.{LinkedFn}
use Rattle.sinks.specs.Prefixes.{TakesPrefix}
use Rattle.sinks.specs.SinkState.{SinkState, with_text}
use Rattle.sinks.proofs.Texts.{prefix_later, prefix_longer, with_text-append}
use Rattle.stack_vm.specs.Operation.{operation_at}
use Rattle.stack_vm.specs.Effect.{under, is_print, Did}
use Rattle.stack_vm.specs.Sound.{IsFine}
use Rattle.stack_vm.specs.Standing.{height, Stands, Called, TooDeep, waiting, resumed}
use Rattle.stack_vm.specs.Acts.{Act, Outcome, Goes, Ends, Traps, step, turn, runs, prints, line_of, calling, Ran, after_text}
use Rattle.stack_vm.specs.Running.{act, acts, seen, slots_count, Counted, PrefixIf}
use Rattle.stack_vm.specs.declared.end.Kind.{Kind}
use Rattle.stack_vm.specs.declared.end.Kind.TheVariants as kinds
use Rattle.stack_vm.specs.declared.end.End.{End}
use Rattle.stack_vm.specs.declared.end.End.TheVariants as end
use Rattle.stack_vm.specs.declared.operation.Operation.{Operation}
use Rattle.stack_vm.specs.declared.operation.Operation.TheVariants.{Call, Return, Print}
use Rattle.stack_vm.specs.declared.machine.State.{State}
use Rattle.stack_vm.specs.declared.machine.Frame.{Frame}
use Rattle.stack_vm.specs.declared.machine.Next.TheVariants as next
use Rattle.stack_vm.proofs.Frames.{the_same}
use Rattle.stack_vm.proofs.Places.{at_greatest}
use Rattle.stack_vm.specs.Standing.{Waits}
use Rattle.stack_vm.proofs.Moves.{moves, fine_room}
use Rattle.stack_vm.proofs.Stays.{stays}
use Rattle.stack_vm.proofs.Stops.{after_front, too_deep}
use Rattle.stack_vm.proofs.Turns.{calls, returns, counted_is}

-- ---- texts

pub after_text-nil : (r : Option Ran) → after_text [] r ≡ r
after_text-nil None = refl
after_text-nil (Some r) = refl

pub after_text-append : (a b : List ℕ) (r : Option Ran) → after_text a (after_text b r) ≡ after_text (a ++ b) r
after_text-append a b None = refl
after_text-append a b (Some r) = ap (λ (t : List ℕ). Some (record { how = r.how; text = t })) (sym (append_assoc a b r.text))

-- the run so far: what was put, what is kept, and that the rest makes the whole
pub record Going (fs : List LinkedFn) (f0 : LinkedFn) (s0 : State) (frames0 : List Frame) (V0 : List ℤ) (steps : ℕ) (f : LinkedFn) (s : State) (frames : List Frame) (V : List ℤ) (left : ℕ) (old new : SinkState) (kept : List ℕ) : Type 0 where
  pub put : List ℕ
  pub told : new ≡ with_text put old
  pub whole : after_text (put ++ kept) (runs fs left (acts fs f s frames V)) ≡ runs fs steps (acts fs f0 s0 frames0 V0)

-- a turn that prints nothing
pub goes_on_quiet : (fs : List LinkedFn) (f0 : LinkedFn) (s0 : State) (frames0 : List Frame) (V0 : List ℤ) (steps : ℕ) (f h : LinkedFn) (s t : State) (frames more : List Frame) (V now : List ℤ) (left rest : ℕ) (old new : SinkState) (kept : List ℕ)
    → Going fs f0 s0 frames0 V0 steps f s frames V left old new kept → left ≡ suc rest → step fs (acts fs f s frames V) ≡ Goes (acts fs h t more now) []
    → Going fs f0 s0 frames0 V0 steps h t more now rest old new kept
goes_on_quiet fs f0 s0 frames0 V0 steps f h s t frames more V now left rest old new kept g e st = record {
  put = g.put;
  told = g.told;
  whole =
      let here = acts fs f s frames V in
      let one : runs fs left here ≡ runs fs rest (acts fs h t more now) = ap (λ (n : ℕ). runs fs n here) e ∙ ap (λ (o : Outcome). turn here (runs fs rest) o) st ∙ after_text-nil (runs fs rest (acts fs h t more now)) in
      ap (after_text (g.put ++ kept)) (sym one) ∙ g.whole;
}

-- a turn that prints a line
pub goes_on_loud : (fs : List LinkedFn) (f0 : LinkedFn) (s0 : State) (frames0 : List Frame) (V0 : List ℤ) (steps : ℕ) (f : LinkedFn) (s t : State) (frames : List Frame) (V now : List ℤ) (left rest : ℕ) (old new newer : SinkState) (kept after_it line more : List ℕ)
    → Going fs f0 s0 frames0 V0 steps f s frames V left old new kept → left ≡ suc rest → step fs (acts fs f s frames V) ≡ Goes (acts fs f t frames now) line
    → newer ≡ with_text more new → more ++ after_it ≡ kept ++ line
    → Going fs f0 s0 frames0 V0 steps f t frames now rest old newer after_it
goes_on_loud fs f0 s0 frames0 V0 steps f s t frames V now left rest old new newer kept after_it line more g e st told_is split = record {
  put = g.put ++ more;
  told = told_is ∙ ap (with_text more) g.told ∙ with_text-append old g.put more;
  whole =
      let here = acts fs f s frames V in
      let r = runs fs rest (acts fs f t frames now) in
      let one : runs fs left here ≡ after_text line r = ap (λ (n : ℕ). runs fs n here) e ∙ ap (λ (o : Outcome). turn here (runs fs rest) o) st in
      let texts : (g.put ++ more) ++ after_it ≡ (g.put ++ kept) ++ line = append_assoc g.put more after_it ∙ ap (λ (x : List ℕ). g.put ++ x) split ∙ sym (append_assoc g.put kept line) in
      ap (λ (x : List ℕ). after_text x r) texts ∙ sym (after_text-append (g.put ++ kept) line r) ∙ ap (after_text (g.put ++ kept)) (sym one) ∙ g.whole;
}

-- a turn that ends the run
pub ends_here : (fs : List LinkedFn) (f0 : LinkedFn) (s0 : State) (frames0 : List Frame) (V0 : List ℤ) (steps : ℕ) (f : LinkedFn) (s : State) (frames : List Frame) (V : List ℤ) (left : ℕ) (old new : SinkState) (kept : List ℕ) (how : End)
    → Going fs f0 s0 frames0 V0 steps f s frames V left old new kept → runs fs left (acts fs f s frames V) ≡ Some (record { how = how; text = [] })
    → (put : List ℕ) × (runs fs steps (acts fs f0 s0 frames0 V0) ≡ Some (record { how = how; text = put ++ kept })) × (new ≡ with_text put old)
ends_here fs f0 s0 frames0 V0 steps f s frames V left old new kept how g e =
    (g.put, sym g.whole ∙ ap (after_text (g.put ++ kept)) e ∙ ap (λ (t : List ℕ). Some (record { how = how; text = t })) (append-nil (g.put ++ kept)), g.told)

prefix_if : (r : Option Ran) (then : SinkState → SinkState) (old new : SinkState) (put before : List ℕ) → TakesPrefix (with_text put old) before then new → PrefixIf (after_text (put ++ before) r) then old new
prefix_if None then old new put before p = tt
prefix_if (Some r) then old new put before p = prefix_longer old new (put ++ before) r.text then (prefix_later old (with_text put old) new put before then refl p)

-- a put that did not take all of what was kept
pub prefix_of : (fs : List LinkedFn) (f0 : LinkedFn) (s0 : State) (frames0 : List Frame) (V0 : List ℤ) (steps : ℕ) (f : LinkedFn) (s : State) (frames : List Frame) (V : List ℤ) (left : ℕ) (then : SinkState → SinkState) (old new newer : SinkState) (kept : List ℕ)
    → Going fs f0 s0 frames0 V0 steps f s frames V left old new kept → TakesPrefix new kept then newer → PrefixIf (runs fs steps (acts fs f0 s0 frames0 V0)) then old newer
prefix_of fs f0 s0 frames0 V0 steps f s frames V left then old new newer kept g p =
    let part : TakesPrefix (with_text g.put old) kept then newer = subst (λ (n : SinkState). TakesPrefix n kept then newer) g.told p in
    subst (λ (w : Option Ran). PrefixIf w then old newer) g.whole (prefix_if (runs fs left (acts fs f s frames V)) then old newer g.put kept part)

-- ---- steps

prints-none : (i : Operation) (b : ℤ) → is_print i ≡ false → prints i b ≡ []
prints-none Print b e = absurd cc
prints-none i b e = refl

acts_same : (fs : List LinkedFn) (f : LinkedFn) (t : State) (frames : List Frame) (W U now : List ℤ) → W ≡ U → act f.slots t now ∷ seen fs (reverse frames) W ≡ act f.slots t now ∷ seen fs (reverse frames) U
acts_same fs f t frames W U now e = ap (λ (x : List ℤ). act f.slots t now ∷ seen fs (reverse frames) x) e

-- an instruction that stays in its function
pub steps_on : (fs : List LinkedFn) (f : LinkedFn) (s t : State) (frames : List Frame) (V now : List ℤ) (i : Operation)
    → slice_get fs s.number ≡ Some f → operation_at f.code s.place ≡ Some i → IsFine fs f s.place (height f s) i → length V ≡ s.top → s.base + f.slots ≤ s.top → Did V s i (next.Went t) now
    → (step fs (acts fs f s frames V) ≡ Goes (acts fs f t frames now) []) × (take t.base now ≡ take s.base V)
steps_on fs f s t frames V now i is at fine long above d =
    let room = fine_room fs f s.place (height f s) i fine d.3 in
    let front : take t.base now ≡ take s.base V = rw (d.4.1, d.2) (after_front i s.base f.slots V d.0 (omega (arith, room.0, long, above))) in
    let moved = moves fs f s t V now i (seen fs (reverse frames) (take s.base V)) is at fine long above d in (
      moved ∙ ap (λ (text : List ℕ). Goes (act f.slots t now ∷ seen fs (reverse frames) (take s.base V)) text) (prints-none i (under V 0) d.5)
          ∙ ap (λ (all : List Act). Goes all []) (acts_same fs f t frames _ _ now (sym front)),
      front,
    )

-- the words on the stack
pub stack_long : (fs : List LinkedFn) (f : LinkedFn) (s : State) (words : List ℤ) → Stands fs f s (length words) → length (take s.top words) ≡ s.top
stack_long fs f s words st = omega (arith, length-take s.top words, st.room, st.above, at_greatest fs f s.place _ st.here)

pub counted_same : (fs : List LinkedFn) (frames : List Frame) (W U : List ℤ) (a b : ℕ) → Counted fs frames U b → W ≡ U → a ≡ b → Counted fs frames W a
counted_same fs frames W U a b c e d = rw (e, d) c

-- the instruction that prints
pub prints_on : (fs : List LinkedFn) (f : LinkedFn) (s t : State) (frames : List Frame) (V now : List ℤ) (i : Operation) (x : ℤ)
    → slice_get fs s.number ≡ Some f → operation_at f.code s.place ≡ Some i → IsFine fs f s.place (height f s) i → length V ≡ s.top → s.base + f.slots ≤ s.top → Did V s i (next.Print t x) now
    → (step fs (acts fs f s frames V) ≡ Goes (acts fs f t frames now) (line_of x)) × (take t.base now ≡ take s.base V)
prints_on fs f s t frames V now i x is at fine long above d =
    let rest = seen fs (reverse frames) (take s.base V) in
    let at_print : operation_at f.code s.place ≡ Some Print = at ∙ ap (λ (j : Operation). Some j) d.0 in
    let fine_print : IsFine fs f s.place (height f s) Print = subst (λ (j : Operation). IsFine fs f s.place (height f s) j) d.0 fine in
    let there : 1 ≤ height f s = fine_print.there in
    let words : now ≡ take (length V - 1) V ++ [] = d.2 ∙ sym (append-nil (take (length V - 1) V)) in
    let front : take t.base now ≡ take s.base V = rw (d.3.1, d.2) (take-take s.base (length V - 1) V (omega (arith, there, long, above))) in
    let moved : step fs (acts fs f s frames V) ≡ Goes (act f.slots t now ∷ rest) (line_of (under V 0)) =
    rw (is, at_print) (stays Print f.slots s t V now [] rest (omega (arith, there, long, above)) refl refl words d.3.0 d.3.1 d.3.3) in
    (moved ∙ ap (λ (y : ℤ). Goes (act f.slots t now ∷ rest) (line_of y)) (sym d.1) ∙ ap (λ (all : List Act). Goes all (line_of x)) (acts_same fs f t frames _ _ now (sym front)), front)

step_call : (fs : List LinkedFn) (f g : LinkedFn) (s : State) (V : List ℤ) (rest : List Act) (i : Operation) (k : ℕ)
    → slice_get fs s.number ≡ Some f → operation_at f.code s.place ≡ Some i → i ≡ Call k → slice_get fs k ≡ Some g → step fs (act f.slots s V ∷ rest) ≡ calling fs k (Some g) (act f.slots s V) rest
step_call fs f g s V rest i k is at called there =
    let at_call : operation_at f.code s.place ≡ Some (Call k) = at ∙ ap (λ (j : Operation). Some j) called in
    rw (is, at_call, there) refl

-- a call that is not too deep
pub calls_on : (fs : List LinkedFn) (f g : LinkedFn) (k : ℕ) (s t : State) (frames more : List Frame) (V now : List ℤ) (i : Operation)
    → slice_get fs s.number ≡ Some f → operation_at f.code s.place ≡ Some i → i ≡ Call k → slice_get fs k ≡ Some g → length V ≡ s.top → s.base + f.slots ≤ s.top → g.params ≤ height f s → g.params ≤ g.slots
    → Counted fs (reverse frames) (take s.base V) s.below → Called fs g f k s t V now frames more
    → (step fs (acts fs f s frames V) ≡ Goes (acts fs g t more now) []) × Counted fs (reverse more) (take t.base now) t.below
calls_on fs f g k s t frames more V now i is at called there long above enough params counted d =
    let rest = seen fs (reverse frames) (take s.base V) in
    let stepped = step_call fs f g s V rest i k is at called there ∙ calls fs f g k s t V now frames more is long (omega (arith, long, above, enough)) params (counted_is fs (reverse frames) (take s.base V) s.below counted) d in
    let l = s.top - g.params in
    let zeros : List ℤ = replicate (g.slots - g.params) (pos 0) in
    let base : t.base ≡ l = ap (λ (u : State). u.base) d.state in
    let below : t.below ≡ s.below + (l - (s.base + f.slots)) = ap (λ (u : State). u.below) d.state in
    let front : take t.base now ≡ take l V = rw (base, d.words) (take-append-le l V zeros (omega (arith, long))) in
    let under_it : take s.base (take l V) ≡ take s.base V = take-take s.base l V (omega (arith, enough, above)) in
    let count : s.below + (l - (s.base + f.slots)) ≡ length (drop (s.base + slots_count (slice_get fs s.number)) (take l V)) + s.below =
    rw is (omega (arith, length-drop (s.base + f.slots) (take l V), length-take l V, long)) in
    let waits : Counted fs (waiting s ∷ reverse frames) (take l V) (s.below + (l - (s.base + f.slots))) = (count, counted_same fs (reverse frames) (take s.base (take l V)) (take s.base V) s.below s.below counted under_it refl) in
    let order : reverse more ≡ waiting s ∷ reverse frames = ap reverse d.frames ∙ reverse-append frames (waiting s ∷ []) in
    (stepped, rw (order, front, below) waits)

-- a return to a function that waits
pub returns_on : (fs : List LinkedFn) (f h : LinkedFn) (s t : State) (frames more : List Frame) (b : Frame) (V now : List ℤ) (i : Operation)
    → slice_get fs s.number ≡ Some f → operation_at f.code s.place ≡ Some i → i ≡ Return → length V ≡ s.top → s.base + f.slots ≤ s.top → height f s ≡ f.«result»
    → frames ≡ more ++ b ∷ [] → slice_get fs b.number ≡ Some h → b.base + h.slots ≤ s.base → t ≡ resumed f s b → now ≡ take s.base V ++ drop (length V - f.«result») V
    → Counted fs (reverse frames) (take s.base V) s.below
    → (step fs (acts fs f s frames V) ≡ Goes (acts fs h t more now) []) × Counted fs (reverse more) (take t.base now) t.below
returns_on fs f h s t frames more b V now i is at returned long above leaves split there room state words counted =
    let at_return : operation_at f.code s.place ≡ Some Return = at ∙ ap (λ (j : Operation). Some j) returned in
    let order : reverse frames ≡ b ∷ reverse more = ap reverse split ∙ reverse-append more (b ∷ []) in
    let rest = seen fs (b ∷ reverse more) (take s.base V) in
    let front : take b.base now ≡ take b.base (take s.base V) = rw words (take-append-le b.base (take s.base V) (drop (length V - f.«result») V) (omega (arith, length-take s.base V, room, long, above))) in
    let waits : Counted fs (b ∷ reverse more) (take s.base V) s.below = subst (λ (gs : List Frame). Counted fs gs (take s.base V) s.below) order counted in
    let stepped : step fs (act f.slots s V ∷ rest) ≡ Goes (act h.slots (resumed f s b) now ∷ seen fs (reverse more) (take b.base now)) [] =
    rw (is, at_return) (returns fs f h s b V now (reverse more) there (omega (arith, long, above, leaves)) room words) in
    rw (order, state) (stepped, counted_same fs (reverse more) (take b.base now) (take b.base (take s.base V)) b.below b.below waits.1 front refl)

-- the entry's return
pub returns_last : (fs : List LinkedFn) (f : LinkedFn) (s : State) (frames : List Frame) (V : List ℤ) (i : Operation) → slice_get fs s.number ≡ Some f → operation_at f.code s.place ≡ Some i → i ≡ Return → frames ≡ []
    → step fs (acts fs f s frames V) ≡ Ends
returns_last fs f s frames V i is at returned none =
    let at_return : operation_at f.code s.place ≡ Some Return = at ∙ ap (λ (j : Operation). Some j) returned in
    rw (is, at_return, none) refl

pub run_ended : (fs : List LinkedFn) (f : LinkedFn) (s : State) (frames : List Frame) (V : List ℤ) (left rest : ℕ) → left ≡ suc rest → step fs (acts fs f s frames V) ≡ Ends → runs fs left (acts fs f s frames V) ≡ Some (record { how = end.Ended; text = [] })
run_ended fs f s frames V left rest e st = ap (λ (n : ℕ). runs fs n (acts fs f s frames V)) e ∙ ap (λ (o : Outcome). turn (acts fs f s frames V) (runs fs rest) o) st

pub run_trapped : (fs : List LinkedFn) (f : LinkedFn) (s : State) (frames : List Frame) (V : List ℤ) (left rest : ℕ) (kind : Kind) → left ≡ suc rest → step fs (acts fs f s frames V) ≡ Traps kind
    → runs fs left (acts fs f s frames V) ≡ Some (record { how = end.Trapped kind s.number s.place; text = [] })
run_trapped fs f s frames V left rest kind e st = ap (λ (n : ℕ). runs fs n (acts fs f s frames V)) e ∙ ap (λ (o : Outcome). turn (acts fs f s frames V) (runs fs rest) o) st

pub run_over : (fs : List LinkedFn) (f : LinkedFn) (s : State) (frames : List Frame) (V : List ℤ) (left : ℕ) → left ≡ 0 → runs fs left (acts fs f s frames V) ≡ Some (record { how = end.OutOfSteps; text = [] })
run_over fs f s frames V left e = ap (λ (n : ℕ). runs fs n (acts fs f s frames V)) e

pub deep_on : (fs : List LinkedFn) (f g : LinkedFn) (k : ℕ) (s : State) (frames : List Frame) (V : List ℤ) (i : Operation)
    → slice_get fs s.number ≡ Some f → operation_at f.code s.place ≡ Some i → i ≡ Call k → slice_get fs k ≡ Some g → length V ≡ s.top → s.base + f.slots ≤ s.top → g.params ≤ height f s
    → Counted fs (reverse frames) (take s.base V) s.below → TooDeep fs g f s (length frames) → step fs (acts fs f s frames V) ≡ Traps kinds.Depth
deep_on fs f g k s frames V i is at called there long above enough counted deep =
    step_call fs f g s V (seen fs (reverse frames) (take s.base V)) i k is at called there ∙ too_deep fs f g k s V frames long (omega (arith, long, above, enough)) (counted_is fs (reverse frames) (take s.base V) s.below counted) deep

-- the frame on top of those that wait has room below the one that runs
pub waits_room : (fs : List LinkedFn) (words : ℕ) (frames more : List Frame) (b : Frame) (base left : ℕ) (h : LinkedFn) → Waits fs words (reverse frames) base left → frames ≡ more ++ b ∷ [] → slice_get fs b.number ≡ Some h → b.base + h.slots ≤ base
waits_room fs words frames more b base left h w split there =
    let order : reverse frames ≡ b ∷ reverse more = ap reverse split ∙ reverse-append more (b ∷ []) in
    let on_top : Waits fs words (b ∷ reverse more) base left = subst (λ (gs : List Frame). Waits fs words gs base left) order w in
    let same : on_top.0 ≡ h = the_same (slice_get fs b.number) on_top.0 h on_top.1 there in
    subst (λ (g : LinkedFn). b.base + g.slots ≤ base) same on_top.6
