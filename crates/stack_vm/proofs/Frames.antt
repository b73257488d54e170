-- What stays true of the frames when a function is called, when it returns, and when it goes on.
use Rattle.std.proofs.Common.{◌≡◌, ℕ, ◌+◌, ◌-◌, ◌<◌, ◌≤◌, List, [], ◌∷◌, ◌++◌, length, slice_get, Some, reverse, arith, subst, sym, length-append, get_or, ap, Option}
use Rattle.std.proofs.lemmas.List.{reverse-append, length-reverse}
use Rattle.std.proofs.lemmas.Option.{slice_get-get_or}
use Rattle.std.proofs.lemmas.Option.{slice_get_within}
use Rattle.stack_vm.specs.Sound.{Leaves, IsSound, At}
use Rattle.stack_vm.specs.Standing.{height, Runs, RunsOn, Stands, Waits, begun, waiting, resumed}
use Rattle.object_format.specs.Image.{LinkedFn, IsLinkedFn}
use Rattle.stack_vm.specs.Heights.{greatest_of}
use Rattle.stack_vm.specs.declared.machine.State.{State}
use Rattle.stack_vm.specs.declared.machine.Frame.{Frame}

pub found : (fs : List LinkedFn) (k : ℕ) (f : LinkedFn) → k < length fs → f ≡ get_or fs k f → slice_get fs k ≡ Some f
found fs k f h e = subst (λ (g : LinkedFn). slice_get fs k ≡ Some g) (sym e) (slice_get-get_or fs k f h)

pub the_same : (o : Option LinkedFn) (f g : LinkedFn) → o ≡ Some f → o ≡ Some g → f ≡ g
the_same o f g a b = cc

-- what waits, when one more frame is there
waits_more : (fs : List LinkedFn) (words : ℕ) (frames : List Frame) (frame : Frame) (base left : ℕ) → Waits fs words (reverse (frames ++ frame ∷ [])) base left ≡ Waits fs words (frame ∷ reverse frames) base left
waits_more fs words frames frame base left = ap (λ (all : List Frame). Waits fs words all base left) (reverse-append frames (frame ∷ []))

pub begins : (fs : List LinkedFn) (f g : LinkedFn) (s : State) (k words : ℕ) (frames : List Frame) (capacity more : ℕ)
    → Runs fs f s words frames capacity → Leaves fs f (s.place + 5) (height f s) g.params g.«result» → IsSound fs g → IsLinkedFn g
    → slice_get fs k ≡ Some g → k < length fs → length frames + 1 < 10_000 → (begun f g s k).below + greatest_of fs g ≤ 1_048_576 → capacity ≤ more
    → RunsOn fs (begun f g s k) words (frames ++ waiting s ∷ []) more
begins fs f g s k words frames capacity more r l sound own is there few low grown = record {
  there = there;
  runs = λ h e. subst (λ (h : LinkedFn). Runs fs h (begun f g s k) words (frames ++ waiting s ∷ []) more) (the_same _ g h is e)
      (record {
        is = is;
        stands = record {
          sound = sound;
          own = own;
          fits = r.stands.fits;
          here = subst (λ (n : ℕ). At fs g 0 n) (omega arith) sound.start;
          above = omega arith;
          room = omega (arith, r.stands.above, r.base, r.long, l.there, r.stands.own.slots, own.slots, sound.params);
        };
        long = r.long;
        base = omega (arith, length-append frames (waiting s ∷ []), r.base, r.stands.above, l.there, r.stands.own.slots);
        below = omega arith;
        depth = omega (arith, length-append frames (waiting s ∷ []));
        room = omega (arith, r.room);
        waits = subst (λ (T : Type 0). T) (sym (waits_more fs words frames (waiting s) (s.top - g.params) g.«result»)) (
          f,
          r.is,
          record {
            sound = r.stands.sound;
            own = r.stands.own;
            fits = r.stands.fits;
            here = subst (λ (n : ℕ). At fs f (s.place + 5) n) (omega (arith, l.there, r.stands.above)) l.next;
            above = omega (arith, l.there, r.stands.above);
            room = r.stands.room;
          },
          omega (arith, r.base, length-reverse frames),
          r.below,
          r.waits,
          omega (arith, l.there, r.stands.above),
        );
      });
}

pub resumes : (fs : List LinkedFn) (f : LinkedFn) (s : State) (words : ℕ) (frames : List Frame) (g : Frame) (capacity more : ℕ)
    → Runs fs f s words (frames ++ g ∷ []) capacity → capacity ≤ more → RunsOn fs (resumed f s g) words frames more
resumes fs f s words frames g capacity more r grown =
    let w : Waits fs words (g ∷ reverse frames) s.base f.«result» = subst (λ (T : Type 0). T) (waits_more fs words frames g _ _) r.waits in
    record {
      there = slice_get_within fs g.number w.0 w.1;
      runs = λ h e. subst (λ (h : LinkedFn). Runs fs h (resumed f s g) words frames more) (the_same _ w.0 h w.1 e)
          (record {
            is = w.1;
            stands = w.2;
            long = r.long;
            base = omega (arith, w.3, length-reverse frames);
            below = w.4;
            depth = omega (arith, r.depth, length-append frames (g ∷ []));
            room = omega (arith, r.room);
            waits = w.5;
          });
    }

pub went : (fs : List LinkedFn) (f : LinkedFn) (s t : State) (words : ℕ) (frames : List Frame) (capacity : ℕ)
    → Runs fs f s words frames capacity → Stands fs f t words × (t.base ≡ s.base) × (t.number ≡ s.number) × (t.below ≡ s.below) → Runs fs f t words frames capacity
went fs f s t words frames capacity r h = record {
  is = rw h.2 r.is;
  stands = h.0;
  long = r.long;
  base = omega (arith, h.1, h.3, r.base);
  below = omega (arith, h.3, r.below);
  depth = r.depth;
  room = r.room;
  waits = rw h.1 r.waits;
}
