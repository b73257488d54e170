-- A step that stays in its function, from the stack to the acts.
use Rattle.std.proofs.Common.{◌≡◌, ℕ, ◌+◌, ◌≤◌, List, ◌∷◌, length, slice_get, ℤ, true, Some, refl, arith, ◌∙◌}
use Rattle.stack_vm.specs.Operation.{takes, operation_at}
use Rattle.stack_vm.specs.Effect.{under, is_inner, Did}
use Rattle.stack_vm.specs.Sound.{IsFine}
use Rattle.stack_vm.specs.Standing.{height}
use Rattle.stack_vm.specs.Running.{act}
use Rattle.stack_vm.specs.Acts.{Act, Goes, staying, obey, step, prints, has_slot}
use Rattle.stack_vm.proofs.Stays.{stays, below_is}
use Rattle.stack_vm.specs.declared.operation.Operation.{Operation}
use Rattle.stack_vm.specs.declared.operation.Operation.TheVariants.{Push8, Push64, Load, Store, Pop, Dup, Nop, Compute, Neg, Not, Jump, JumpZero, Call, Return, Print, Trap}
use Rattle.object_format.specs.Image.{LinkedFn}
use Rattle.stack_vm.specs.declared.machine.State.{State}
use Rattle.stack_vm.specs.declared.machine.Next.TheVariants as next

-- an instruction that is fine finds its words and its slot
pub fine_room : (fs : List LinkedFn) (f : LinkedFn) (place h : ℕ) (i : Operation) → IsFine fs f place h i → is_inner i ≡ true → (takes i ≤ h) × (has_slot i f.slots ≡ true)
fine_room fs f place h (Push8 n) fine e = (omega arith, refl)
fine_room fs f place h (Push64 n) fine e = (omega arith, refl)
fine_room fs f place h Nop fine e = (omega arith, refl)
fine_room fs f place h (Jump to) fine e = (omega arith, refl)
fine_room fs f place h Trap fine e = (omega arith, refl)
fine_room fs f place h (Load k) fine e = (omega arith, below_is k f.slots fine.0)
fine_room fs f place h (Store k) fine e = (fine.1.there, below_is k f.slots fine.0)
fine_room fs f place h Pop fine e = (fine.there, refl)
fine_room fs f place h Dup fine e = (fine.there, refl)
fine_room fs f place h Neg fine e = (fine.there, refl)
fine_room fs f place h Not fine e = (fine.there, refl)
fine_room fs f place h Print fine e = (fine.there, refl)
fine_room fs f place h (Compute o) fine e = (fine.there, refl)
fine_room fs f place h (JumpZero to) fine e = (fine.0, refl)
fine_room fs f place h (Call k) fine e = absurd (cc)
fine_room fs f place h Return fine e = absurd (cc)

pub obey_inner : (fs : List LinkedFn) (i : Operation) (a : Act) (rest : List Act) → is_inner i ≡ true → obey fs (Some i) a rest ≡ staying i a rest
obey_inner fs (Push8 n) a rest e = refl
obey_inner fs (Push64 n) a rest e = refl
obey_inner fs (Load k) a rest e = refl
obey_inner fs (Store k) a rest e = refl
obey_inner fs Pop a rest e = refl
obey_inner fs Dup a rest e = refl
obey_inner fs Nop a rest e = refl
obey_inner fs (Compute o) a rest e = refl
obey_inner fs Neg a rest e = refl
obey_inner fs Not a rest e = refl
obey_inner fs (Jump to) a rest e = refl
obey_inner fs (JumpZero to) a rest e = refl
obey_inner fs Print a rest e = refl
obey_inner fs Trap a rest e = refl
obey_inner fs (Call k) a rest e = absurd (cc)
obey_inner fs Return a rest e = absurd (cc)

-- a step that stays in its function, from the stack to the acts
pub moves : (fs : List LinkedFn) (f : LinkedFn) (s t : State) (V now : List ℤ) (i : Operation) (rest : List Act)
    → slice_get fs s.number ≡ Some f → operation_at f.code s.place ≡ Some i → IsFine fs f s.place (height f s) i → length V ≡ s.top → s.base + f.slots ≤ s.top
    → Did V s i (next.Went t) now → step fs (act f.slots s V ∷ rest) ≡ Goes (act f.slots t now ∷ rest) (prints i (under V 0))
moves fs f s t V now i rest is at fine long above d =
    let r = fine_room fs f s.place (height f s) i fine d.3 in
    rw (is, at) (obey_inner fs i (act f.slots s V) rest d.3
    ∙ stays i f.slots s t V now d.0 rest (omega (arith, r.0, long, above)) r.1 d.1 d.2 d.4.0 d.4.1 d.4.3)
