-- One more instruction that may bring another height.
use Rattle.std.proofs.Common.{◌≡◌, ℕ, List, [], ◌∷◌, ◌++◌, Bool, true, false, ◌||◌, refl, ◌∙◌, ap}
use Rattle.object_format.specs.Image.{LinkedFn}
use Rattle.stack_vm.specs.Heights.{left_by, jumps_to, first_at}
use Rattle.stack_vm.specs.Faults.{brings_other, is_crossed, height_at}
use Rattle.stack_vm.specs.declared.operation.Placed.{Placed}

or_nothing : (a : Bool) → (a || false) ≡ a
or_nothing true = refl
or_nothing false = refl

or_last : (a b c : Bool) → (a || (b || c)) ≡ ((a || b) || c)
or_last true b c = refl
or_last false b c = refl

pub crossed_more : (fs : List LinkedFn) (hs : List (ℕ × ℕ)) (t : ℕ) (ps : List Placed) (p : Placed)
    → is_crossed fs hs t (ps ++ p ∷ []) ≡ (is_crossed fs hs t ps || brings_other (jumps_to p.operation) (left_by fs p.operation (height_at hs p.offset)) (first_at hs t) t)
crossed_more fs hs t [] p = or_nothing _
crossed_more fs hs t (q ∷ ps) p =
    let first = brings_other (jumps_to q.operation) (left_by fs q.operation (height_at hs q.offset)) (first_at hs t) t in
    let last = brings_other (jumps_to p.operation) (left_by fs p.operation (height_at hs p.offset)) (first_at hs t) t in
    ap (λ (b : Bool). first || b) (crossed_more fs hs t ps p) ∙ or_last first (is_crossed fs hs t ps) last
