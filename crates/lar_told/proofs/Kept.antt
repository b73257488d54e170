-- What a note leaves, by whether the fault comes before the one that is there.
use Rattle.std.proofs.Common.{◌≡◌, Bool, true, false, Option, Some, None, refl, sym, subst}
use Rattle.std.specs.Prelude.{if◌then◌else◌}
use Rattle.lar_rules.specs.Fault.{Fault, comes_before, kept}

chosen : (f g : Fault) (b : Bool) → b ≡ true → (if b then Some f else Some g) ≡ Some f
chosen f g true h = refl
chosen f g false h = cc

left : (f g : Fault) (b : Bool) → b ≡ false → (if b then Some f else Some g) ≡ Some g
left f g true h = cc
left f g false h = refl

pub kept_new : (best : Option Fault) (g f : Fault) → best ≡ Some g → comes_before f g ≡ true → kept best f ≡ Some f
kept_new best g f is before = subst (λ (o : Option Fault). kept o f ≡ Some f) (sym is) (chosen f g (comes_before f g) before)

pub kept_old : (best : Option Fault) (g f : Fault) → best ≡ Some g → comes_before f g ≡ false → kept best f ≡ best
kept_old best g f is before = subst (λ (o : Option Fault). kept o f ≡ o) (sym is) (left f g (comes_before f g) before)
