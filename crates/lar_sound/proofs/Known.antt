-- Lists without a fault, and values that are known.
use Rattle.std.proofs.Common.{◌≡◌, refl, sym, subst as transport, Bool, true, false, true≢false, ◌||◌, if◌then◌else◌, List, [], ◌∷◌, ◌++◌, Option, Some, None, option_map}
use Rattle.lar_rules.specs.Fault.{Fault}
use Rattle.lar_sound.specs.Known.{IsKnown, IsFaultless}

pub faultless_parts : (xs ys : List Fault) → IsFaultless (xs ++ ys) → IsFaultless xs × IsFaultless ys
faultless_parts [] ys h = (tt, h)
faultless_parts (x ∷ xs) ys h = absurd h

pub faultless : (fs : List Fault) → fs ≡ [] → IsFaultless fs
faultless fs e = transport IsFaultless (sym e) tt

pub known_map : {A B : Type 0} (f : A → B) (o : Option A) → IsKnown o → IsKnown (option_map f o)
known_map f None k = absurd k
known_map f (Some x) k = tt

pub value_of : {A : Type 0} (o : Option A) → IsKnown o → (x : A) × (o ≡ Some x)
value_of None k = absurd k
value_of (Some x) k = (x, refl)

pub some_same : {A : Type 0} (x y : A) → Some x ≡ Some y → x ≡ y
some_same x y e = cc

pub none_some : {A : Type 0} (x : A) → None ≡ Some x → ⊥
none_some x e = cc

-- what is told where it does not fit
pub fit_told : {A : Type 0} (b : Bool) (f : Fault) (x : A) → IsFaultless (if b then [] else f ∷ [])
    → IsKnown (if b then Some x else None)
fit_told true f x h = tt
fit_told false f x h = absurd h

pub told_true : (b : Bool) (f : Fault) → IsFaultless (if b then [] else f ∷ []) → b ≡ true
told_true true f h = refl
told_true false f h = absurd h

pub told_false : (b : Bool) (f : Fault) → IsFaultless (if b then f ∷ [] else []) → b ≡ false
told_false true f h = absurd h
told_false false f h = refl

pub or_false : (a b : Bool) → (a || b) ≡ false → (a ≡ false) × (b ≡ false)
or_false true b h = absurd (true≢false h)
or_false false b h = (refl, h)
