-- The least of a list, taken alone and then with what was found before.
use Rattle.std.proofs.Common.{◌≡◌, refl, sym, ap, ◌∙◌, true≢false, Bool, true, false, if◌then◌else◌, List, [], ◌∷◌, Option, Some, None, Ordering, Less, Equal, Greater, is_lt}
use Rattle.std.specs.Ordering.{ordering_reverse}
use Rattle.lar_rules.specs.Fault.{Fault, fault_cmp, comes_before, kept, least}
use Rattle.lar_rules.proofs.Least.{fault_total}
use Rattle.fault_order.specs.Order.{merged}
use Rattle.fault_order.proofs.Swapped.{lt_is, before_trans}

-- what comes before b and not before f has no place where f does not come before b
between : (f g b : Fault) → comes_before g b ≡ true → comes_before g f ≡ false → comes_before f b ≡ false → ⊥
between f g b h k l = by (fault_cmp f b) refl l
  where
    less : fault_cmp g b ≡ Less
    less = lt_is (fault_cmp g b) h

    by : (o : Ordering) → fault_cmp f b ≡ o → is_lt o ≡ false → ⊥
    by Less e i = true≢false i
    by Equal e i =
        true≢false
        (sym (ap is_lt
        (fault_total.antisymm g f
        ∙ ap ordering_reverse (fault_total.congr f b g e ∙ fault_total.antisymm b g ∙ ap ordering_reverse less))) ∙ k)
    by Greater e i =
        true≢false (sym (before_trans g b f h (ap is_lt (fault_total.antisymm b f ∙ ap ordering_reverse e))) ∙ k)

abbrev pick : Bool → Fault → Fault → Fault
pick b f g = if b then f else g

-- the lesser of two, and then the lesser of that and the one before
kept_lesser : (x f g : Fault) (a c d : Bool) → comes_before f x ≡ a → comes_before g x ≡ c → comes_before g f ≡ d
    → kept (if a then Some f else Some x) g ≡ kept (Some x) (pick d g f)
kept_lesser x f g true c true e h k = ap (λ (b : Bool). if b then Some g else Some f) k
    ∙ sym (ap (λ (b : Bool). if b then Some g else Some x) (before_trans g f x k e))
kept_lesser x f g true c false e h k = ap (λ (b : Bool). if b then Some g else Some f) k
    ∙ sym (ap (λ (b : Bool). if b then Some f else Some x) e)
kept_lesser x f g false c true e h k = refl
kept_lesser x f g false true false e h k = absurd (between f g x h k e)
kept_lesser x f g false false false e h k = ap (λ (b : Bool). if b then Some g else Some x) h
    ∙ sym (ap (λ (b : Bool). if b then Some f else Some x) e)

pick_some : (b : Bool) (f g : Fault) → (if b then Some g else Some f) ≡ Some (pick b g f)
pick_some true f g = refl
pick_some false f g = refl

kept_twice : (best : Option Fault) (f g : Fault) → kept (kept best f) g ≡ merged best (kept (Some f) g)
kept_twice None f g = pick_some (comes_before g f) f g ∙ sym (ap (merged None) (pick_some (comes_before g f) f g))
kept_twice (Some x) f g =
    kept_lesser x f g (comes_before f x) (comes_before g x) (comes_before g f) refl refl refl
    ∙ sym (ap (merged (Some x)) (pick_some (comes_before g f) f g))

merged_twice : (best : Option Fault) (f : Fault) (o : Option Fault)
    → merged (kept best f) o ≡ merged best (merged (Some f) o)
merged_twice best f None = refl
merged_twice best f (Some g) = kept_twice best f g

pub least_merged : (best : Option Fault) (fs : List Fault) → least best fs ≡ merged best (least None fs)
unfolding least
least_merged best [] = refl
least_merged best (f ∷ fs) =
    least_merged (kept best f) fs ∙ merged_twice best f (least None fs)
    ∙ sym (ap (merged best) (least_merged (Some f) fs))
