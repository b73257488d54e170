-- Lists of faults that are all different in their order may be looked at in either order.
use Rattle.std.proofs.Common.{◌≡◌, refl, sym, ap, ◌∙◌, true≢false, Bool, true, false, if◌then◌else◌, List, [], ◌∷◌, ◌++◌, append_assoc, append-nil, Option, Some, None, Ordering, Less, Equal, Greater, is_lt}
use Rattle.std.specs.Ordering.{ordering_reverse}
use Rattle.lar_tree.specs.Lawful.{Every}
use Rattle.lar_rules.specs.Fault.{Fault, fault_cmp, comes_before, kept, least}
use Rattle.fault_order.specs.Order.{Different, AllDifferent}
use Rattle.lar_rules.proofs.Least.{least_append, fault_total}

pub lt_is : (o : Ordering) → is_lt o ≡ true → o ≡ Less
lt_is Less h = refl
lt_is Equal h = absurd (true≢false (sym h))
lt_is Greater h = absurd (true≢false (sym h))

is_not_less : (o : Ordering) → o ≡ Less → is_lt o ≡ true
is_not_less o e = ap is_lt e

not_both : (f g : Fault) → comes_before g f ≡ true → comes_before f g ≡ true → ⊥
not_both f g h k =
    let less = lt_is (fault_cmp f g) k in
    let back = fault_total.antisymm f g ∙ ap ordering_reverse (lt_is (fault_cmp g f) h) in
    no (sym less ∙ back)
  where
    no : Less ≡ Greater → ⊥
    no e = true≢false (ap is_lt e)

one_of_both : (f g : Fault) → Different f g → comes_before g f ≡ false → comes_before f g ≡ false → ⊥
one_of_both f g d h k = by (fault_cmp f g) refl k
  where
    by : (o : Ordering) → fault_cmp f g ≡ o → is_lt o ≡ false → ⊥
    by Less e l = true≢false l
    by Equal e l = d e
    by Greater e l = true≢false (sym (ap is_lt (fault_total.antisymm g f ∙ ap ordering_reverse e)) ∙ h)

pub before_trans : (f g h : Fault) → comes_before f g ≡ true → comes_before g h ≡ true → comes_before f h ≡ true
before_trans f g h a b =
    is_not_less (fault_cmp f h) (fault_total.trans f g h (lt_is (fault_cmp f g) a) (lt_is (fault_cmp g h) b))

abbrev pick : Bool → Option Fault → Option Fault → Option Fault
pick b x y = if b then x else y

kept_pick : (b : Bool) (f g x : Fault)
    → kept (if b then Some f else Some x) g ≡ pick b (pick (comes_before g f) (Some g) (Some f))
    (pick (comes_before g x) (Some g) (Some x))
kept_pick true f g x = refl
kept_pick false f g x = refl

-- a and c: whether each comes before what is kept; d and e: which of the two comes before the other
picked : (a c d e : Bool) (f g x : Option Fault) → (d ≡ true → e ≡ true → ⊥) → (d ≡ false → e ≡ false → ⊥)
    → (d ≡ true → a ≡ true → c ≡ true) → (e ≡ true → c ≡ true → a ≡ true)
    → pick a (pick d g f) (pick c g x) ≡ pick c (pick e f g) (pick a f x)
picked true true true true f g x p q r s = absurd (p refl refl)
picked true true true false f g x p q r s = refl
picked true true false true f g x p q r s = refl
picked true true false false f g x p q r s = absurd (q refl refl)
picked true false true e f g x p q r s = absurd (true≢false (sym (r refl refl)))
picked true false false e f g x p q r s = refl
picked false true d true f g x p q r s = absurd (true≢false (sym (s refl refl)))
picked false true d false f g x p q r s = refl
picked false false d e f g x p q r s = refl

kept_swapped : (best : Option Fault) (f g : Fault) → Different f g → kept (kept best f) g ≡ kept (kept best g) f
kept_swapped None f g d = by (comes_before g f) (comes_before f g) (not_both f g) (one_of_both f g d)
  where
    by : (a b : Bool) → (a ≡ true → b ≡ true → ⊥) → (a ≡ false → b ≡ false → ⊥)
        → pick a (Some g) (Some f) ≡ pick b (Some f) (Some g)
    by true true p q = absurd (p refl refl)
    by true false p q = refl
    by false true p q = refl
    by false false p q = absurd (q refl refl)
kept_swapped (Some x) f g d =
    kept_pick (comes_before f x) f g x
    ∙ picked (comes_before f x) (comes_before g x) (comes_before g f) (comes_before f g) (Some f) (Some g) (Some x)
    (not_both f g) (one_of_both f g d) (λ h k. before_trans g f x h k) (λ h k. before_trans f g x h k)
    ∙ sym (kept_pick (comes_before g x) g f x)

-- one fault past others that are different
pub moved : (best : Option Fault) (f : Fault) (ys : List Fault) → Every (Different f) ys
    → least best (f ∷ ys) ≡ least best (ys ++ f ∷ [])
unfolding least
moved best f [] h = refl
moved best f (y ∷ ys) h = ap (λ (b : Option Fault). least b ys) (kept_swapped best f y h.0)
    ∙ moved (kept best y) f ys h.1

pub swapped : (best : Option Fault) (xs ys : List Fault) → AllDifferent xs ys
    → least best (xs ++ ys) ≡ least best (ys ++ xs)
unfolding least
swapped best [] ys h = ap (least best) (sym (append-nil ys))
swapped best (x ∷ xs) ys h =
    swapped (kept best x) xs ys h.1 ∙ least_append best (x ∷ ys) xs
    ∙ ap (λ (b : Option Fault). least b xs) (moved best x ys h.0) ∙ sym (least_append best (ys ++ x ∷ []) xs)
    ∙ ap (least best) (append_assoc ys (x ∷ []) xs)
