-- The fault that is told is one of all, and none comes before it.
use Rattle.std.specs.Cmp.{IsTotalOrder}
use Rattle.std.proofs.lemmas.Cmp.{on_total, then_total, nat_cmp_total}
use Rattle.std.proofs.Common.{ℕ, ◌≡◌, ◌⊎◌, Bool, true, false, if◌then◌else◌, List, [], ◌∷◌, ◌++◌, refl, sym, ap, ◌∙◌, subst, inl, inr}
use Rattle.std.specs.Prelude.{Option, Some, None}
use Rattle.std.specs.declared.cmp.Ordering.{Ordering}
use Rattle.std.specs.declared.cmp.Ordering.TheVariants.{Less, Equal, Greater}
use Rattle.std.specs.Ordering.{ordering_reverse, is_lt}
use Rattle.lar_source.specs.Code.{row}
use Rattle.lar_rules.specs.Fault.{Fault, fault_cmp, comes_before, kept, least, NotBefore, IsAmong, NoneBefore}

-- the least of two lists, one after the other
pub least_append : (best : Option Fault) (xs ys : List Fault) → least best (xs ++ ys) ≡ least (least best xs) ys
unfolding least
least_append best [] ys = refl
least_append best (x ∷ xs) ys = least_append (kept best x) xs ys

pub fault_total : IsTotalOrder fault_cmp
fault_total = then_total (on_total (λ f. f.file) nat_cmp_total) (then_total (on_total (λ f. f.line) nat_cmp_total) (then_total (on_total (λ f. f.col) nat_cmp_total) (on_total (λ f. (row f.code).number) nat_cmp_total)))

cases : (o : Ordering) → (o ≡ Less) ⊎ ((o ≡ Equal) ⊎ (o ≡ Greater))
cases Less = inl refl
cases Equal = inr (inl refl)
cases Greater = inr (inr refl)

not_less : (o : Ordering) → is_lt o ≡ false → o ≡ Less → ⊥
not_less o h e = cc

not_greater : (o : Ordering) → is_lt o ≡ true → o ≡ Greater → ⊥
not_greater o h e = cc

is_not : (o : Ordering) → (o ≡ Less → ⊥) → is_lt o ≡ false
is_not Less h = absurd (h refl)
is_not Equal h = refl
is_not Greater h = refl

le_trans : (a b c : Fault) → NotBefore b a → NotBefore c b → NotBefore c a
le_trans a b c h k = is_not (fault_cmp c a) (λ less. elim (cases (fault_cmp c b)) [
  | inl e ↦ not_less (fault_cmp c b) k e
  | inr r ↦ elim r [
    | inl e ↦ not_less (fault_cmp b a) h (sym (fault_total.congr c b a e) ∙ less)
    | inr e ↦ not_less (fault_cmp b a) h (fault_total.trans b c a (fault_total.antisymm b c ∙ ap ordering_reverse e) less)
  ]
])

le_self : (a : Fault) → NotBefore a a
le_self a = is_not (fault_cmp a a) (λ less. let back = fault_total.antisymm a a in cc)

le_other : (a b : Fault) → comes_before a b ≡ true → NotBefore b a
le_other a b h = is_not (fault_cmp b a) (λ less. not_greater (fault_cmp a b) h (fault_total.antisymm a b ∙ ap ordering_reverse less))

-- what is said of the least of the others, carried back over the first of them
kept_before : (f g : Fault) (fs : List Fault) (h : Fault) (b : Bool) → comes_before f g ≡ b → least (if b then Some f else Some g) fs ≡ Some h
    → ((x : Fault) → least (Some x) fs ≡ Some h → NotBefore x h × NoneBefore h fs) → NotBefore g h × (NotBefore f h × NoneBefore h fs)
kept_before f g fs h true e l more = let w = more f l in (le_trans h f g w.0 (le_other f g e), (w.0, w.1))
kept_before f g fs h false e l more = let w = more g l in (w.0, (le_trans h g f w.0 e, w.1))

none_before : (g : Fault) (fs : List Fault) (h : Fault) → least (Some g) fs ≡ Some h → NotBefore g h × NoneBefore h fs
unfolding least
none_before g [] h e = let same : g ≡ h = cc in (subst (λ x. NotBefore g x) same (le_self g), tt)
none_before g (f ∷ fs) h e = kept_before f g fs h (comes_before f g) refl e (λ x l. none_before x fs h l)

kept_among : (f g : Fault) (fs : List Fault) (h : Fault) (b : Bool) → least (if b then Some f else Some g) fs ≡ Some h
    → ((x : Fault) → least (Some x) fs ≡ Some h → (x ≡ h) ⊎ IsAmong h fs) → (g ≡ h) ⊎ ((f ≡ h) ⊎ IsAmong h fs)
kept_among f g fs h true l more = elim (more f l) [ inl e ↦ inr (inl e) | inr m ↦ inr (inr m) ]
kept_among f g fs h false l more = elim (more g l) [ inl e ↦ inl e | inr m ↦ inr (inr m) ]

among : (g : Fault) (fs : List Fault) (h : Fault) → least (Some g) fs ≡ Some h → (g ≡ h) ⊎ IsAmong h fs
unfolding least
among g [] h e = let same : g ≡ h = cc in inl same
among g (f ∷ fs) h e = kept_among f g fs h (comes_before f g) e (λ x l. among x fs h l)

pub least_is_first : (fs : List Fault) (h : Fault) → least None fs ≡ Some h → IsAmong h fs × NoneBefore h fs
unfolding least
least_is_first [] h e = absurd (let no : ⊥ = cc in no)
least_is_first (f ∷ fs) h e = (among f fs h e, none_before f fs h e)

pick : (f g : Fault) (fs : List Fault) (b : Bool) → ((x : Fault) → (h : Fault) × (least (Some x) fs ≡ Some h)) → (h : Fault) × (least (if b then Some f else Some g) fs ≡ Some h)
pick f g fs true more = more f
pick f g fs false more = more g

some_least : (g : Fault) (fs : List Fault) → (f : Fault) × (least (Some g) fs ≡ Some f)
unfolding least
some_least g [] = (g, refl)
some_least g (f ∷ fs) = pick f g fs (comes_before f g) (λ x. some_least x fs)

first_kept : (f : Fault) (fs : List Fault) → least None (f ∷ fs) ≡ least (Some f) fs
unfolding least
first_kept f fs = refl

pub none_is_none : (fs : List Fault) → least None fs ≡ None → fs ≡ []
none_is_none [] h = refl
none_is_none (f ∷ fs) h = let some = some_least f fs in let first = first_kept f fs in absurd (cc (some.1))
