use Rattle.std.proofs.Common.{◌≡◌, ℕ, List, refl, ap, ◌∙◌, Bool, true, false, Option, Some, None}
use Rattle.std.specs.Prelude.{◌&&◌}
use Rattle.std.specs.Ordering.{int_eq}
use Rattle.std.proofs.Math.Dec.{eqb}
use Rattle.std.proofs.lemmas.Bool.{eqb-true, eq-eqb}
use Rattle.std.specs.Cmp.{signed_Decides}
use Rattle.type_table.specs.TypeOf.{TypeOf, int, bool, param, number, end, more, tuple, struct}
use Rattle.lar_typed.specs.SameType.{same_type, is_type}

pub and_true : (a b : Bool) → (a && b) ≡ true → (a ≡ true) × (b ≡ true)
and_true true true h = (refl, refl)
and_true true false h = cc
and_true false b h = cc

pub both_true : (a b : Bool) → a ≡ true → b ≡ true → (a && b) ≡ true
both_true a b p q = rw (p, q) refl

-- types that are told to be one are one
pub same_means : (t u : TypeOf) → same_type t u ≡ true → t ≡ u
same_means int int h = refl
same_means bool bool h = refl
same_means (param j) (param k) h = ap param (eqb-true j k h)
same_means (number v) (number w) h = ap number ((signed_Decides v w).0 h)
same_means end end h = refl
same_means (more t ts) (more u us) h =
    let p : (same_type t u ≡ true) × (same_type ts us ≡ true) = and_true (same_type t u) (same_type ts us) h in
    ap (λ (x : TypeOf). more x ts) (same_means t u p.0) ∙ ap (more u) (same_means ts us p.1)
same_means (tuple ts) (tuple us) h = ap tuple (same_means ts us h)
same_means (struct j ts) (struct k us) h =
    let p : (eqb j k ≡ true) × (same_type ts us ≡ true) = and_true (eqb j k) (same_type ts us) h in
    ap (λ (x : ℕ). struct x ts) (eqb-true j k p.0) ∙ ap (struct k) (same_means ts us p.1)
same_means _ _ h = cc

-- a type is told to be itself
pub same_self : (t : TypeOf) → same_type t t ≡ true
same_self int = refl
same_self bool = refl
same_self (param j) = eq-eqb j j refl
same_self (number v) = (signed_Decides v v).1 refl
same_self end = refl
same_self (more t ts) = both_true (same_type t t) (same_type ts ts) (same_self t) (same_self ts)
same_self (tuple ts) = same_self ts
same_self (struct j ts) = both_true (eqb j j) (same_type ts ts) (eq-eqb j j refl) (same_self ts)

pub is_type_means : (t : TypeOf) (o : Option TypeOf) → is_type t o ≡ true → o ≡ Some t
is_type_means t None h = cc
is_type_means t (Some u) h = let e : t ≡ u = same_means t u h in rw e refl
