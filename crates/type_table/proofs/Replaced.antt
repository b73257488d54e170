use Rattle.std.proofs.Common.{◌≡◌, ◌≢◌, ℕ, zero, suc, ◌-◌, ◌<◌, List, length, refl, sym, ap, ◌∙◌, subst as transport, arith, Option, Some}
use Rattle.type_table.specs.declared.row.Row.{Row}
use Rattle.type_table.specs.declared.row.Row.TheVariants.{More, Tuple, Struct}
use Rattle.type_table.specs.TypeOf.{TypeOf, more, tuple, struct}
use Rattle.type_table.specs.Rows.{at, type_at, type_of, types, Keeps, Stands}
use Rattle.type_table.specs.Substitution.{subst, argument, IsMember}

pub first_member : (rows : List Row) (list k first others : ℕ) → type_at rows list ≡ type_of (types rows) (More first others) → k ≡ 0 → argument (type_at rows list) k ≡ Some (type_at rows first)
unfolding type_at
first_member rows list k first others e z = rw z (ap (λ (t : TypeOf). argument t 0) e)

argument_later : (t ts : TypeOf) (k : ℕ) → k ≢ 0 → argument (more t ts) k ≡ argument ts (k - 1)
argument_later t ts zero h = absurd (h refl)
argument_later t ts (suc k) h = ap (argument ts) (omega arith)

pub later_member : (rows : List Row) (list k first others : ℕ) (o : Option ℕ) → type_at rows list ≡ type_of (types rows) (More first others) → k ≢ 0 → IsMember rows o (argument (type_at rows others) (k - 1)) → IsMember rows o (argument (type_at rows list) k)
unfolding type_at
later_member rows list k first others o e z h =
    transport (IsMember rows o) (sym (ap (λ (t : TypeOf). argument t k) e ∙ argument_later (at (types rows) first) (at (types rows) others) k z)) h

pub more_replaced : (old mid last new : List Row) (ty args a b x y n : ℕ) → args < length old → b < length old → type_at old ty ≡ type_of (types old) (More a b) → Keeps old mid → Stands mid x (subst (type_at old args) (type_at old a)) → Keeps mid last → Stands last y (subst (type_at mid args) (type_at mid b)) → Stands new n (type_of (types last) (More x y)) → Stands new n (subst (type_at old args) (type_at old ty))
unfolding type_at
more_replaced old mid last new ty args a b x y n la lb is k1 s1 k2 s2 s3 =
    let p : at (types last) x ≡ subst (at (types old) args) (at (types old) a) = k2.same x s1.within ∙ s1.is in
    let q : at (types last) y ≡ subst (at (types old) args) (at (types old) b) = s2.is ∙ ap (λ (t : TypeOf). subst t (at (types mid) b)) (k1.same args la) ∙ ap (subst (at (types old) args)) (k1.same b lb) in
    let e : subst (at (types old) args) (at (types old) ty) ≡ more (at (types last) x) (at (types last) y) = ap (subst (at (types old) args)) is ∙ sym (ap (λ (t : TypeOf). more t (at (types last) y)) p ∙ ap (more (subst (at (types old) args) (at (types old) a))) q) in
    transport (Stands new n) (sym e) s3

pub tuple_replaced : (old mid new : List Row) (ty args a x n : ℕ) → type_at old ty ≡ type_of (types old) (Tuple a) → Stands mid x (subst (type_at old args) (type_at old a)) → Stands new n (type_of (types mid) (Tuple x)) → Stands new n (subst (type_at old args) (type_at old ty))
unfolding type_at
tuple_replaced old mid new ty args a x n is s1 s2 =
    let e : subst (at (types old) args) (at (types old) ty) ≡ tuple (at (types mid) x) = ap (subst (at (types old) args)) is ∙ ap tuple (sym s1.is) in
    transport (Stands new n) (sym e) s2

pub struct_replaced : (old mid new : List Row) (ty args k a x n : ℕ) → type_at old ty ≡ type_of (types old) (Struct k a) → Stands mid x (subst (type_at old args) (type_at old a)) → Stands new n (type_of (types mid) (Struct k x)) → Stands new n (subst (type_at old args) (type_at old ty))
unfolding type_at
struct_replaced old mid new ty args k a x n is s1 s2 =
    let e : subst (at (types old) args) (at (types old) ty) ≡ struct k (at (types mid) x) = ap (subst (at (types old) args)) is ∙ ap (struct k) (sym s1.is) in
    transport (Stands new n) (sym e) s2
