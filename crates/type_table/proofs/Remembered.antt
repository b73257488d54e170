use Rattle.std.proofs.Common.{◌≡◌, ℕ, ◌<◌, ◌≤◌, List, length, refl, sym, ap, ◌∙◌, subst as transport, arith, Bool, true, false, cond, Option, Some, None}
use Rattle.std.specs.Ordering.{nat_cmp, eq_by_cmp, is_eq}
use Rattle.std.specs.BTreeMap.{BTreeMap, get}
use Rattle.std.proofs.lemmas.Map.Lookups.{exact_pairs, exact_unsigned}
use Rattle.std.proofs.lemmas.Map.Views.{tells_apart}
use Rattle.type_table.specs.declared.row.Row.{Row}
use Rattle.type_table.specs.TypeOf.{TypeOf}
use Rattle.type_table.specs.Rows.{type_at, Keeps, Stands}
use Rattle.type_table.specs.Substitution.{subst}
use Rattle.type_table.specs.Memo.{pair_cmp, Replaces, IsMemo, IfKnown}

exact : (a b : ℕ × ℕ) → eq_by_cmp pair_cmp a b ≡ true → a ≡ b
exact a b h = tells_apart (exact_pairs nat_cmp nat_cmp exact_unsigned exact_unsigned) a b h

pub memo_same : (rows : List Row) (m n : BTreeMap (ℕ × ℕ) ℕ) → n.entries ≡ m.entries → IsMemo rows m → IsMemo rows n
memo_same rows m n e h = record { each = λ q x is. let g : get pair_cmp n q ≡ get pair_cmp m q = rw e refl in h.each q x (sym g ∙ is) }

pub stands_kept : (old new : List Row) (n : ℕ) (t : TypeOf) → Keeps old new → Stands old n t → Stands new n t
stands_kept old new n t k s = record { within = (let a : n < length old = s.within in let b : length old ≤ length new = k.longer in omega arith); is = k.same n s.within ∙ s.is }

replaces_kept : (old new : List Row) (q : ℕ × ℕ) (n : ℕ) → Keeps old new → Replaces old q n → Replaces new q n
replaces_kept old new q n k r =
    let b : length old ≤ length new = k.longer in
    let x : q.0 < length old = r.ty in
    let y : q.1 < length old = r.arguments in
    let e : subst (type_at new q.1) (type_at new q.0) ≡ subst (type_at old q.1) (type_at old q.0) = ap (λ (a : TypeOf). subst a (type_at new q.0)) (k.same q.1 y) ∙ ap (subst (type_at old q.1)) (k.same q.0 x) in
    record { ty = omega arith; arguments = omega arith; stands = transport (Stands new n) (sym e) (stands_kept old new n (subst (type_at old q.1) (type_at old q.0)) k r.stands) }

pub memo_kept : (old new : List Row) (m : BTreeMap (ℕ × ℕ) ℕ) → Keeps old new → IsMemo old m → IsMemo new m
memo_kept old new m k h = record { each = λ q n e. replaces_kept old new q n k (h.each q n e) }

pub memo_learnt : (rows : List Row) (m n : BTreeMap (ℕ × ℕ) ℕ) (k : ℕ × ℕ) (p : ℕ) → IsMemo rows m → Replaces rows k p → ((q : ℕ × ℕ) → get pair_cmp n q ≡ cond (is_eq (pair_cmp k q)) (Some p) (get pair_cmp m q)) → IsMemo rows n
memo_learnt rows m n k p h r says = record { each = λ q x e. by_key q x (is_eq (pair_cmp k q)) refl (sym (says q) ∙ e) }
  where
    by_key : (q : ℕ × ℕ) (x : ℕ) (b : Bool) → is_eq (pair_cmp k q) ≡ b → cond b (Some p) (get pair_cmp m q) ≡ Some x → Replaces rows q x
    by_key q x true is e = let o : p ≡ x = cc in transport (λ (y : ℕ). Replaces rows q y) o (transport (λ (y : ℕ × ℕ). Replaces rows y p) (exact k q is) r)
    by_key q x false is e = h.each q x e

pub known_is : (rows now : List Row) (m : BTreeMap (ℕ × ℕ) ℕ) (q : ℕ × ℕ) (o : Option ℕ) → rows ≡ now → IsMemo rows m → o ≡ get pair_cmp m q → IfKnown now q o
known_is rows now m q None e h is = tt
known_is rows now m q (Some n) e h is = transport (λ (x : List Row). Replaces x q n) e (h.each q n (sym is))
