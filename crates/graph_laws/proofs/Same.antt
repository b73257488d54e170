-- Instances that are told to be one are one.
use Rattle.std.proofs.Common.{◌≡◌, ℕ, refl, sym, ap, ◌∙◌, subst, Bool, true, false}
use Rattle.std.specs.Prelude.{nat_eq}
use Rattle.std.specs.Cmp.{IsEquivalence, nat_eq_equiv}
use Rattle.std.proofs.lemmas.Map.Views.{exact_unsigned_eq}
use Rattle.type_table.specs.TypeOf.{TypeOf}
use Rattle.lar_typed.specs.SameType.{same_type}
use Rattle.lar_typed.proofs.SameTypes.{and_true, both_true, same_means, same_self}
use Rattle.mono_graph.specs.Instances.{PlainInstance, same_instance}

pub same_itself : (x : PlainInstance) → same_instance x x ≡ true
same_itself x = both_true (nat_eq x.function x.function) (same_type x.arguments x.arguments) (nat_eq_equiv.refl x.function) (same_self x.arguments)

pub same_is : (x y : PlainInstance) → same_instance x y ≡ true → x ≡ y
same_is x y h =
    let p : (nat_eq x.function y.function ≡ true) × (same_type x.arguments y.arguments ≡ true) = and_true (nat_eq x.function y.function) (same_type x.arguments y.arguments) h in
    made x.function x.arguments y.function y.arguments (exact_unsigned_eq x.function y.function p.0) (same_means x.arguments y.arguments p.1)
  where
    made : (a : ℕ) (t : TypeOf) (b : ℕ) (u : TypeOf) → a ≡ b → t ≡ u → (let x : PlainInstance = record { function = a; arguments = t } in x) ≡ record { function = b; arguments = u }
    made a t b u e f = ap (λ (n : ℕ). let x : PlainInstance = record { function = n; arguments = t } in x) e ∙ ap (λ (v : TypeOf). let x : PlainInstance = record { function = b; arguments = v } in x) f

pub is_same : (x y : PlainInstance) → x ≡ y → same_instance x y ≡ true
is_same x y e = subst (λ (z : PlainInstance). same_instance x z ≡ true) e (same_itself x)

flips : (x y : PlainInstance) (a b : Bool) → same_instance x y ≡ a → same_instance y x ≡ b → a ≡ b
flips x y true true p q = refl
flips x y false false p q = refl
flips x y true false p q = let t : same_instance y x ≡ true = is_same y x (sym (same_is x y p)) in cc
flips x y false true p q = let t : same_instance x y ≡ true = is_same x y (sym (same_is y x q)) in cc

pub same_laws : IsEquivalence same_instance
same_laws = record {
  refl = same_itself;
  symm = λ x y. flips x y (same_instance x y) (same_instance y x) refl refl;
  congr = λ x y z h. ap (λ (w : PlainInstance). same_instance w z) (same_is x y h);
}
