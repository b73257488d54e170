-- How many structs follow one, up to a number, and whether so many follow it.
use Rattle.std.proofs.Common.{◌≡◌, ◌≢◌, ℕ, zero, suc, ◌≤◌, Bool, true, false, ◌||◌, List, [], ◌∷◌, refl, sym, ap, ◌∙◌, arith, inl, inr}
use Rattle.std.specs.Prelude.{◌==◌, max, if◌then◌else◌}
use Rattle.std.proofs.lemmas.Bool.Decides.{eqb_tells}
use Rattle.lar_source.specs.declared.code.Code.TheVariants.{NestedTooDeep}
use Rattle.lar_rules.specs.Fault.{fault}
use Rattle.lar_rules.specs.Declared.{Declared, Struct}
use Rattle.lar_rules.specs.Structs.{any_of, most_of, next_structs, is_followed, followers, max_chain, nesting_faults}
use Rattle.lar_signatures.specs.Depths.{nested_if}

most_at_most : (f : Struct → ℕ) (n : ℕ) → ((y : Struct) → f y ≤ n) → (xs : List Struct) → most_of f xs ≤ suc n
most_at_most f n h [] = omega arith
most_at_most f n h (x ∷ xs) = let a : f x ≤ n = h x in let b : most_of f xs ≤ suc n = most_at_most f n h xs in omega arith

pub at_most : (all : List Declared) (n : ℕ) (x : Struct) → followers all n x ≤ n
at_most all zero x = omega arith
at_most all (suc n) x = most_at_most (followers all n) n (λ y. at_most all n y) (next_structs all x)

pub is_equal : (a b : ℕ) → a ≡ b → (a == b) ≡ true
is_equal a b e = elim (eqb_tells a b) [
  | inl same ↦ same.0
  | inr other ↦ absurd (other.1 e)
]

pub not_equal : (a b : ℕ) → a ≢ b → (a == b) ≡ false
not_equal a b h = elim (eqb_tells a b) [
  | inl same ↦ absurd (h same.1)
  | inr other ↦ other.0
]

-- the greater of two is as great as it may be where one of them is
either_most : (a b n : ℕ) → a ≤ n → b ≤ suc n → ((a == n) || (b == suc n)) ≡ (max (suc a) b == suc n)
either_most a b n p q = elim (eqb_tells a n) [
  | inl same ↦ let e : a ≡ n = same.1 in ap (λ (t : Bool). t || (b == suc n)) same.0 ∙ sym (is_equal (max (suc a) b) (suc n) (omega arith))
  | inr other ↦ let e : a ≢ n = other.1 in ap (λ (t : Bool). t || (b == suc n)) other.0 ∙ (elim (eqb_tells b (suc n)) [
    | inl here ↦ let g : b ≡ suc n = here.1 in here.0 ∙ sym (is_equal (max (suc a) b) (suc n) (omega arith))
    | inr none ↦ let g : b ≢ suc n = none.1 in none.0 ∙ sym (not_equal (max (suc a) b) (suc n) (omega arith))
  ])
]

any_most : (g : Struct → Bool) (f : Struct → ℕ) (n : ℕ) → ((y : Struct) → g y ≡ (f y == n)) → ((y : Struct) → f y ≤ n) → (xs : List Struct) → any_of g xs ≡ (most_of f xs == suc n)
any_most g f n h k [] = sym (not_equal 0 (suc n) (omega arith))
any_most g f n h k (x ∷ xs) =
    ap (λ (t : Bool). t || any_of g xs) (h x) ∙ ap (λ (t : Bool). (f x == n) || t) (any_most g f n h k xs) ∙ either_most (f x) (most_of f xs) n (k x) (most_at_most f n k xs)

pub as_many : (all : List Declared) (n : ℕ) (x : Struct) → is_followed all n x ≡ (followers all n x == n)
as_many all zero x = refl
as_many all (suc n) x = any_most (is_followed all n) (followers all n) n (λ y. as_many all n y) (λ y. at_most all n y) (next_structs all x)

-- the fault of too long a chain, by the depth
pub nesting_is : (all : List Declared) (x : Struct) (depth : ℕ) → depth ≡ followers all max_chain x → nested_if x.from.file x.it.name depth ≡ nesting_faults all x
nesting_is all x depth e =
    ap (λ (k : ℕ). nested_if x.from.file x.it.name k) e
    ∙ ap (λ (b : Bool). if b then fault x.from.file x.it.name.span NestedTooDeep (x.it.name.text ∷ []) ∷ [] else []) (sym (as_many all max_chain x))
