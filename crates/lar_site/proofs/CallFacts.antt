-- Calls: what is told of the path, its generics and the count of arguments.
use Rattle.std.proofs.Common.{◌≡◌, ◌≢◌, ℕ, Bool, true, false, List, [], ◌∷◌, Option, refl, sym, ap, ◌∙◌, inl, inr}
use Rattle.std.specs.Prelude.{◌==◌, if◌then◌else◌}
use Rattle.std.proofs.lemmas.Bool.Decides.{eqb_tells}
use Rattle.lar_tree.specs.declared.name.Path.{Path}
use Rattle.lar_rules.specs.Fault.{Fault, kept, least}
use Rattle.lar_rules.specs.Written.{Site, Given, unknown, miscounted, all_given}
use Rattle.lar_rules.specs.Exprs.{miscalled}

pub uncounted : (s : Site) (p : Path) (b : Bool) (m n : ℕ) (best : Option Fault) → b ≡ false → best ≡ least best (miscalled s p b m n)
unfolding least
uncounted s p b m n best e = ap (λ (c : Bool). least best (miscalled s p c m n)) (sym e)

as_many : (m n : ℕ) → m ≡ n → (m == n) ≡ true
as_many m n e = elim (eqb_tells m n) [
  | inl same ↦ same.0
  | inr other ↦ absurd (other.1 e)
]

not_as_many : (m n : ℕ) → m ≢ n → (m == n) ≡ false
not_as_many m n h = elim (eqb_tells m n) [
  | inl same ↦ absurd (h same.1)
  | inr other ↦ other.0
]

pub counted_right : (s : Site) (p : Path) (b : Bool) (m n : ℕ) (best : Option Fault) → m ≡ n → best ≡ least best (miscalled s p b m n)
unfolding least
counted_right s p false m n best e = refl
counted_right s p true m n best e = ap (λ (c : Bool). least best (if c then [] else miscounted s p m n ∷ [])) (sym (as_many m n e))

pub counted_wrong : (s : Site) (p : Path) (b : Bool) (m n : ℕ) (best after : Option Fault) → (b ≡ false → ⊥) → m ≢ n → after ≡ kept best (miscounted s p m n) → after ≡ least best (miscalled s p b m n)
unfolding least
counted_wrong s p false m n best after g h noted = absurd (g refl)
counted_wrong s p true m n best after g h noted = noted ∙ ap (λ (c : Bool). least best (if c then [] else miscounted s p m n ∷ [])) (sym (not_as_many m n h))

-- a path without a meaning, and then the faults of its generics
pub meaningless : (s : Site) (p : Path) (gs hs : List Given) (best mid after : Option Fault) → mid ≡ kept best (unknown s p) → hs ≡ gs → after ≡ least mid (all_given hs) → after ≡ least best (unknown s p ∷ all_given gs)
unfolding least
meaningless s p gs hs best mid after a e b = b ∙ ap (λ (xs : List Given). least mid (all_given xs)) e ∙ ap (λ (o : Option Fault). least o (all_given gs)) a
