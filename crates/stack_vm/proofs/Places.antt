-- An offset at which there is a height.
use Rattle.std.proofs.Common.{◌≡◌, ℕ, ◌<◌, ◌≤◌, List, [], ◌∷◌, length, Some, eqb, sym, ◌∙◌, arith, inl, inr}
use Rattle.std.proofs.lemmas.Bool.{cases_Bool, cases_lt}
use Rattle.object_format.specs.Image.{LinkedFn}
use Rattle.stack_vm.specs.Heights.{first_at, greatest, greatest_of, heights_of}
use Rattle.stack_vm.specs.Sound.{At}
use Rattle.stack_vm.proofs.Offsets.{heights_within}

some_is : {x y : ℕ} → Some x ≡ Some y → x ≡ y
some_is e = cc

pub first_at-greatest : (hs : List (ℕ × ℕ)) (place h : ℕ) → first_at hs place ≡ Some h → h ≤ greatest hs
first_at-greatest [] place h e = absurd cc
first_at-greatest (x ∷ hs) place h e =
    elim (cases_Bool (eqb x.0 place)) [
      | inl here ↦ (let same : x.1 ≡ h = some_is (rw here at e) in omega (arith, same))
      | inr later ↦ (let below : h ≤ greatest hs = first_at-greatest hs place h (rw later at e) in omega (arith, below))
    ]

pub at_greatest : (fs : List LinkedFn) (f : LinkedFn) (place h : ℕ) → At fs f place h → h ≤ greatest_of fs f
at_greatest fs f place h a = first_at-greatest (heights_of fs f.code) place h a.has

pub at_within : (fs : List LinkedFn) (f : LinkedFn) (place h : ℕ) → At fs f place h → place < length f.code
at_within fs f place h a =
    elim (cases_lt place (length f.code)) [
      | inl lt ↦ lt
      | inr past ↦ absurd (let none = heights_within fs f.code place past in let is = a.has in cc)
    ]

pub at_one : (fs : List LinkedFn) (f : LinkedFn) (place h k : ℕ) → At fs f place h → At fs f place k → h ≡ k
at_one fs f place h k a b = some_is (sym a.has ∙ b.has)
