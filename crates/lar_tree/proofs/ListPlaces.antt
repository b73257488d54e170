-- A place in a list after its first member.
use Rattle.std.proofs.Common.{◌≡◌, ℕ, zero, suc, ◌-◌, ◌≤◌, List, ◌∷◌, map, Option, option_map, slice_get, sym, ap, ◌∙◌, arith}
use Rattle.std.proofs.lemmas.Option.{slice_get-map}
use Rattle.lar_tree.specs.declared.commas.Commas.{Commas}
use Rattle.lar_tree.specs.declared.commas.Member.{Member}
use Rattle.lar_tree.specs.declared.name.Path.{Path}
use Rattle.lar_tree.specs.declared.name.Segment.{Segment}
use Rattle.lar_tree.specs.PlainLists.{values, names_of}

after_first : {A B : Type 0} (f : A → B) (first : B) (xs : List A) (at : ℕ) → 1 ≤ at → option_map f (slice_get xs (at - 1)) ≡ slice_get (first ∷ map f xs) at
after_first f first xs zero h = absurd (omega arith)
after_first f first xs (suc n) h =
    let k : suc n - 1 ≡ n = omega arith in
    ap (λ i. option_map f (slice_get xs i)) k ∙ sym (slice_get-map f xs n)

pub member_at : {A : Type 0} (c : Commas A) (at : ℕ) (o : Option (Member A)) → 1 ≤ at → o ≡ slice_get c.more (at - 1) → option_map (λ (m : Member A). m.value) o ≡ slice_get (values c) at
member_at {A} c at o h e = ap (option_map (λ (m : Member A). m.value)) e ∙ after_first (λ (m : Member A). m.value) c.first c.more at h

pub name_at : (p : Path) (at : ℕ) (o : Option Segment) → 1 ≤ at → o ≡ slice_get p.more (at - 1) → option_map (λ (s : Segment). s.name) o ≡ slice_get (names_of p) at
name_at p at o h e = ap (option_map (λ (s : Segment). s.name)) e ∙ after_first (λ (s : Segment). s.name) p.first p.more at h
