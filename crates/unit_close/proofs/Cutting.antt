-- Widths that are cut before serve as well.
use Rattle.std.proofs.Common.{◌≡◌, ℕ, zero, suc, List, [], ◌∷◌, map, get_or, refl, ap, ◌∙◌}
use Rattle.type_table.specs.TypeOf.{TypeOf, int, bool, param, number, end, more, tuple, struct}
use Rattle.type_widths.specs.Width.{width_by, widths_by, struct_width, width}
use Rattle.unit_input.specs.Widths.{cut}
use Rattle.closed_input.proofs.Words.{cut_sum, cut_twice}

-- the same where they are cut
abbrev pub SameCut : List ℕ → List ℕ → Type 0
SameCut ws us = map cut ws ≡ map cut us

pub cut_list : (ws : List ℕ) → SameCut (map cut ws) ws
cut_list [] = refl
cut_list (w ∷ ws) = ap (λ (n : ℕ). n ∷ map cut (map cut ws)) (cut_twice w) ∙ ap (λ (ns : List ℕ). cut w ∷ ns) (cut_list ws)

same_at : (ws us : List ℕ) (k : ℕ) → SameCut ws us → cut (get_or ws k 0) ≡ cut (get_or us k 0)
same_at [] [] k h = refl
same_at [] (u ∷ us) k h = cc
same_at (w ∷ ws) [] k h = cc
same_at (w ∷ ws) (u ∷ us) zero h = cc
same_at (w ∷ ws) (u ∷ us) (suc k) h = same_at ws us k (cc)

abbrev Respects : (ℕ → List ℕ → ℕ) → Type 0
Respects s = (n : ℕ) (vs us : List ℕ) → SameCut vs us → cut (s n vs) ≡ cut (s n us)

record Equal (s : ℕ → List ℕ → ℕ) (ws us : List ℕ) (t : TypeOf) : Type 0 where
  width : cut (width_by s ws t) ≡ cut (width_by s us t)
  members : SameCut (widths_by s ws t) (widths_by s us t)

equal : (s : ℕ → List ℕ → ℕ) (ws us : List ℕ) (t : TypeOf) → Respects s → SameCut ws us → Equal s ws us t
equal s ws us int r h = record { width = refl; members = refl }
equal s ws us bool r h = record { width = refl; members = refl }
equal s ws us (number v) r h = record { width = refl; members = refl }
equal s ws us end r h = record { width = refl; members = refl }
equal s ws us (param k) r h = record { width = same_at ws us k h; members = refl }
equal s ws us (more t ts) r h =
    let x : Equal s ws us t = equal s ws us t r h in
    let y : Equal s ws us ts = equal s ws us ts r h in
    record {
      width = cut_sum (width_by s ws t) (width_by s ws ts) (width_by s us t) (width_by s us ts) x.width y.width;
      members = ap (λ (n : ℕ). n ∷ map cut (widths_by s ws ts)) x.width ∙ ap (λ (ns : List ℕ). cut (width_by s us t) ∷ ns) y.members;
    }
equal s ws us (tuple ts) r h = record { width = (equal s ws us ts r h).width; members = refl }
equal s ws us (struct n ts) r h = record { width = r n (widths_by s ws ts) (widths_by s us ts) (equal s ws us ts r h).members; members = refl }

respects : (fields : ℕ → TypeOf) (d : ℕ) → Respects (struct_width fields d)
respects fields zero n vs us h = refl
respects fields (suc d) n vs us h = (equal (struct_width fields d) vs us (fields n) (λ m xs ys g. respects fields d m xs ys g) h).width

pub same_width : (fields : ℕ → TypeOf) (d : ℕ) (ws us : List ℕ) (t : TypeOf) → SameCut ws us → cut (width fields d ws t) ≡ cut (width fields d us t)
unfolding width
same_width fields d ws us t h = (equal (struct_width fields d) ws us t (respects fields d) h).width

pub same_members : (fields : ℕ → TypeOf) (d : ℕ) (ws us : List ℕ) (t : TypeOf) → SameCut ws us → SameCut (widths_by (struct_width fields d) ws t) (widths_by (struct_width fields d) us t)
same_members fields d ws us t h = (equal (struct_width fields d) ws us t (respects fields d) h).members
