-- The names of a list, as far as they are collected.
use Rattle.std.proofs.Common.{◌≡◌, List, [], ◌∷◌, length, map, take, ℕ, ◌≤◌, refl, ap, ◌∙◌}
use Rattle.std.proofs.lemmas.List.{take_all}
use Rattle.std.specs.Borrow.{Bor}
use Rattle.lar_tree.specs.declared.commas.Member.{Member}
use Rattle.lar_tree.specs.declared.expr.Init.{Init}
use Rattle.lar_tree.specs.declared.name.Name.{Name}
use Rattle.lar_judge.specs.Making.{names}

names_behind : (ms : List (Member Init)) → map (λ m. (m.value).name) ms ≡ map (λ i. i.name) (map (λ m. m.value) ms)
names_behind [] = refl
names_behind (m ∷ ms) = ap (λ (ns : List Name). (m.value).name ∷ ns) (names_behind ms)

pub names_end : (first : Init) (ms more : List (Member Init)) (i : ℕ) (out : List (Bor Name)) → names out ≡ first.name ∷ map (λ m. (m.value).name) (take i ms) → ms ≡ more → length ms ≤ i
    → names out ≡ map (λ i. i.name) (first ∷ map (λ m. m.value) more)
names_end first ms more i out is e past =
    is ∙ ap (λ (ys : List (Member Init)). first.name ∷ map (λ m. (m.value).name) ys) (take_all i ms past ∙ e) ∙ ap (λ (ns : List Name). first.name ∷ ns) (names_behind more)
