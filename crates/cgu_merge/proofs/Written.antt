-- The names of units as they are written.
use Rattle.std.proofs.Common.{◌≡◌, ℕ, ◌+◌, ◌<◌, List, [], ◌∷◌, ◌++◌, length, map, take, get_or, refl, sym, ap, ◌∙◌, append_assoc}
use Rattle.std.specs.Prelude.{All, codes}
use Rattle.std.proofs.lemmas.List.{take_more}
use Rattle.std.proofs.lemmas.List.Elements.{All-from_recursion, recursion_from_All}
use Rattle.text_order.specs.Sorted.{sorted}
use Rattle.text_order.specs.TextOrder.{text_at}
use Rattle.text_order.proofs.Same.{all_sorted}
use Rattle.cgu_merge.specs.Merging.{behind}

behind_more : (ns : List (List ℕ)) (n : List ℕ) → behind (ns ++ n ∷ []) ≡ behind ns ++ (codes "+" ++ n)
behind_more [] n = ap (λ (x : List ℕ). 43 ∷ x) (nothing n)
  where
    nothing : (xs : List ℕ) → xs ++ [] ≡ xs
    nothing [] = refl
    nothing (x ∷ xs) = ap (λ (ys : List ℕ). x ∷ ys) (nothing xs)
behind_more (m ∷ ms) n = ap (λ (x : List ℕ). 43 ∷ (m ++ x)) (behind_more ms n) ∙ ap (λ (x : List ℕ). 43 ∷ x) (sym (append_assoc m (behind ms) (43 ∷ n)))

map_push : (names : List (List ℕ)) (ps : List ℕ) (p : ℕ) → map (text_at names) (ps ++ p ∷ []) ≡ map (text_at names) ps ++ text_at names p ∷ []
map_push names [] p = refl
map_push names (q ∷ qs) p = ap (λ (xs : List (List ℕ)). text_at names q ∷ xs) (map_push names qs p)

-- one more name is written behind a `+`
pub written_more : (names : List (List ℕ)) (places : List ℕ) (i : ℕ) (old before sign after : List ℕ) (n : List ℕ) → i < length places → n ≡ text_at names (get_or places i 0) → before ≡ old ++ behind (map (text_at names) (take i places)) → sign ≡ before ++ codes "+" → after ≡ sign ++ n → after ≡ old ++ behind (map (text_at names) (take (i + 1) places))
written_more names places i old before sign after n room is h s a =
    let ps : take (i + 1) places ≡ take i places ++ get_or places i 0 ∷ [] = take_more places i 0 room in
    let m : map (text_at names) (take (i + 1) places) ≡ map (text_at names) (take i places) ++ text_at names (get_or places i 0) ∷ [] = ap (λ xs. map (text_at names) xs) ps ∙ map_push names (take i places) (get_or places i 0) in
    a ∙ ap (λ (x : List ℕ). x ++ n) (s ∙ ap (λ (x : List ℕ). x ++ codes "+") h) ∙ append_assoc (old ++ behind (map (text_at names) (take i places))) (codes "+") n ∙ append_assoc old (behind (map (text_at names) (take i places))) (codes "+" ++ n)
    ∙ ap (λ (x : List ℕ). old ++ x) (sym (ap behind m ∙ behind_more (map (text_at names) (take i places)) (text_at names (get_or places i 0)) ∙ ap (λ (x : List ℕ). behind (map (text_at names) (take i places)) ++ (codes "+" ++ x)) (sym is)))

pub sorted_inside : (n : ℕ) (xs : List ℕ) → All (λ p. p < n) xs → All (λ p. p < n) (sorted xs)
sorted_inside n xs h = All-from_recursion (λ p. p < n) (sorted xs) (all_sorted (λ p. p < n) xs (recursion_from_All (λ p. p < n) xs h))
