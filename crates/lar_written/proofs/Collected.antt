-- One member further in the loops that collect generics and names.
use Rattle.std.proofs.Common.{◌≡◌, ℕ, ◌+◌, ◌<◌, ◌≤◌, List, [], ◌∷◌, ◌++◌, length, map, take, get_or, refl, sym, ap, ◌∙◌}
use Rattle.std.proofs.lemmas.List.{map_more, map-append, take_all}
use Rattle.lar_tree.specs.declared.commas.Member.{Member}

pub collected_first : {A B C : Type 0} (view : B → C) (f : A → C) (first : A) (new : List B) (g : B) → new ≡ g ∷ [] → view g ≡ f first → map view new ≡ f first ∷ []
collected_first view f first new g push is = ap (map view) push ∙ ap (λ y. y ∷ []) is

pub collected_further : {A B C : Type 0} (view : B → C) (f : A → C) (first : A) (ms : List (Member A)) (i : ℕ) (x : Member A) (old new : List B) (g : B)
    → map view old ≡ f first ∷ map (λ m. f m.value) (take i ms) → new ≡ old ++ g ∷ [] → view g ≡ f x.value → x ≡ get_or ms i x → i < length ms
    → map view new ≡ f first ∷ map (λ m. f m.value) (take (i + 1) ms)
collected_further view f first ms i x old new g so_far push is at below =
    ap (map view) push ∙ map-append view old (g ∷ []) ∙ ap (λ ys. ys ++ view g ∷ []) so_far
    ∙ ap (λ y. f first ∷ (map (λ m. f m.value) (take i ms) ++ y ∷ [])) (is ∙ ap (λ y. f y.value) at)
    ∙ sym (ap (λ ys. f first ∷ ys) (map_more (λ m. f m.value) ms i x below))

map_values : {A C : Type 0} (f : A → C) (ms : List (Member A)) → map (λ m. f m.value) ms ≡ map f (map (λ m. m.value) ms)
map_values f [] = refl
map_values f (m ∷ ms) = ap (λ ys. f m.value ∷ ys) (map_values f ms)

pub collected_end : {A B C : Type 0} (view : B → C) (f : A → C) (first : A) (ms more : List (Member A)) (i : ℕ) (out : List B)
    → map view out ≡ f first ∷ map (λ m. f m.value) (take i ms) → ms ≡ more → length ms ≤ i → map view out ≡ map f (first ∷ map (λ m. m.value) more)
collected_end view f first ms more i out is e past =
    is ∙ ap (λ ys. f first ∷ map (λ m. f m.value) ys) (take_all i ms past ∙ e) ∙ ap (λ ys. f first ∷ ys) (map_values f more)
