-- Numbers from 0, and one more.
use Rattle.std.proofs.Common.{◌≡◌, ◌∙◌, ℕ, ◌+◌, ◌*◌, suc, List, [], ◌∷◌, ◌++◌, ap, sym, arith}
use Rattle.std.proofs.lemmas.List.{append-nil}
use Rattle.std.proofs.lemmas.List.Concat.{flat_map-append}
use Rattle.std.proofs.lemmas.List.FromFn.{map-range_with_len_more}
use Rattle.std.proofs.lemmas.List.Folds.{flat_map-map}
use Rattle.std.specs.Prelude.{map}
use Rattle.std.specs.List.{flat_map, range_with_len}
use Rattle.source_gen.specs.Draws.{state_after}

pub flat_map-range_more : (f : ℕ → List ℕ) (n : ℕ) → flat_map f (range_with_len 0 (n + 1)) ≡ flat_map f (range_with_len 0 n) ++ f n
flat_map-range_more f n =
    let same = λ (k : ℕ). k in
    sym (flat_map-map f same (range_with_len 0 (n + 1))) ∙ ap (flat_map f) (map-range_with_len_more same 0 n n (omega arith))
    ∙ flat_map-append f (map same (range_with_len 0 n)) (n ∷ []) ∙ ap (λ xs. xs ++ (f n ++ [])) (flat_map-map f same (range_with_len 0 n)) ∙ ap (λ ys. flat_map f (range_with_len 0 n) ++ ys) (append-nil (f n))

-- three draws more
pub state_after-three : (k seed : ℕ) → state_after 3 (state_after (3 * k) seed) ≡ state_after (3 * (k + 1)) seed
state_after-three k seed = let more : suc (suc (suc (3 * k))) ≡ 3 * (k + 1) = omega arith in ap (λ n. state_after n seed) more
