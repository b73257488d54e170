-- Rounds: what they give, how far they go, and that they change nothing more once they change nothing.
use Rattle.std.proofs.Common.{◌≡◌, ℕ, zero, suc, ◌+◌, ◌-◌, ◌<◌, ◌≤◌, max, List, [], ◌∷◌, length, ◌++◌, take, map, get_or, refl, sym, ap, ◌∙◌, arith}
use Rattle.std.proofs.Math.ListN as lists_of_all
use Rattle.std.proofs.lemmas.List.{map_more, take_all}
use Rattle.std.specs.Global.{Vec}
use Rattle.struct_chains.specs.Chains.{lists, next_of, longest, followers, round, all_followers}

-- the followers of one node are its entry
pub entry_is : (graph : List (List ℕ)) (n node : ℕ) → get_or (all_followers graph n) node 0 ≡ followers graph n node
unfolding all_followers followers
entry_is graph zero node = lists_of_all.get_or-map (λ next. 0) graph node []
entry_is graph (suc n) node =
    lists_of_all.get_or-map (longest (λ k. get_or (all_followers graph n) k 0)) graph node []
    ∙ longest_same (λ k. get_or (all_followers graph n) k 0) (followers graph n) (next_of graph node) (entry_is graph n)
  where
    longest_same : (f g : ℕ → ℕ) (xs : List ℕ) → ((k : ℕ) → f k ≡ g k) → longest f xs ≡ longest g xs
    longest_same f g [] h = refl
    longest_same f g (x ∷ xs) h = ap (λ k. max (suc k) (longest f xs)) (h x) ∙ ap (λ k. max (suc (g x)) k) (longest_same f g xs h)

longest_below : (f : ℕ → ℕ) (n : ℕ) (xs : List ℕ) → ((k : ℕ) → f k ≤ n) → longest f xs ≤ suc n
longest_below f n [] h = omega arith
longest_below f n (x ∷ xs) h = let a : f x ≤ n = h x in let b : longest f xs ≤ suc n = longest_below f n xs h in omega arith

pub followers_below : (graph : List (List ℕ)) (n node : ℕ) → followers graph n node ≤ n
unfolding followers
followers_below graph zero node = omega arith
followers_below graph (suc n) node = longest_below (followers graph n) n (next_of graph node) (followers_below graph n)

pub entry_below : (graph : List (List ℕ)) (so_far : List ℕ) (n limit : ℕ) → so_far ≡ all_followers graph n → n < limit → (node : ℕ) → get_or so_far node 0 < limit
entry_below graph so_far n limit is below node =
    let a : get_or so_far node 0 ≡ followers graph n node = ap (λ xs. get_or xs node 0) is ∙ entry_is graph n node in
    let b : followers graph n node ≤ n = followers_below graph n node in
    omega arith

pub none_all : (graph : List (Vec ℕ)) → map (λ next. 0) graph ≡ all_followers (lists graph) 0
unfolding all_followers
none_all [] = refl
none_all (v ∷ vs) = ap (λ (xs : List ℕ). 0 ∷ xs) (none_all vs)

pub round_all : (graph : List (Vec ℕ)) (so_far : List ℕ) → map (λ v. longest (λ node. get_or so_far node 0) v.items) graph ≡ round (lists graph) so_far
round_all [] so_far = refl
round_all (v ∷ vs) so_far = ap (λ (xs : List ℕ). longest (λ node. get_or so_far node 0) v.items ∷ xs) (round_all vs so_far)

pub round_next : (graph : List (List ℕ)) (so_far next : List ℕ) (n m : ℕ) → so_far ≡ all_followers graph n → next ≡ round graph so_far → m ≡ n + 1 → next ≡ all_followers graph m
unfolding all_followers
round_next graph so_far next n m is step e = step ∙ ap (round graph) is ∙ ap (all_followers graph) (let k : suc n ≡ m = omega arith in k)

-- where a round changes nothing, no later one does
stays : (graph : List (List ℕ)) (n more : ℕ) → all_followers graph (suc n) ≡ all_followers graph n → all_followers graph (more + n) ≡ all_followers graph n
unfolding all_followers
stays graph n zero h = ap (all_followers graph) (let e : zero + n ≡ n = omega arith in e)
stays graph n (suc more) h = ap (all_followers graph) (let e : suc more + n ≡ suc (more + n) = omega arith in e) ∙ ap (round graph) (stays graph n more h) ∙ h

pub round_last : (graph : List (List ℕ)) (so_far next : List ℕ) (n limit : ℕ) → so_far ≡ all_followers graph n → next ≡ round graph so_far → next ≡ so_far → n < limit → next ≡ all_followers graph limit
unfolding all_followers
round_last graph so_far next n limit is step same below =
    let h : all_followers graph (suc n) ≡ all_followers graph n = ap (round graph) (sym is) ∙ sym step ∙ same ∙ is in
    let e : (limit - n) + n ≡ limit = omega arith in
    same ∙ is ∙ sym (stays graph n (limit - n) h) ∙ ap (all_followers graph) e

-- one node more
pub map_push : (f : Vec ℕ → ℕ) (graph : List (Vec ℕ)) (i : ℕ) (x : Vec ℕ) (old new : List ℕ) (v : ℕ) → old ≡ map f (take i graph) → new ≡ old ++ v ∷ [] → v ≡ f x → x ≡ get_or graph i x → i < length graph → new ≡ map f (take (i + 1) graph)
map_push f graph i x old new v so_far push is at below =
    push ∙ ap (λ ys. ys ++ v ∷ []) so_far ∙ ap (λ k. map f (take i graph) ++ k ∷ []) (is ∙ ap f at) ∙ sym (map_more f graph i x below)

pub map_end : (f : Vec ℕ → ℕ) (graph : List (Vec ℕ)) (i : ℕ) (out : List ℕ) → out ≡ map f (take i graph) → length graph ≤ i → out ≡ map f graph
map_end f graph i out is past = is ∙ ap (map f) (take_all i graph past)
