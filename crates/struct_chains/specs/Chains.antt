-- The longest chains of a graph, whose nodes are numbers and have lists of next ones.
use Rattle.std.specs.Prelude.{ℕ, zero, suc, max, List, [], ◌∷◌, map, slice_index_or}
use Rattle.std.specs.Global.{Vec}

-- the next ones of a node; one that is not there has none
abbrev pub next_of : List (List ℕ) → ℕ → List ℕ
next_of graph node = slice_index_or graph node []

abbrev pub longest : (ℕ → ℕ) → List ℕ → ℕ
longest f [] = 0
longest f (x ∷ xs) = max (suc (f x)) (longest f xs)

-- how many nodes follow this one in the longest chain, each among the next ones of the one before, up to n
unfoldable pub followers : List (List ℕ) → ℕ → ℕ → ℕ
followers graph zero node = 0
followers graph (suc n) node = longest (followers graph n) (next_of graph node)

-- the lists of next ones
abbrev pub lists : List (Vec ℕ) → List (List ℕ)
lists graph = map (λ v. v.items) graph

-- the followers up to one more, from those of each node
abbrev pub round : List (List ℕ) → List ℕ → List ℕ
round graph so_far = map (longest (λ node. slice_index_or so_far node 0)) graph

-- the followers of each node, up to n
unfoldable pub all_followers : List (List ℕ) → ℕ → List ℕ
all_followers graph zero = map (λ next. 0) graph
all_followers graph (suc n) = round graph (all_followers graph n)
