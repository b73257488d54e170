use Rattle.std.proofs.Common.{◌≡◌, map, take, get_or}
use Rattle.std.specs.Prelude.{filter}
use Rattle.cgu_copies.specs.Copies.{is_free}
use Rattle.cgu_partition.proofs.ranks.free_ranks.Given as goal

abbrev pub invariant-loop-place : goal.invariant-loop-place
invariant-loop-place l = l.picked.items ≡ map (λ p. get_or l.ranks p 0) (filter (is_free l.homeless) (take l.place-index l.found))
