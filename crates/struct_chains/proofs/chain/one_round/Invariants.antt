use Rattle.std.proofs.Common.{◌≡◌, take, map, get_or}
use Rattle.struct_chains.specs.Chains.{longest}
use Rattle.struct_chains.proofs.chain.one_round.Given as goal

abbrev pub invariant-loop-next : goal.invariant-loop-next
invariant-loop-next l = l.out.items ≡ map (λ next. longest (λ node. get_or l.so_far node 0) next.items) (take l.next-index l.graph)
