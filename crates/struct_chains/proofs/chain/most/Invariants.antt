use Rattle.std.proofs.Common.{◌≡◌, ◌≤◌, max, drop, get_or}
use Rattle.struct_chains.specs.Chains.{longest}
use Rattle.struct_chains.proofs.chain.most.Given as goal

abbrev pub invariant-loop-node : goal.invariant-loop-node
invariant-loop-node l = record {
  rest : max l.out (longest (λ node. get_or l.so_far node 0) (drop l.node-index l.next)) ≡ longest (λ node. get_or l.so_far node 0) l.next;
  limited : l.out ≤ l.limit;
}
