use Rattle.std.proofs.Common.{◌≡◌, take, map}
use Rattle.struct_chains.proofs.chain.none.Given as goal

abbrev pub invariant-loop : goal.invariant-loop
invariant-loop l = l.out.items ≡ map (λ next. 0) (take l.index l.graph)
