use Rattle.std.proofs.Common.{◌∙◌}
use Rattle.struct_chains.proofs.Rounds.{map_end, none_all}
use Rattle.struct_chains.proofs.chain.none.Goals as goal

pub returns : goal.returns
returns c = map_end (λ next. 0) c.args.graph.now c.loop.index c.loop.out.items c.loop.invariant c.loop-test.false ∙ none_all c.args.graph.now
