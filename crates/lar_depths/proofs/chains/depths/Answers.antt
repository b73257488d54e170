use Rattle.std.proofs.Common.{ap, ◌∙◌}
use Rattle.std.proofs.lemmas.Result.{IfOk-weaker}
use Rattle.struct_chains.specs.Chains.{lists, all_followers}
use Rattle.lar_names.specs.NamesView.{names_view}
use Rattle.lar_depths.proofs.ChainFacts.{graph_followers}
use Rattle.lar_depths.proofs.chains.depths.Goals as goal

pub returns : goal.returns
returns c =
    IfOk-weaker c.followers.result _ _ (λ out is. graph_followers (names_view c.args.names.now) (lists c.in_ok-graph.graph.items) out.items c.in_ok-graph.ensures (is ∙ ap (λ g. all_followers (lists g) 64) c.deref.ensures.value)) c.followers.ensures
