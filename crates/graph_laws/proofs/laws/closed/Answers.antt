use Rattle.mono_graph.specs.Graphs.{max_instances}
use Rattle.graph_laws.proofs.Closing.{closed_found}
use Rattle.graph_laws.proofs.laws.closed.Goals as goal

pub returns : goal.returns
returns c = λ tree us typed all. closed_found tree typed max_instances all.count us all.read
