use Rattle.mono_graph.specs.Graphs.{max_instances}
use Rattle.mono_graph.specs.Instances.{calls_of, roots}
use Rattle.graph_laws.proofs.Placing.{roots_few, roots_once}
use Rattle.graph_laws.proofs.Reading.{found_is, found_small, found_few, found_distinct}
use Rattle.graph_laws.proofs.laws.found.Goals as goal

pub returns : goal.returns
returns c = record {
  reached = λ tree us typed all. found_is (calls_of tree) max_instances (roots tree) (roots_few tree typed.few_functions) us all;
  once = λ tree us typed all. found_distinct (calls_of tree) max_instances (roots tree) (roots_few tree typed.few_functions) (roots_once tree) us all;
  few = λ tree us typed all. found_few (calls_of tree) max_instances (roots tree) (roots_few tree typed.few_functions) us all;
  small = λ tree us typed all. found_small (calls_of tree) max_instances (roots tree) (roots_few tree typed.few_functions) us all;
}
