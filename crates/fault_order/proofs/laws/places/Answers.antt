use Rattle.lar_tree.specs.Items.{flat_head}
use Rattle.lar_tree.specs.Stmts.{flat_block}
use Rattle.fault_order.proofs.PlacesIn.{into_self}
use Rattle.fault_order.proofs.ItemsIn.{struct_faults_in, head_faults_in, body_faults_in}
use Rattle.fault_order.proofs.laws.places.Goals as goal

pub returns-clause-structs : goal.returns-clause-structs
returns-clause-structs c = struct_faults_in

pub returns-clause-heads : goal.returns-clause-heads
returns-clause-heads c = λ all x. head_faults_in all x (flat_head x.it) (into_self (flat_head x.it))

pub returns-clause-bodies : goal.returns-clause-bodies
returns-clause-bodies c = λ all x. body_faults_in all x (flat_block x.it.body) (into_self (flat_block x.it.body))
