use Rattle.fault_order.proofs.Reordered.{by_kind, by_place}
use Rattle.fault_order.proofs.laws.orders.Goals as goal

pub returns-clause-by_kind : goal.returns-clause-by_kind
returns-clause-by_kind c = by_kind

pub returns-clause-by_place : goal.returns-clause-by_place
returns-clause-by_place c = by_place
