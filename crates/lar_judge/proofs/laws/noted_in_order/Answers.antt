use Rattle.lar_judge.proofs.SilentNew.{new_faults}
use Rattle.lar_judge.proofs.SilentRules.{unary_faults, binary_faults, bracket_faults, field_faults, call_faults}
use Rattle.lar_judge.proofs.laws.noted_in_order.Goals as goal

pub returns : goal.returns
returns c = record { unary = unary_faults; binary = binary_faults; bracket = bracket_faults; field = field_faults; call = call_faults; new = new_faults }
