use Rattle.lar_judge.proofs.SilentNew.{new_same}
use Rattle.lar_judge.proofs.SilentRules.{unary_same, binary_same, bracket_same, field_same, call_same}
use Rattle.lar_judge.proofs.laws.known_without_faults.Goals as goal

pub returns : goal.returns
returns c = record { unary = unary_same; binary = binary_same; bracket = bracket_same; field = field_same; call = call_same; new = new_same }
