use Rattle.lar_signatures.proofs.ByNumber.{printed_by_number}
use Rattle.lar_signatures.proofs.laws.printed.Goals as goal

pub returns : goal.returns
returns c = printed_by_number
