use Rattle.lar_lexer.proofs.Kept.{is_cut}
use Rattle.lar_lexer.proofs.laws.cut.Goals as goal

pub returns : goal.returns
returns c = is_cut
