use Rattle.std.specs.Cmp.{nat_eq_equiv}
use Rattle.std.specs.Prelude.{nat_eq}
use Rattle.std.proofs.lemmas.Map.Views.{exact_unsigned_eq}
use Rattle.reach.proofs.Found.{found_once}
use Rattle.cgu_copies.proofs.laws.found_is_one.Goals as goal

pub returns : goal.returns
returns c = λ calls roots us vs once f g. found_once nat_eq nat_eq_equiv exact_unsigned_eq calls roots once us vs 0 f g
