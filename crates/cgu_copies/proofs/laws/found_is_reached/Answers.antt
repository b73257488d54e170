use Rattle.std.specs.Cmp.{nat_eq_equiv}
use Rattle.std.specs.Prelude.{nat_eq}
use Rattle.std.proofs.lemmas.Map.Views.{exact_unsigned_eq}
use Rattle.reach.proofs.Found.{leads_to, leads_in}
use Rattle.cgu_copies.proofs.laws.found_is_reached.Goals as goal

pub returns-clause-to : goal.returns-clause-to
returns-clause-to c = λ calls roots us once f x h. leads_to nat_eq nat_eq_equiv exact_unsigned_eq calls roots once us 0 f x h

pub returns-clause-from : goal.returns-clause-from
returns-clause-from c = λ calls roots us once f n h x m l. leads_in nat_eq nat_eq_equiv exact_unsigned_eq calls roots once us f n h x m l
