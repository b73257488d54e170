use Rattle.std.proofs.Common.{ap, ◌∙◌}
use Rattle.lar_names.specs.Tables.{look}
use Rattle.lar_names.proofs.Looks.{look_open}
use Rattle.lar_names.proofs.tables.Tables.open.Goals as goal

pub returns-clause-look : goal.returns-clause-look
returns-clause-look g c = λ s q. ap (λ ms. look ms s q) c.in_ok-push.ensures.items ∙ look_open c.args.self.now.maps.items c.new.result s q c.new.ensures.empty
