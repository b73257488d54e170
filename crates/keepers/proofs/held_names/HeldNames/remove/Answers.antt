use Rattle.std.proofs.Common.{ap, ◌∙◌}
use Rattle.std.specs.FinMap as map
use Rattle.outside.specs.Held.{Held}
use Rattle.keepers.proofs.HeldInOrder.{remove_held}
use Rattle.keepers.proofs.held_names.HeldNames.remove.Goals as goal

pub returns : goal.returns
returns c = remove_held c.self.inside.names c.remove.new.self c.args.name.now c.remove.ensures.updates ∙ ap (λ (m : Held). map.remove m c.args.name.now) c.self.view_is
