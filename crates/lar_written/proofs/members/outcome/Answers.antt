use Rattle.std.proofs.Common.{option_map, ap, sym, ◌∙◌}
use Rattle.lar_tree.specs.ItemView.{output_view}
use Rattle.lar_rules.specs.Fault.{least}
use Rattle.lar_rules.specs.Functions.{output_faults}
use Rattle.lar_written.specs.Sites.{site_view}
use Rattle.lar_written.proofs.Arms.{ok_always}
use Rattle.lar_written.proofs.Fits.{least_none}
use Rattle.lar_written.proofs.members.outcome.Goals as goal

pub returns-in-None-clause-told : goal.returns-in-None-clause-told
returns-in-None-clause-told c =
    ok_always c.unit.result (least_none c.args.first.now ∙ ap (λ o. least c.args.first.now (output_faults (site_view c.args.site.now) (option_map output_view o))) (sym c.in-None.is))
