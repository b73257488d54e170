use Rattle.std.proofs.Common.{ap, sym, ◌∙◌}
use Rattle.lar_rules.specs.Fault.{least}
use Rattle.lar_rules.specs.Structs.{field_faults}
use Rattle.lar_written.specs.Members.{fields_in}
use Rattle.lar_written.specs.Sites.{site_view}
use Rattle.lar_written.proofs.Fits.{least_none}
use Rattle.lar_written.proofs.members.all_members.Goals as goal

pub returns-in-None-clause-told : goal.returns-in-None-clause-told
returns-in-None-clause-told c =
    least_none c.args.first.now ∙ ap (λ o. least c.args.first.now (field_faults (site_view c.args.site.now) (fields_in o))) (sym c.in-None.is)
