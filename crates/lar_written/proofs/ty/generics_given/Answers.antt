use Rattle.std.proofs.Common.{ap, sym, ◌∙◌}
use Rattle.std.specs.Option.{option_copied}
use Rattle.lar_rules.specs.Fault.{least}
use Rattle.lar_rules.specs.Written.{all_given}
use Rattle.lar_written.specs.Given.{given_if}
use Rattle.lar_written.specs.Sites.{site_view}
use Rattle.lar_written.proofs.Fits.{least_none}
use Rattle.lar_written.proofs.ty.generics_given.Goals as goal

pub returns-in-None-clause-told : goal.returns-in-None-clause-told
returns-in-None-clause-told c =
    least_none c.args.first.now ∙ ap (λ o. least c.args.first.now (all_given (given_if (site_view c.args.site.now) (option_copied o)))) (sym c.in-None.is)
