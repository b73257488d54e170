use Rattle.lar_stmts.specs.States.{state_in}
use Rattle.lar_stmts.proofs.Returning.{nothing_told}
use Rattle.lar_stmts.proofs.outcome.return_done.Goals as goal

pub returns-in-None-outcome-clause-told : goal.returns-in-None-outcome-clause-told
returns-in-None-outcome-clause-told g c =
    nothing_told c.args.types.now (g.S.Site.site c.args.context.now.site.now) c.args.context.now.outcome (state_in c.args.types.now c.args.state.now) c.args.at c.args.value.now c.args.first.now c.in-None.is c.in-None-outcome.is
