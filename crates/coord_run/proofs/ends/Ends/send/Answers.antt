use Rattle.std.proofs.Common.{subst, sym, Option}
use Rattle.coord_run.specs.Messages.{FitsMessage}
use Rattle.coord_run.specs.Rules.{FitsIfAny}
use Rattle.coord_run.specs.declared.message.Message.TheVariants.{Run}
use Rattle.coord_run.proofs.Moving.{sends}
use Rattle.coord_run.proofs.ends.Ends.send.Goals as goal

pub send_as-requires-clause-rule : goal.send_as-requires-clause-rule
send_as-requires-clause-rule g c =
    let Fit = λ (w : g.row.W.Denot) (x : _). FitsMessage (g.W.Work.meaning w) x in
    (sends Fit _ _ _ _ (subst (λ (v : Option g.row.W.Denot). FitsIfAny Fit v (Run c.args.job)) (sym c.args.self.now.jobs_work) c.requires), λ items views kept at. tt)
