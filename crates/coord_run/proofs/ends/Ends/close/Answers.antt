use Rattle.coord_run.specs.Messages.{FitsMessage}
use Rattle.coord_run.specs.declared.message.Message.{Message}
use Rattle.coord_run.specs.declared.message.Message.TheVariants.{Stop}
use Rattle.coord_run.proofs.Moving.{sends, fits_any}
use Rattle.coord_run.proofs.ends.Ends.close.Goals as goal

pub send_as-requires-clause-rule : goal.send_as-requires-clause-rule
send_as-requires-clause-rule g c =
    let Fit = λ (w : g.row.W.Denot) (x : Message g.row.W-Part.Denot). FitsMessage (g.W.Work.meaning w) x in
    (sends Fit _ _ _ _ (fits_any Fit Stop (λ w. tt) _), λ items views kept at. tt)
