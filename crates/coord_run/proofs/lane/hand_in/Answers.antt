use Rattle.std.proofs.Common.{subst, sym, Option}
use Rattle.coord_run.specs.Messages.{FitsDone}
use Rattle.coord_run.specs.Rules.{FitsIfAny}
use Rattle.coord_run.proofs.Moving.{sends}
use Rattle.coord_run.proofs.lane.hand_in.Goals as goal

pub send_as-requires-clause-rule : goal.send_as-requires-clause-rule
send_as-requires-clause-rule g c =
    let Fit = λ (w : g.row.W.Denot) (x : _). FitsDone (g.W.Work.meaning w) x in
    (sends Fit _ _ _ _ (subst (λ (v : Option g.row.W.Denot). FitsIfAny Fit v c.loop.next) (sym c.loop.invariant.1) c.loop.invariant.2), λ items views kept at. tt)
