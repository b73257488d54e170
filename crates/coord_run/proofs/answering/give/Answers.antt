use Rattle.std.proofs.Common.{None, false, ap, ◌∙◌}
use Rattle.coord_core.specs.declared.event.Event.TheVariants.{GiveFault}
use Rattle.coord_core.specs.Effect.{effect}
use Rattle.coord_core.specs.Decide.{actions_of}
use Rattle.coord_core.specs.Journal.{jobs_by}
use Rattle.coord_run.specs.Books.{BooksState, fed, state_of}
use Rattle.coord_run.proofs.EventLemmas.{may-give, may-lose, gave-ties, give_fault-ties}
use Rattle.coord_run.proofs.DispatchLemmas.{tied-as, fallen-desk}
use Rattle.coord_run.proofs.answering.give.Goals as goal

pub gave-requires-clause-share : goal.gave-requires-clause-share
gave-requires-clause-share g c = (may-give _ _ _ _ _ c.requires.2 _ c.requires.3).1

pub give-requires : goal.give-requires
give-requires g c = (may-give _ _ _ _ _ c.requires.2 _ c.requires.3).2

pub lose-requires : goal.lose-requires
lose-requires g c = may-lose _ _ _ _ _ c.requires.2 _ c.requires.3

pub returns-in-Done : goal.returns-in-Done
returns-in-Done g c start waiting tied = simp (c.next.ensures.state, c.next.ensures.actions, c.gave.ensures.desk) (gave-ties start _ _ _ waiting tied c.args.byte _ c.requires.3 (fallen-desk _ _ _ c.gave.ensures.desk c.gave.ensures.fall) c.in-Done.ensures.0)

pub returns-in-Failed : goal.returns-in-Failed
returns-in-Failed g c start waiting tied =
    tied-as start _ _ _ _ _ _ _ waiting
    (c.next-in-Failed.ensures.state ∙ ap (fed (GiveFault c.args.byte) None) c.lose.ensures)
    (ap jobs_by (c.next-in-Failed.ensures.actions ∙ ap (λ (b : BooksState g.row.P.Denot g.row.F.Denot). actions_of false (effect (GiveFault c.args.byte) (state_of b))) c.lose.ensures))
    c.gave.ensures.desk
    (give_fault-ties start _ _ _ waiting tied c.args.byte _ c.requires.3 (fallen-desk _ _ _ c.gave.ensures.desk c.gave.ensures.fall) c.in-Failed.ensures)
