use Rattle.coord_run.proofs.EventLemmas.{may-take, took-ties, empty-ties, fault-ties}
use Rattle.coord_run.proofs.answering.take.Goals as goal

pub took-requires : goal.took-requires
took-requires g c = may-take _ _ _ _ _ c.requires.2 c.requires.3 c.requires.4

pub returns-in-Byte : goal.returns-in-Byte
returns-in-Byte g c start waiting tied = simp (c.next.ensures.state, c.next.ensures.actions, c.took.ensures) (took-ties start _ _ _ waiting tied c.in-Byte.byte _ c.requires.3 c.requires.4 c.requires.5 c.in-Byte.ensures.0)

pub returns-in-Empty : goal.returns-in-Empty
returns-in-Empty g c start waiting tied = simp (c.next-in-Empty.ensures.state, c.next-in-Empty.ensures.actions) (empty-ties start _ _ _ waiting tied _ c.requires.3 c.requires.4 c.requires.5 c.in-Empty.ensures.0 c.in-Empty.ensures.2)

pub returns-in-Failed : goal.returns-in-Failed
returns-in-Failed g c start waiting tied = simp (c.next-in-Failed.ensures.state, c.next-in-Failed.ensures.actions) (fault-ties start _ _ _ waiting tied _ c.requires.3 c.requires.4 c.requires.5 c.in-Failed.ensures)
