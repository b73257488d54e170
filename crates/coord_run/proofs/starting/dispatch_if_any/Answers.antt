use Rattle.std.proofs.Common.{ap, refl, subst, ◌∙◌, arith}
use Rattle.coord_run.specs.Meaning.{Meaning}
use Rattle.coord_run.specs.Tied.{HasPart}
use Rattle.coord_run.proofs.DispatchLemmas.{may-dispatch, dispatched-ties, tied-as, tied-job}
use Rattle.coord_run.proofs.starting.dispatch_if_any.Goals as goal

pub dispatch-requires-clause-share : goal.dispatch-requires-clause-share
dispatch-requires-clause-share g c κs bounds = let r = c.requires in (may-dispatch r.0 _ _ _ _ _ _ (tied-job r.0 _ _ _ r.2 _ _ _ c.in-Some.is r.4)).0

pub dispatch-requires-clause-absent : goal.dispatch-requires-clause-absent
dispatch-requires-clause-absent g c κs bounds = let r = c.requires in (may-dispatch r.0 _ _ _ _ _ _ (tied-job r.0 _ _ _ r.2 _ _ _ c.in-Some.is r.4)).1

pub dispatch-requires-clause-unit : goal.dispatch-requires-clause-unit
dispatch-requires-clause-unit g c = let r = c.requires in let m = (may-dispatch r.0 _ _ _ _ _ _ (tied-job r.0 _ _ _ r.2 _ _ _ c.in-Some.is r.4)).2 in let u = r.4.sized.units ∙ ap (λ (m : Meaning g.row.W-Part.Denot g.row.W-Fault.Denot). m.count) r.3 in omega arith

pub dispatch-requires-clause-width : goal.dispatch-requires-clause-width
dispatch-requires-clause-width g c = let r = c.requires in let m = (may-dispatch r.0 _ _ _ _ _ _ (tied-job r.0 _ _ _ r.2 _ _ _ c.in-Some.is r.4)).2 in let w = r.4.sized.part_width in omega arith

pub dispatch-requires-clause-part : goal.dispatch-requires-clause-part
dispatch-requires-clause-part g c κs bounds = let r = c.requires in subst (λ (m : Meaning g.row.W-Part.Denot g.row.W-Fault.Denot). HasPart m c.args.books.now.parts c.in-Some.unit) r.3 (may-dispatch r.0 _ _ _ _ _ _ (tied-job r.0 _ _ _ r.2 _ _ _ c.in-Some.is r.4)).3

pub dispatch-requires-clause-room : goal.dispatch-requires-clause-room
dispatch-requires-clause-room g c κs bounds = let r = c.requires in (may-dispatch r.0 _ _ _ _ _ _ (tied-job r.0 _ _ _ r.2 _ _ _ c.in-Some.is r.4)).4

pub returns-in-Some-clause-starts : goal.returns-in-Some-clause-starts
returns-in-Some-clause-starts g c start pool rest same tied =
    tied-as start _ _ rest _ _ _ pool _ c.dispatch.ensures.books refl c.dispatch.ensures.desk
    (dispatched-ties start _ c.in-Some.unit rest _ pool _ (tied-job start _ _ _ rest _ _ _ c.in-Some.is tied) _ c.dispatch.ensures.waiting)
