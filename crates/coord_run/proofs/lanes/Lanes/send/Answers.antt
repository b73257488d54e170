use Rattle.std.proofs.Common.{List, All, sym, ap, subst, arith}
use Rattle.std.specs.Arc.{arc_value}
use Rattle.std.proofs.lemmas.List.Elements.{All-push}
use Rattle.coord_run.specs.Messages.{FitsDone}
use Rattle.coord_run.specs.Lanes.{LanesState}
use Rattle.coord_run.specs.declared.message.Done.{Done}
use Rattle.coord_run.proofs.lanes.Lanes.send.Goals as goal

pub invariant_of-self-in-Err-Run : goal.invariant_of-self-in-Err-Run
invariant_of-self-in-Err-Run g c =
    let Fit = FitsDone (g.W.Work.meaning (arc_value c.self.inside.work)) in
    (subst (λ (l : List (Done g.row.W-Fault.Denot)). All Fit l) (sym c.push_reserved.ensures.items) (All-push Fit c.self.inside.own.items c.do_job-done.result c.self.invariant.0 c.do_job-done.ensures.fits), let a = c.self.invariant.1 in let b = c.push_reserved.ensures.capacity in omega arith, let a = c.self.invariant.2 in let b = c.push_reserved.ensures.len in omega arith, let v = ap (λ (s : LanesState g.row.W.Denot). s.waiting) c.self.view_is in let r = c.requires.room in omega arith)
