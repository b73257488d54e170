use Rattle.std.proofs.Common.{sym, ap, ◌∙◌, refl}
use Rattle.coord_run.proofs.driving.run_to_end.Goals as goal

pub follow-requires-after_bounds : goal.follow-requires-after_bounds
follow-requires-after_bounds g c κs bounds = let e = c.requires in (e.0, _, e.1 ∙ ap g.W.Work.meaning (sym c.loop.invariant.work), c.loop.invariant.keeps e.0 e.1 e.2)

pub step-actions-requires-clause-ready : goal.step-actions-requires-clause-ready
step-actions-requires-clause-ready g c κs bounds =
    let e = c.requires in
    let same = e.1 ∙ ap g.W.Work.meaning (sym c.loop.invariant.work) in
    (e.0, same ∙ ap g.W.Work.meaning (sym c.follow.ensures.work), c.follow.ensures.keeps e.0 _ same (c.loop.invariant.keeps e.0 e.1 e.2))

pub loop-init : goal.loop-init
loop-init g c = record { work = refl; keeps = λ start same tied. tied }

pub loop-preserved : goal.loop-preserved
loop-preserved g c = record {
  work = c.step-actions.ensures.work ∙ c.follow.ensures.work ∙ c.loop.invariant.work;
  keeps = λ start same tied.
      let now = same ∙ ap g.W.Work.meaning (sym c.loop.invariant.work) in
      c.step-actions.ensures.keeps start (now ∙ ap g.W.Work.meaning (sym c.follow.ensures.work)) (c.follow.ensures.keeps start _ now (c.loop.invariant.keeps start same tied));
}

pub returns-then-is_finished-clause-keeps : goal.returns-then-is_finished-clause-keeps
returns-then-is_finished-clause-keeps g c start same tied = c.follow.ensures.keeps start _ (same ∙ ap g.W.Work.meaning (sym c.loop.invariant.work)) (c.loop.invariant.keeps start same tied)
