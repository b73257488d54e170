use Rattle.std.proofs.Common.{sym, refl, ap, ◌∙◌}
use Rattle.coord_core.specs.Journal.{jobs_by}
use Rattle.coord_run.proofs.SessionLemmas.{begin-ties, all-shares, end-driven}
use Rattle.coord_run.proofs.DispatchLemmas.{tied-as}
use Rattle.coord_run.proofs.driving.drive_named.Goals as goal

pub run_to_end-requires-after_bounds : goal.run_to_end-requires-after_bounds
run_to_end-requires-after_bounds g c κs bounds =
    let tied = begin-ties _ _ c.args.lanes c.args.keep _ _ (g.Q.TokenPool.told c.args.pool.now) _ c.requires.ready (c.share.ensures.rest (all-shares _ _ _ _ c.requires.ready c.share.ensures.share)) c.in_ok-opened.ensures.1 c.in_ok-books.ensures.0 (c.units.ensures ∙ ap (λ (w : g.row.W.Denot). (g.W.Work.meaning w).count) c.deref.ensures) in
    (_, ap g.W.Work.meaning (sym c.in_ok-opened.ensures.0), tied-as _ _ _ _ _ _ _ _ _ refl (ap jobs_by c.in_ok-books.ensures.1) refl tied)

pub returns-clause-driven : goal.returns-clause-driven
returns-clause-driven g c =
    let tied = begin-ties _ _ c.args.lanes c.args.keep _ _ (g.Q.TokenPool.told c.args.pool.now) _ c.requires.ready (c.share.ensures.rest (all-shares _ _ _ _ c.requires.ready c.share.ensures.share)) c.in_ok-opened.ensures.1 c.in_ok-books.ensures.0 (c.units.ensures ∙ ap (λ (w : g.row.W.Denot). (g.W.Work.meaning w).count) c.deref.ensures) in
    let last = c.run_to_end.ensures.keeps _ (ap g.W.Work.meaning (sym c.in_ok-opened.ensures.0)) (tied-as _ _ _ _ _ _ _ _ _ refl (ap jobs_by c.in_ok-books.ensures.1) refl tied) in
    end-driven _ _ _ _ _ last c.run_to_end.ensures.finished _ c.into_driven.ensures.outcomes c.into_driven.ensures.journal c.into_driven.ensures.lost c.into_driven.ensures.tally c.requires.ready.table
