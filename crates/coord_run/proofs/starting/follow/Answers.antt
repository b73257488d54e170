use Rattle.std.proofs.Common.{ap, sym, ◌∙◌}
use Rattle.coord_core.specs.Journal.{lent_by}
use Rattle.coord_run.proofs.DispatchLemmas.{tied-list, tied-end}
use Rattle.coord_run.proofs.starting.follow.Goals as goal

pub dispatch_if_any-requires-after_bounds : goal.dispatch_if_any-requires-after_bounds
dispatch_if_any-requires-after_bounds g c κs bounds = let r = c.requires in (r.0, r.1, lent_by c.args.actions.main, r.2, tied-list r.0 _ _ _ _ _ r.1 _ c.started.ensures r.3)

pub dispatch_if_any-requires-2-after_bounds : goal.dispatch_if_any-requires-2-after_bounds
dispatch_if_any-requires-2-after_bounds g c κs bounds =
    let r = c.requires in
    let t = c.dispatch_if_any.ensures.starts r.0 r.1 (lent_by c.args.actions.main) r.2 (tied-list r.0 _ _ _ _ _ r.1 _ c.started.ensures r.3) in
    (r.0, r.1, _, r.2 ∙ ap g.W.Work.meaning (sym c.dispatch_if_any.ensures.work), tied-list r.0 _ _ _ _ _ r.1 _ c.lent.ensures (tied-end r.0 _ _ _ r.1 _ t))

pub returns-clause-keeps : goal.returns-clause-keeps
returns-clause-keeps g c start pool same tied =
    let t = c.dispatch_if_any.ensures.starts start pool (lent_by c.args.actions.main) same (tied-list start _ _ _ _ _ pool _ c.started.ensures tied) in
    c.dispatch_if_any-2.ensures.starts start pool _ (same ∙ ap g.W.Work.meaning (sym c.dispatch_if_any.ensures.work)) (tied-list start _ _ _ _ _ pool _ c.lent.ensures (tied-end start _ _ _ pool _ t))
