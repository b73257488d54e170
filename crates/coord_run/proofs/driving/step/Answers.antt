use Rattle.std.proofs.Common.{ap, sym, ◌∙◌, subst}
use Rattle.coord_run.specs.declared.pending.Turn.{Turn}
use Rattle.coord_run.specs.Pending.{IsNext}
use Rattle.coord_run.specs.Books.{state_of, ask_first_of}
use Rattle.coord_run.proofs.SessionLemmas.{job-waits}
use Rattle.coord_run.proofs.driving.step.Goals as goal

pub give-requires : goal.give-requires
give-requires g c = let r = c.requires.ready in (r.0, _, r.2, subst (λ (t : Turn). IsNext (state_of c.args.session.now.books) (ask_first_of c.args.session.now.books) t) c.in-Give.is c.turn.ensures)

pub returns-in-Give-clause-keeps : goal.returns-in-Give-clause-keeps
returns-in-Give-clause-keeps g c start same tied = c.give.ensures start _ tied

pub take-requires : goal.take-requires
take-requires g c =
    let r = c.requires.ready in
    let n = subst (λ (t : Turn). IsNext (state_of c.args.session.now.books) (ask_first_of c.args.session.now.books) t) c.in-Ask.is c.turn.ensures in
    let turn = n.1 in (r.0, _, r.2, n.0, turn.0, turn.1)

pub returns-in-Ask-clause-keeps : goal.returns-in-Ask-clause-keeps
returns-in-Ask-clause-keeps g c start same tied = c.take.ensures start _ tied

pub generate-requires-after_bounds : goal.generate-requires-after_bounds
generate-requires-after_bounds g c κs bounds =
    let r = c.requires.ready in
    let n = subst (λ (t : Turn). IsNext (state_of c.args.session.now.books) (ask_first_of c.args.session.now.books) t) c.in-Generate.is c.turn.ensures in
    let turn = n.1 in (r.0, _, _, r.1 ∙ ap g.W.Work.meaning (sym c.work.ensures), r.2, n.0, turn.0, turn.1)

pub returns-in-Generate-clause-keeps : goal.returns-in-Generate-clause-keeps
returns-in-Generate-clause-keeps g c start same tied = c.generate.ensures start _ _ (same ∙ ap g.W.Work.meaning (sym c.work.ensures)) tied

pub collect-requires-after_bounds : goal.collect-requires-after_bounds
collect-requires-after_bounds g c κs bounds =
    let r = c.requires.ready in
    let n = subst (λ (t : Turn). IsNext (state_of c.args.session.now.books) (ask_first_of c.args.session.now.books) t) c.in-Collect.is c.turn.ensures in
    (r.0, _, r.1, r.2, n.1, n.0, job-waits _ _ _ _ _ r.2 c.requires.going n.1 n.2 n.0, n.2)

pub returns-in-Collect-clause-keeps : goal.returns-in-Collect-clause-keeps
returns-in-Collect-clause-keeps g c start same tied = c.collect.ensures.keeps start _ same tied
