use Rattle.std.proofs.lemmas.Result.{on_ok_weaker}
use Rattle.lar_written.specs.Sites.{site_view}
use Rattle.lar_written.proofs.Fits.{fit_same, fit_other}
use Rattle.lar_written.proofs.fitted.fit_begun.Goals as goal

pub returns-then-wanted-found : goal.returns-then-wanted-found
returns-then-wanted-found c = fit_same (site_view c.args.site.now) c.args.path.now c.args.wanted c.args.found c.args.first.now c.if-wanted-found.true

pub returns : goal.returns
returns c =
    on_ok_weaker c.note_miscounted.result (λ e. fit_other (site_view c.args.site.now) c.args.path.now c.args.wanted c.args.found c.args.first.now c.note_miscounted.new.first c.if-wanted-found.false e) c.note_miscounted.ensures
