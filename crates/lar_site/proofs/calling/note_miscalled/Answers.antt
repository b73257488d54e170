use Rattle.std.proofs.lemmas.Result.{on_ok_weaker}
use Rattle.lar_written.specs.Sites.{site_view}
use Rattle.lar_site.proofs.CallFacts.{uncounted, counted_right, counted_wrong}
use Rattle.lar_site.proofs.calling.note_miscalled.Goals as goal

pub returns-then-not-counted : goal.returns-then-not-counted
returns-then-not-counted c = uncounted (site_view c.args.site.now) c.args.path.now c.args.counted c.args.declared c.args.found c.args.first.now c.if-not-counted.true

pub returns-then-declared-found : goal.returns-then-declared-found
returns-then-declared-found c = counted_right (site_view c.args.site.now) c.args.path.now c.args.counted c.args.declared c.args.found c.args.first.now c.if-declared-found.true

pub returns : goal.returns
returns c =
    on_ok_weaker c.note_miscounted.result (λ e. counted_wrong (site_view c.args.site.now) c.args.path.now c.args.counted c.args.declared c.args.found c.args.first.now c.note_miscounted.new.first (λ b. let h : ⊥ = cc in h) c.if-declared-found.false e) c.note_miscounted.ensures
