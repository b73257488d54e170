use Rattle.std.proofs.Common.{sym, ◌∙◌}
use Rattle.std.proofs.lemmas.Result.{on_ok_weaker}
use Rattle.lar_written.specs.Sites.{site_view}
use Rattle.lar_written.proofs.Sorting.{sort_same, sort_other}
use Rattle.lar_written.proofs.fault.note_if_missorted.Goals as goal

pub returns-then-is_same_sort : goal.returns-then-is_same_sort
returns-then-is_same_sort c =
    sort_same (site_view c.args.site.now) c.args.one.at c.args.wanted c.args.one.sort c.args.first.now (sym c.is_same_sort.ensures ∙ c.if-is_same_sort.true)

pub returns : goal.returns
returns c =
    on_ok_weaker c.note_missorted.result (λ e. sort_other (site_view c.args.site.now) c.args.one.at c.args.wanted c.args.one.sort c.args.first.now c.note_missorted.new.first (sym c.is_same_sort.ensures ∙ c.if-is_same_sort.false) e) c.note_missorted.ensures
