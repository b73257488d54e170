use Rattle.std.proofs.Common.{sym, ap, ◌∙◌}
use Rattle.unit_ir.specs.ExprView.{expr_view, exprs_of, exprs_view}
use Rattle.unit_opt.proofs.Folds.{folded_view, fold_exprs-exprs_view}
use Rattle.opt_slots.proofs.Mapped.{all_made}
use Rattle.unit_opt.proofs.fold.+fold.Goals as goal

pub fold_exprs-returns : goal.fold_exprs-returns
fold_exprs-returns t c =
    ap exprs_view (c.from_vec.ensures ∙ c.reverse.ensures.items)
    ∙ ap exprs_of (all_made folded_view expr_view c.loop-last.parts c.loop-last.folded.items c.args.parts c.in_default.ensures.0 c.loop-last.invariant.1)
    ∙ sym (fold_exprs-exprs_view c.args.parts)
