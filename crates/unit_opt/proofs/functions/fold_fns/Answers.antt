use Rattle.std.proofs.Common.{map, sym, ap, ◌∙◌}
use Rattle.unit_ir.specs.Units.{fn_view}
use Rattle.unit_opt.proofs.Folds.{folded_fn, map-folded_fn}
use Rattle.opt_slots.proofs.Mapped.{all_made}
use Rattle.unit_opt.proofs.functions.fold_fns.Goals as goal

pub returns : goal.returns
returns c =
    ap (map fn_view) (c.from_vec.ensures ∙ c.reverse.ensures.items)
    ∙ all_made folded_fn fn_view c.loop-last.functions c.loop-last.folded.items c.args.functions c.in_default.ensures.0 c.loop-last.invariant
    ∙ sym (map-folded_fn c.args.functions)
