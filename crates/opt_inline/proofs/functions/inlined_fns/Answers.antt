use Rattle.std.proofs.Common.{map, sym, ap, ◌∙◌}
use Rattle.unit_ir.specs.Units.{fn_view}
use Rattle.opt_slots.proofs.Mapped.{all_made}
use Rattle.opt_inline.specs.SmallView.{smalls_view}
use Rattle.opt_inline.proofs.Changed.{inlined_view, map-inlined_fn}
use Rattle.opt_inline.proofs.functions.inlined_fns.Goals as goal

pub returns : goal.returns
returns c =
    ap (map fn_view) (c.from_vec.ensures ∙ c.reverse.ensures.items)
    ∙ all_made (inlined_view (smalls_view c.args.small.now)) fn_view c.loop-last.functions c.loop-last.changed.items c.args.functions c.in_default.ensures.0 c.loop-last.invariant
    ∙ sym (map-inlined_fn (smalls_view c.args.small.now) c.args.functions)
