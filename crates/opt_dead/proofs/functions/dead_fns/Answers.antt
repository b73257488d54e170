use Rattle.std.proofs.Common.{map, sym, ap, ◌∙◌}
use Rattle.unit_ir.specs.Units.{fn_view}
use Rattle.opt_slots.proofs.Mapped.{all_made}
use Rattle.opt_dead.proofs.Dropped.{dead_view, map-dead_fn}
use Rattle.opt_dead.proofs.functions.dead_fns.Goals as goal

pub returns : goal.returns
returns c =
    ap (map fn_view) (c.from_vec.ensures ∙ c.reverse.ensures.items)
    ∙ all_made dead_view fn_view c.loop-last.functions c.loop-last.changed.items c.args.functions c.in_default.ensures.0 c.loop-last.invariant
    ∙ sym (map-dead_fn c.args.functions)
