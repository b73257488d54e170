use Rattle.std.proofs.Common.{map, sym, ap, ◌∙◌}
use Rattle.unit_ir.specs.Units.{fn_view}
use Rattle.opt_slots.proofs.Mapped.{all_made}
use Rattle.opt_known.proofs.Changed.{known_view, map-known_fn}
use Rattle.opt_known.proofs.functions.known_fns.Goals as goal

pub returns : goal.returns
returns c =
    ap (map fn_view) (c.from_vec.ensures ∙ c.reverse.ensures.items)
    ∙ all_made known_view fn_view c.loop-last.functions c.loop-last.changed.items c.args.functions c.in_default.ensures.0 c.loop-last.invariant
    ∙ sym (map-known_fn c.args.functions)
