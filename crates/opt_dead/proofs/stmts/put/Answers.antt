use Rattle.std.proofs.Common.{refl}
use Rattle.opt_slots.proofs.Pushed.{stmts_view-pushed}
use Rattle.opt_dead.proofs.stmts.put.Goals as goal

pub returns : goal.returns
returns c = stmts_view-pushed _ _ c.args.stmt _ c.in_ok-push.ensures.items refl
