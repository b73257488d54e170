use Rattle.std.proofs.Common.{◌+◌, refl}
use Rattle.lar_written.proofs.Numbers.{types_more}
use Rattle.lar_written.proofs.site.type_sorts.Goals as goal

pub loop-preserved : goal.loop-preserved
loop-preserved c = types_more c.loop.counter (c.loop.counter + 1) c.loop.sorts.items c.push.new.self.items c.loop.invariant c.in_ok-push.ensures.items refl
