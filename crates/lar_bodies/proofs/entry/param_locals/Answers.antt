use Rattle.std.proofs.Common.{◌-◌, refl, arith}
use Rattle.lar_bodies.proofs.Entries.{params_within, params_are}
use Rattle.lar_bodies.proofs.entry.param_locals.Goals as goal

pub loop-number-preserved : goal.loop-number-preserved
loop-number-preserved c = record {
  few = omega arith;
  within = λ rows h. params_within rows c.args.params.now (c.loop-number.number - 1) c.index-params-number.result _ c.loop-number.locals.locals.items c.declare.new.self.locals.items h (omega arith) c.index-params-number.is refl c.in_ok-declare.ensures.ok (c.loop-number.invariant.within rows h);
  are = λ rows. params_are rows c.args.params.now c.loop-number.number (c.loop-number.number - 1) c.index-params-number.result _ c.loop-number.locals.locals.items c.declare.new.self.locals.items (omega arith) (omega arith) c.index-params-number.is refl refl refl c.in_ok-declare.ensures.ok (c.loop-number.invariant.are rows);
}
