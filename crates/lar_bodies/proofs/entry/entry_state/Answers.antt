use Rattle.lar_bodies.proofs.Entries.{entry_within, entry_is}
use Rattle.lar_bodies.proofs.entry.entry_state.Goals as goal

pub returns-clause-within : goal.returns-clause-within
returns-clause-within c rows h = record { locals = c.in_ok-locals.ensures.within rows h; types = entry_within rows c.args.params.now c.in_ok-types.types.items c.in_ok-types.ensures h }

pub returns-clause-is : goal.returns-clause-is
returns-clause-is c rows = entry_is rows c.args.params.now c.in_ok-locals.locals.locals.items c.in_ok-types.types.items (c.in_ok-locals.ensures.are rows) c.in_ok-types.ensures
