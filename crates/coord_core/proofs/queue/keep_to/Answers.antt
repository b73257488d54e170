use Rattle.std.proofs.Common.{rules, tests, leb}
use Rattle.std.proofs.lemmas.Fn.{filter_same}
use Rattle.coord_core.specs.declared.queue.Queued.{Queued}
use Rattle.coord_core.proofs.queue.keep_to.Goals as goal

pub returns-clause-kept : goal.returns-clause-kept
returns-clause-kept c = filter_same _ (λ (e : Queued). leb e.unit c.args.bar) _ (λ x b q k. search (rules, tests)) _ _ c.retain.ensures.filtered
