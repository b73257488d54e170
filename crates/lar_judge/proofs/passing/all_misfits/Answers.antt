use Rattle.std.proofs.Common.{◌∙◌, arith}
use Rattle.lar_judge.proofs.Passed.{misfits_more, no_types_left, no_parts_left, wanted_within, part_within}
use Rattle.lar_judge.proofs.passing.all_misfits.Goals as goal

pub misfit_if-requires-clause-wanted : goal.misfit_if-requires-clause-wanted
misfit_if-requires-clause-wanted c = wanted_within c.args.types.now c.args.wanted.now c.loop-n.n c.requires.wanted (omega arith)

pub misfit_if-requires-clause-within : goal.misfit_if-requires-clause-within
misfit_if-requires-clause-within c = part_within c.args.types.now c.args.parts.now c.loop-n.n c.index-parts-n.result c.requires.parts (omega arith) c.index-parts-n.is

pub loop-n-preserved : goal.loop-n-preserved
loop-n-preserved c s h = misfits_more c.args.types.now s c.args.wanted.now c.args.parts.now c.loop-n.n c.index-parts-n.result c.loop-n.first c.misfit_if.new.first (omega arith) (omega arith) c.index-parts-n.is (c.in_ok-misfit_if.ensures s h) ∙ c.loop-n.invariant s h

pub returns-else-n-parts : goal.returns-else-n-parts
returns-else-n-parts c s h = no_parts_left c.args.types.now s c.args.wanted.now c.args.parts.now c.loop-n.n _ c.loop-n.first (omega arith) (c.loop-n.invariant s h)

pub returns-after-loop-n : goal.returns-after-loop-n
returns-after-loop-n c s h = no_types_left c.args.types.now s c.args.wanted.now c.args.parts.now c.loop-n.n _ c.loop-n.first (omega arith) (c.loop-n.invariant s h)
