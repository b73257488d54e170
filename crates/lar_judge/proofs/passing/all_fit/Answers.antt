use Rattle.std.proofs.Common.{subst, arith}
use Rattle.lar_judge.specs.declared.judged.Judged.{Judged}
use Rattle.lar_judge.specs.Known.{TypedWithin}
use Rattle.lar_judge.proofs.Passed.{fits_other, wanted_within, part_within}
use Rattle.lar_judge.proofs.passing.all_fit.Goals as goal

pub returns-then-wanted-parts : goal.returns-then-wanted-parts
returns-then-wanted-parts c = fits_other c.args.types.now c.args.wanted.now c.args.parts.now (λ e. absurd (omega arith))

pub fits-requires-clause-wanted : goal.fits-requires-clause-wanted
fits-requires-clause-wanted c = wanted_within c.args.types.now c.args.wanted.now c.loop-n.n c.requires.wanted (omega arith)

pub fits-requires-clause-e : goal.fits-requires-clause-e
fits-requires-clause-e c = subst (λ (j : Judged). TypedWithin c.args.types.now j.typed) c.index-parts-n.is (part_within c.args.types.now c.args.parts.now c.loop-n.n c.index-parts-n.result c.requires.parts (omega arith) c.index-parts-n.is)
