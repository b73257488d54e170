use Rattle.std.proofs.Common.{◌∙◌, ap, sym, subst, List}
use Rattle.std.proofs.IntoIterSteps.{All-taken}
use Rattle.lar_judge.specs.declared.judged.Judged.{Judged}
use Rattle.lar_judge.specs.Known.{typed_in}
use Rattle.lar_judge.specs.Lists.{JudgedWithin}
use Rattle.lar_judge.specs.Gathered.{then_last}
use Rattle.lar_judge.proofs.Gathered.{gathered_more, within_front, within_last}
use Rattle.lar_judge.proofs.parts.gathered.Goals as goal

pub loop-part-preserved : goal.loop-part-preserved
loop-part-preserved c = record {
  within = λ rows w. c.in_ok-done.ensures.within rows (c.loop-part.invariant.within rows (within_front rows c.loop-part.yielded c.in-Some.part w)) (within_last rows c.loop-part.yielded c.in-Some.part w);
  is = λ rows. c.in_ok-done.ensures.is rows ∙ ap (λ x. then_last x (typed_in rows c.in-Some.part.typed)) (c.loop-part.invariant.is rows) ∙ sym (gathered_more rows c.loop-part.yielded c.in-Some.part);
}

pub returns-clause-within : goal.returns-clause-within
returns-clause-within c rows w = c.loop-part.invariant.within rows
    (subst (λ (js : List Judged). JudgedWithin rows js)
    (sym (All-taken c.into_iter-part-iterator.result c.loop-part.yielded (c.next.new.self, (c.loop-part.part-iterator, c.loop-part.yielded_by, c.in-None.ensures.steps)) ∙ c.into_iter-part-iterator.ensures.into_iter_gives.0)) w)
