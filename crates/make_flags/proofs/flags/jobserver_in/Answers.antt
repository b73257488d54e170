use Rattle.std.proofs.Common.{◌∙◌, [], sym, arith}
use Rattle.std.specs.List.{slice_split}
use Rattle.make_flags.specs.Words.{is_space}
use Rattle.make_flags.proofs.Answering.{answer-more}
use Rattle.make_flags.proofs.flags.jobserver_in.Goals as goal

pub returns-in-None : goal.returns-in-None
returns-in-None c =
    answer-more c.loop-word.named c.named_after-named.result _ c.loop-word.at c.loop-word.rest.now c.first_word.result.0.now [] c.loop-word.invariant.2 (rw c.in-None.is at c.first_word.ensures.words)
    (sym c.eq.ensures ∙ c.if-eq.false) c.named_after-named.ensures

pub loop-word-preserved : goal.loop-word-preserved
loop-word-preserved c =
    let cut = rw c.in-Some.is at c.first_word.ensures.words in
    let place = rw c.in-Some.is at c.first_word.ensures.places in (
      rw c.in-Some.is at c.first_word.ensures.text,
      omega (arith, place, c.loop-word.invariant.1),
      answer-more c.loop-word.named c.named_after-named.result _ c.loop-word.at c.loop-word.rest.now c.first_word.result.0.now (slice_split is_space c.in-Some.more.now) c.loop-word.invariant.2 cut
          (sym c.eq.ensures ∙ c.if-eq.false) c.named_after-named.ensures,
    )
