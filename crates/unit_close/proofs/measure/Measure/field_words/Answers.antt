use Rattle.unit_close.proofs.Offsets.{few_widths}
use Rattle.unit_close.proofs.measure.Measure.field_words.Goals as goal

pub first_words-requires-clause-few : goal.first_words-requires-clause-few
first_words-requires-clause-few c = few_widths _ _ _ _ _ _ c.requires.arguments c.as_slice.ensures.value c.in_ok-inner.ensures
