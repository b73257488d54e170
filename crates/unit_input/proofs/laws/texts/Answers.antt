use Rattle.unit_input.proofs.OneInput.{equal_texts, no_longer_text}
use Rattle.unit_input.proofs.laws.texts.Goals as goal

pub returns-clause-equal : goal.returns-clause-equal
returns-clause-equal c = equal_texts

pub returns-clause-whole : goal.returns-clause-whole
returns-clause-whole c = no_longer_text
