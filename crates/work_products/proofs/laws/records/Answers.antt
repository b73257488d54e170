use Rattle.work_products.proofs.RecordShapes.{record-one, record-whole, record-sealed, record-changed, record_name-named}
use Rattle.work_products.proofs.laws.records.Goals as goal

pub returns-clause-one : goal.returns-clause-one
returns-clause-one c = record-one

pub returns-clause-whole : goal.returns-clause-whole
returns-clause-whole c = record-whole

pub returns-clause-sealed : goal.returns-clause-sealed
returns-clause-sealed c = record-sealed

pub returns-clause-changed : goal.returns-clause-changed
returns-clause-changed c = record-changed

pub returns-clause-names : goal.returns-clause-names
returns-clause-names c = record_name-named
