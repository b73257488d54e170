use Rattle.work_products.proofs.StoreLaws.{whole-record, whole-other, whole-long, whole-none, kept-found, pruned-get}
use Rattle.work_products.proofs.laws.stores.Goals as goal

pub returns-clause-whole : goal.returns-clause-whole
returns-clause-whole c = whole-record

pub returns-clause-other : goal.returns-clause-other
returns-clause-other c = whole-other

pub returns-clause-long : goal.returns-clause-long
returns-clause-long c = whole-long

pub returns-clause-none : goal.returns-clause-none
returns-clause-none c = whole-none

pub returns-clause-kept : goal.returns-clause-kept
returns-clause-kept c = kept-found

pub returns-clause-pruned : goal.returns-clause-pruned
returns-clause-pruned c = pruned-get
