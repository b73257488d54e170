use Rattle.closed_input.proofs.Listed.{named_inside, named_once, callee_named}
use Rattle.closed_input.proofs.laws.lists.Goals as goal

pub returns-clause-inside : goal.returns-clause-inside
returns-clause-inside c = named_inside

pub returns-clause-once : goal.returns-clause-once
returns-clause-once c = named_once

pub returns-clause-called : goal.returns-clause-called
returns-clause-called c = λ tree graph plan i p q is planned at h. callee_named tree graph plan is planned i p q at h
