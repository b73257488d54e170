use Rattle.lar_rules.specs.Twice.{twice}
use Rattle.lar_names.proofs.IndexFacts.{told_taken, told_free}
use Rattle.lar_names.proofs.index.tell.Goals as goal

pub returns-in_ok-note_name : goal.returns-in_ok-note_name
returns-in_ok-note_name c = told_taken c.args.first.now c.note_name.new.self (twice c.args.file c.args.name.now) c.args.taken c.if-taken.true c.in_ok-note_name.ensures.ok

pub returns-else-taken : goal.returns-else-taken
returns-else-taken c = told_free c.args.first.now (twice c.args.file c.args.name.now) c.args.taken c.if-taken.false
