use Rattle.type_table.proofs.Remembered.{memo_kept}
use Rattle.type_table.proofs.types.Types.intern.Goals as goal

pub invariant_of-self : goal.invariant_of-self
invariant_of-self c = memo_kept c.self.inside.table c.intern.new.self c.self.inside.known c.intern.ensures.kept c.self.invariant
