use Rattle.std.proofs.Common.{subst as transport, sym, List}
use Rattle.type_table.specs.declared.row.Row.{Row}
use Rattle.type_table.specs.Memo.{Replaces}
use Rattle.type_table.proofs.Remembered.{memo_learnt, memo_same}
use Rattle.type_table.proofs.types.Types.learn.Goals as goal

pub invariant_of-self : goal.invariant_of-self
invariant_of-self c = memo_same c.self.inside.table c.self.inside.known c.insert.new.self c.in_err-insert.ensures.err c.self.invariant

pub invariant_of-self-2 : goal.invariant_of-self-2
invariant_of-self-2 c = memo_learnt c.self.inside.table c.self.inside.known c.insert.new.self (c.args.ty, c.args.arguments) c.args.number c.self.invariant (transport (λ (rows : List Row). Replaces rows (c.args.ty, c.args.arguments) c.args.number) (sym c.self.view_is) c.requires) c.in_ok-insert.ensures.updates.0
