use Rattle.scripts.proofs.Following.{puts_out, puts_out_wanted, puts_out_fell}
use Rattle.larch_cli.specs.Commands.{reasons}
use Rattle.larch_cli.proofs.Following.{ends}
use Rattle.larch_cli.proofs.sending.put_listing.Goals as goal

pub returns-in-Ok : goal.returns-in-Ok
returns-in-Ok g c files err = puts_out reasons _ _ (g.S.Sink.told c.args.out.now) (g.S.Sink.told c.put_parts.new.out) files err _ _ c.in-Ok.ensures (ends _ _)

pub returns-in-Err-Failed : goal.returns-in-Err-Failed
returns-in-Err-Failed g c files err = puts_out_fell reasons _ _ (g.S.Sink.told c.args.out.now) (g.S.Sink.told c.put_parts.new.out) files err (rw c.in-Err-Failed.field-0-is at c.in-Err-Failed.ensures)

pub returns-in-Err-Memory : goal.returns-in-Err-Memory
returns-in-Err-Memory g c files err = puts_out_wanted reasons _ _ (g.S.Sink.told c.args.out.now) (g.S.Sink.told c.put_parts.new.out) files err (rw c.in-Err-Memory.field-0-is at c.in-Err-Memory.ensures)
