use Rattle.larch_cli.proofs.Running.{prints}
use Rattle.larch_cli.proofs.run.print_run.Goals as goal

pub returns : goal.returns
returns g c files err = rw c.status_of_end.ensures (prints _ _ (g.S.Sink.told c.args.out.now) (g.S.Sink.told c.run-end.new.sink) files err c.run-end.ensures.leaves)
