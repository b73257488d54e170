use Rattle.std.proofs.Common.{inl}
use Rattle.scripts.proofs.Following.{puts_out, puts_out_wanted, puts_out_fell}
use Rattle.larch_cli.specs.Commands.{reasons}
use Rattle.larch_cli.proofs.Following.{ends}
use Rattle.larch_cli.proofs.steps.put_text.Goals as goal

pub returns-in-Done : goal.returns-in-Done
returns-in-Done g c files err = puts_out reasons _ _ (g.S.Sink.told c.args.out.now) (g.S.Sink.told c.put_all.new.sink) files err _ _ c.in-Done.ensures (ends _ _)

pub returns-in-Failed : goal.returns-in-Failed
returns-in-Failed g c files err = puts_out_fell reasons _ _ (g.S.Sink.told c.args.out.now) (g.S.Sink.told c.put_all.new.sink) files err c.in-Failed.ensures

pub returns-in-Memory : goal.returns-in-Memory
returns-in-Memory g c files err = puts_out_wanted reasons _ _ (g.S.Sink.told c.args.out.now) (g.S.Sink.told c.put_all.new.sink) files err (inl c.in-Memory.ensures)
