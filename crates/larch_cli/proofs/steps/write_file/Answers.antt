use Rattle.std.proofs.Common.{true, false, ap}
use Rattle.scripts.proofs.Following.{writes, writes_none}
use Rattle.larch_cli.specs.Commands.{saved, reasons}
use Rattle.larch_cli.specs.declared.status.Status.TheVariants as status
use Rattle.larch_cli.proofs.Following.{ends, stops}
use Rattle.larch_cli.proofs.steps.write_file.Goals as goal

pub returns-in-Done : goal.returns-in-Done
returns-in-Done g c out err = writes reasons _ _ (saved c.args.name.now) (g.F.Files.told c.args.files.now) (g.F.Files.told c.write.new.self) true out err _ _ c.in-Done.ensures (ends _ _)

pub returns-in-Failed : goal.returns-in-Failed
returns-in-Failed g c out err = writes reasons _ _ (saved c.args.name.now) (g.F.Files.told c.args.files.now) (g.F.Files.told c.write.new.self) false out err _ _ c.in-Failed.ensures (stops _ _ _ _ (ap status.FileFault c.in_ok-written.ensures))

pub returns-in-Memory : goal.returns-in-Memory
returns-in-Memory g c out err = writes_none reasons _ _ _ (g.F.Files.told c.args.files.now) (g.F.Files.told c.write.new.self) out err c.in-Memory.ensures
