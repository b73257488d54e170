use Rattle.std.proofs.Common.{ap}
use Rattle.scripts.specs.Script.{Bytes, Absent, Failed}
use Rattle.scripts.proofs.Following.{reads, reads_none}
use Rattle.larch_cli.specs.Commands.{found, reasons}
use Rattle.larch_cli.specs.declared.status.Status.TheVariants as status
use Rattle.larch_cli.proofs.Following.{ends, stops}
use Rattle.larch_cli.proofs.steps.read_file.Goals as goal

pub returns-in-Ok-Bytes : goal.returns-in-Ok-Bytes
returns-in-Ok-Bytes g c out err =
    reads reasons _ _ (found c.args.name.now) (g.F.Files.told c.args.files.now) (g.F.Files.told c.read.new.self) (Bytes c.in-Ok-Bytes.bytes) out err _ _ (rw c.in-Ok-Bytes.field-0-is at c.in-Ok-Bytes.ensures) (ends _ _)

pub returns-in-Ok-Absent : goal.returns-in-Ok-Absent
returns-in-Ok-Absent g c out err =
    reads reasons _ _ (found c.args.name.now) (g.F.Files.told c.args.files.now) (g.F.Files.told c.read.new.self) Absent out err _ _ (rw c.in-Ok-Absent.field-0-is at c.in-Ok-Absent.ensures) (stops _ _ _ _ (ap status.Absent c.in_ok-named.ensures))

pub returns-in-Ok-Failed : goal.returns-in-Ok-Failed
returns-in-Ok-Failed g c out err =
    reads reasons _ _ (found c.args.name.now) (g.F.Files.told c.args.files.now) (g.F.Files.told c.read.new.self) Failed out err _ _ (rw c.in-Ok-Failed.field-0-is at c.in-Ok-Failed.ensures) (stops _ _ _ _ (ap status.FileFault c.in_ok-named.ensures))

pub returns-in-Err : goal.returns-in-Err
returns-in-Err g c out err = reads_none reasons _ _ _ (g.F.Files.told c.args.files.now) (g.F.Files.told c.read.new.self) out err c.in-Err.ensures
