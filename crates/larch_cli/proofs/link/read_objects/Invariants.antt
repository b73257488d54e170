use Rattle.std.proofs.Common.{◌≤◌, drop, length, [], Ok, Result, List}
use Rattle.object_format.specs.Object.{Unlinked}
use Rattle.scripts.specs.Following.{Follows}
use Rattle.scripts.specs.Outside.{Outside, seen}
use Rattle.sinks.specs.SinkState.{SinkState}
use Rattle.larch_cli.specs.Commands.{gather, reasons}
use Rattle.larch_cli.specs.Steps.{objects_shown}
use Rattle.larch_cli.specs.declared.status.Status.{Status}
use Rattle.larch_cli.proofs.Gathering.{IsShort}
use Rattle.larch_cli.proofs.link.read_objects.Given as goal

-- Whatever follows the rest of the script from here follows all of it from the beginning.
abbrev pub invariant-loop-name : goal.invariant-loop-name
invariant-loop-name g l = record {
  within : l.name-index ≤ length l.names;
  short : IsShort l.name-index (objects_shown l.decoded);
  leads : (out err : SinkState) (new : Outside) (result : Result (List Unlinked) Status)
      → Follows reasons (gather (objects_shown l.decoded) (drop l.name-index l.names)) (seen (g.F.Files.told l.files) out err) new result
      → Follows reasons (gather (Ok []) l.names) (seen (g.F.Files.told l.initial.files) out err) new result;
}
