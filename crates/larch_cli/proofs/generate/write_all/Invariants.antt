use Rattle.std.proofs.Common.{◌≤◌, drop, length, Result}
use Rattle.scripts.specs.Following.{Follows}
use Rattle.scripts.specs.Outside.{Outside, seen}
use Rattle.sinks.specs.SinkState.{SinkState}
use Rattle.larch_cli.specs.Commands.{reasons, save_all}
use Rattle.larch_cli.specs.declared.status.Status.{Status}
use Rattle.larch_cli.proofs.generate.write_all.Given as goal

-- Whatever follows the rest of the script from here follows all of it from the beginning.
abbrev pub invariant-loop-source : goal.invariant-loop-source
invariant-loop-source g l = record {
  within : l.source-index ≤ length l.sources;
  leads : (out err : SinkState) (new : Outside) (result : Result (Unit {0}) Status)
      → Follows reasons (save_all (drop l.source-index l.sources)) (seen (g.F.Files.told l.files) out err) new result
      → Follows reasons (save_all l.sources) (seen (g.F.Files.told l.initial.files) out err) new result;
}
