use Rattle.std.proofs.Common.{◌≡◌, ◌≤◌, take, drop, length, map, [], Result, List}
use Rattle.lar_source.specs.declared.file.File.{File}
use Rattle.scripts.specs.Following.{Follows}
use Rattle.scripts.specs.Outside.{Outside, seen}
use Rattle.sinks.specs.SinkState.{SinkState}
use Rattle.larch_cli.specs.Commands.{gather_sources, reasons}
use Rattle.larch_cli.specs.declared.status.Status.{Status}
use Rattle.larch_cli.proofs.sources.read_sources.Given as goal

-- Whatever follows the rest of the script from here follows all of it from the beginning.
abbrev pub invariant-loop-name : goal.invariant-loop-name
invariant-loop-name g l = record {
  within : l.name-index ≤ length l.names;
  named : map (λ f. f.name) l.sources.items ≡ take l.name-index l.names;
  leads : (out err : SinkState) (new : Outside) (result : Result (List File) Status)
      → Follows reasons (gather_sources l.left l.sources.items (drop l.name-index l.names)) (seen (g.F.Files.told l.files) out err) new result
      → Follows reasons (gather_sources 16777217 [] l.names) (seen (g.F.Files.told l.initial.files) out err) new result;
}
