use Rattle.std.proofs.Common.{◌≡◌, ◌∷◌, take, string_bytes}
use Rattle.std.specs.Str.{IsAscii}
use Rattle.lar_rules.specs.Printed.{joined}
use Rattle.lar_written.proofs.Paths.{texts}
use Rattle.lar_written.proofs.fault.path_text.Given as goal

abbrev pub invariant-loop-segment : goal.invariant-loop-segment
invariant-loop-segment l = record {
  text : string_bytes l.text ≡ joined (l.path.first.text ∷ texts (take l.segment-index l.segment-items));
  ascii : IsAscii (string_bytes l.text);
}
