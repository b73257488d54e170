use Rattle.std.proofs.Common.{◌≡◌, ◌<◌, ◌^◌, drop}
use Rattle.object_format.specs.ObjectReading.{call_fault_in}
use Rattle.object_format.proofs.CallFaults.{end_place}
use Rattle.object_format.proofs.object_reading.call_fault_of.Given as goal

abbrev pub invariant-loop-function : goal.invariant-loop-function
invariant-loop-function l = record {
  within : end_place l.version l.place (drop l.function-index l.functions) < 2 ^ 64;
  same : call_fault_in l.version l.callees l.place (drop l.function-index l.functions) ≡ call_fault_in l.version l.callees l.at l.functions;
}
