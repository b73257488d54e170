use Rattle.std.proofs.Common.{◌≡◌, None, take, drop}
use Rattle.symbol_link.specs.Faults.{undefined_from}
use Rattle.symbol_link.specs.Found.{found}
use Rattle.symbol_link.specs.Linked.{functions_from}
use Rattle.symbol_link.proofs.placing.place_all.Given as goal

abbrev pub invariant-loop-object : goal.invariant-loop-object
invariant-loop-object l = record {
  placed : l.functions ≡ functions_from (found l.definitions) 0 (take l.object-index l.objects);
  defined : undefined_from (found l.definitions) l.object-index (drop l.object-index l.objects) ≡ None;
}
