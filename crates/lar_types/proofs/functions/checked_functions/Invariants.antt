use Rattle.std.proofs.Common.{◌≡◌, map, take, drop}
use Rattle.type_table.specs.Rows.{Keeps}
use Rattle.lar_rules.specs.Fault.{least}
use Rattle.lar_names.specs.Items.{function_item}
use Rattle.lar_names.specs.NamesView.{names_view, scope_lists}
use Rattle.lar_assembled.specs.Programs.{FunctionsStand}
use Rattle.lar_types.specs.Bodies.{faults_of_body, faults_of_all, typed_of}
use Rattle.lar_types.proofs.functions.checked_functions.Given as goal

abbrev pub invariant-loop-number : goal.invariant-loop-number
invariant-loop-number l = record {
  kept : Keeps l.fn.types l.types;
  of : FunctionsStand l.types l.out.items (typed_of (names_view l.names) 0 (map (function_item (scope_lists l.names)) (take l.number l.items)));
  told : least l.first (faults_of_all (faults_of_body (names_view l.names)) l.number (map (function_item (scope_lists l.names)) (drop l.number l.items)))
      ≡ least l.fn.first (faults_of_all (faults_of_body (names_view l.names)) 0 (map (function_item (scope_lists l.names)) l.items));
}
