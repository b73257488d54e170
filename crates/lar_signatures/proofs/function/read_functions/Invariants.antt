use Rattle.std.proofs.Common.{◌≡◌, map, take, drop}
use Rattle.type_table.specs.Rows.{Keeps}
use Rattle.lar_rules.specs.Fault.{least}
use Rattle.lar_names.specs.Items.{function_item}
use Rattle.lar_names.specs.NamesView.{names_view, scope_lists}
use Rattle.lar_names.specs.Numbered.{function_at}
use Rattle.lar_signatures.specs.EachStands.{EachStands}
use Rattle.lar_signatures.specs.Noted.{faults_of_all, faults_of_head}
use Rattle.lar_signatures.specs.Signatures.{FunctionStands}
use Rattle.lar_signatures.proofs.function.read_functions.Given as goal

abbrev pub invariant-loop-item : goal.invariant-loop-item
invariant-loop-item l = record {
  kept : Keeps l.fn.types l.types;
  of : EachStands (λ n f p. FunctionStands l.types (names_view l.names) f (function_at n p)) 0 l.out.items (map (function_item (scope_lists l.names)) (take l.item-index l.item-items));
  told : least l.first (faults_of_all (faults_of_head (names_view l.names)) l.item-index (map (function_item (scope_lists l.names)) (drop l.item-index l.item-items))) ≡ least l.fn.first (faults_of_all (faults_of_head (names_view l.names)) 0 (map (function_item (scope_lists l.names)) l.item-items));
}
