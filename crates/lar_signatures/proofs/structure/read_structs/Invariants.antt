use Rattle.std.proofs.Common.{◌≡◌, map, take, drop}
use Rattle.type_table.specs.Rows.{Keeps}
use Rattle.lar_rules.specs.Fault.{least}
use Rattle.lar_names.specs.Items.{struct_item}
use Rattle.lar_names.specs.NamesView.{names_view, scope_lists}
use Rattle.lar_names.specs.Numbered.{struct_at}
use Rattle.lar_signatures.specs.EachStands.{EachStands}
use Rattle.lar_signatures.specs.Noted.{faults_of_all, faults_of_struct}
use Rattle.lar_signatures.specs.Signatures.{StructStands}
use Rattle.lar_signatures.proofs.structure.read_structs.Given as goal

abbrev pub invariant-loop-number : goal.invariant-loop-number
invariant-loop-number l = record {
  kept : Keeps l.fn.types l.types;
  of : EachStands (λ n s p. StructStands l.types (names_view l.names) s (struct_at n p)) 0 l.out.items (map (struct_item (scope_lists l.names)) (take l.number l.item-items));
  told : least l.first (faults_of_all (faults_of_struct (names_view l.names)) l.number (map (struct_item (scope_lists l.names)) (drop l.number l.item-items))) ≡ least l.fn.first (faults_of_all (faults_of_struct (names_view l.names)) 0 (map (struct_item (scope_lists l.names)) l.item-items));
}
