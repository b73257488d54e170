use Rattle.std.proofs.Common.{map, take}
use Rattle.type_table.specs.Rows.{Keeps}
use Rattle.lar_names.specs.Items.{struct_item}
use Rattle.lar_names.specs.NamesView.{names_view, scope_lists}
use Rattle.lar_names.specs.Numbered.{struct_at}
use Rattle.lar_signatures.specs.EachStands.{EachStands}
use Rattle.lar_signatures.specs.Signatures.{DeclStands}
use Rattle.lar_signatures.proofs.declared.declared_structs.Given as goal

abbrev pub invariant-loop-number : goal.invariant-loop-number
invariant-loop-number l = record {
  kept : Keeps l.fn.types l.types;
  of : EachStands (λ n d p. DeclStands l.types (names_view l.names) d (struct_at n p)) 0 l.out (map (struct_item (scope_lists l.names)) (take l.number l.item-items));
}
