use Rattle.std.proofs.Common.{◌≡◌, ◌∷◌, map, take, drop}
use Rattle.lar_tree.specs.ItemView.{field_view}
use Rattle.type_table.specs.Rows.{Keeps}
use Rattle.lar_rules.specs.Fault.{least}
use Rattle.lar_rules.specs.Signatures.{member}
use Rattle.lar_rules.specs.Structs.{field_faults}
use Rattle.lar_written.specs.Members.{MembersStand}
use Rattle.lar_written.specs.Sites.{site_view}
use Rattle.lar_written.proofs.MemberLists.{behind}
use Rattle.lar_written.proofs.members.list_members.Given as goal

abbrev pub invariant-loop-more : goal.invariant-loop-more
invariant-loop-more l = record {
  kept : Keeps l.fn.types l.types;
  of : MembersStand l.types l.out.items (map (member (site_view l.site)) (field_view l.list.first ∷ behind (take l.more-index l.more-items)));
  told : least l.first (field_faults (site_view l.site) (behind (drop l.more-index l.more-items))) ≡ least l.fn.first (field_faults (site_view l.site) (field_view l.list.first ∷ behind l.more-items));
}
