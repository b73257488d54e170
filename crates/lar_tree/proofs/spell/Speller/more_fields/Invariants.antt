use Rattle.std.proofs.Common.{◌≡◌, ◌++◌, drop, map}
use Rattle.lar_tree.specs.Commas.{member_map, flat_members}
use Rattle.lar_tree.specs.ItemView.{field_view}
use Rattle.lar_tree.specs.Items.{flat_field}
use Rattle.lar_tree.specs.Spelling.{kinds}
use Rattle.lar_tree.proofs.spell.Speller.more_fields.Given as goal

abbrev pub invariant-loop-member : goal.invariant-loop-member
invariant-loop-member l = l.self.kinds.items ++ kinds (flat_members flat_field (map (member_map field_view) (drop l.member-index l.members))) ≡ l.initial.self.kinds.items ++ kinds (flat_members flat_field (map (member_map field_view) l.members))
