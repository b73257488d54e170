use Rattle.std.proofs.Common.{◌≡◌, ◌++◌, drop}
use Rattle.lar_tree.specs.Commas.{commas_map}
use Rattle.lar_tree.specs.PlainLists.{values}
use Rattle.lar_tree.specs.ItemView.{field_view}
use Rattle.lar_rules.specs.Structs.{mentions_of_fields}
use Rattle.lar_written.specs.Sites.{site_view}
use Rattle.lar_written.proofs.MemberLists.{behind}
use Rattle.lar_depths.specs.Depths.{numbers}
use Rattle.lar_depths.proofs.graph.fields_mentioned.Given as goal

abbrev pub invariant-loop-more : goal.invariant-loop-more
invariant-loop-more l =
    l.out.items ++ numbers (mentions_of_fields (site_view l.site) (behind (drop l.more-index l.more-items))) ≡ l.fn.out.items ++ numbers (mentions_of_fields (site_view l.site) (values (commas_map field_view l.fields)))
