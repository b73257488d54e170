use Rattle.std.proofs.Common.{◌≡◌, ◌++◌, drop}
use Rattle.lar_tree.specs.TypeView.{args_view, more_types_view, more_args_view}
use Rattle.lar_rules.specs.Structs.{mentions_of_others, mentions_of_args, mentions_of_more}
use Rattle.lar_written.specs.Sites.{site_view}
use Rattle.lar_depths.specs.Depths.{numbers}
use Rattle.lar_depths.proofs.mentioned.+mentioning.Given as goal

abbrev pub invariant-others_mentioned-loop-member : goal.invariant-others_mentioned-loop-member
invariant-others_mentioned-loop-member l =
    l.out.items ++ numbers (mentions_of_others (site_view l.site) (more_types_view (drop l.member-index l.members))) ≡ l.fn.out.items ++ numbers (mentions_of_others (site_view l.site) (more_types_view l.members))

abbrev pub invariant-args_mentioned-loop-member : goal.invariant-args_mentioned-loop-member
invariant-args_mentioned-loop-member l =
    l.out.items ++ numbers (mentions_of_more (site_view l.site) (more_args_view (drop l.member-index l.member-items))) ≡ l.fn.out.items ++ numbers (mentions_of_args (site_view l.site) (args_view l.args))
