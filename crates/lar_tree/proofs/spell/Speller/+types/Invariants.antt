use Rattle.std.proofs.Common.{◌≡◌, ◌++◌, drop}
use Rattle.lar_tree.specs.TypeView.{more_types_view, more_args_view}
use Rattle.lar_tree.specs.Types.{flat_types, flat_more_args}
use Rattle.lar_tree.specs.Spelling.{kinds}
use Rattle.lar_tree.proofs.spell.Speller.+types.Given as goal

abbrev pub invariant-more_types-loop-member : goal.invariant-more_types-loop-member
invariant-more_types-loop-member l = l.self.kinds.items ++ kinds (flat_types (more_types_view (drop l.member-index l.members))) ≡ l.initial.self.kinds.items ++ kinds (flat_types (more_types_view l.members))

abbrev pub invariant-more_args-loop-member : goal.invariant-more_args-loop-member
invariant-more_args-loop-member l = l.self.kinds.items ++ kinds (flat_more_args (more_args_view (drop l.member-index l.members))) ≡ l.initial.self.kinds.items ++ kinds (flat_more_args (more_args_view l.members))
