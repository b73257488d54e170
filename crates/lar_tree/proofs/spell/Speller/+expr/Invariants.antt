use Rattle.std.proofs.Common.{◌≡◌, ◌++◌, drop, map}
use Rattle.lar_tree.specs.Commas.{member_map}
use Rattle.lar_tree.specs.ExprView.{expr_view, init_view, more_parts, more_inits}
use Rattle.lar_tree.specs.Exprs.{flat_more_parts, flat_more_inits}
use Rattle.lar_tree.specs.Spelling.{kinds}
use Rattle.lar_tree.proofs.spell.Speller.+expr.Given as goal

abbrev pub invariant-more_parts-loop-member : goal.invariant-more_parts-loop-member
invariant-more_parts-loop-member l = l.self.kinds.items ++ kinds (flat_more_parts (more_parts (map (member_map expr_view) (drop l.member-index l.members)))) ≡ l.initial.self.kinds.items ++ kinds (flat_more_parts (more_parts (map (member_map expr_view) l.members)))

abbrev pub invariant-more_inits-loop-member : goal.invariant-more_inits-loop-member
invariant-more_inits-loop-member l = l.self.kinds.items ++ kinds (flat_more_inits (more_inits (map (member_map init_view) (drop l.member-index l.members)))) ≡ l.initial.self.kinds.items ++ kinds (flat_more_inits (more_inits (map (member_map init_view) l.members)))
