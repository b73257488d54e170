use Rattle.std.proofs.Common.{◌≡◌, ◌∷◌, map, take}
use Rattle.lar_judge.specs.Making.{names}
use Rattle.lar_exprs.proofs.names.list_names.Given as goal

abbrev pub invariant-loop-more : goal.invariant-loop-more
invariant-loop-more l = names l.out.items ≡ l.list.first.name ∷ map (λ m. (m.value).name) (take l.more-index l.more-items)
