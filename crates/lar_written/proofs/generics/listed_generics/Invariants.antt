use Rattle.std.proofs.Common.{◌≡◌, ◌∷◌, map, take}
use Rattle.lar_rules.specs.Generics.{generic_name}
use Rattle.lar_written.specs.Sites.{generic_view, type_name}
use Rattle.lar_written.proofs.generics.listed_generics.Given as goal

abbrev pub invariant-loop-more : goal.invariant-loop-more
invariant-loop-more l = map generic_view l.list.items ≡ generic_name l.generics.first ∷ map (λ m. generic_name m.value) (take l.more-index l.more-items)
