use Rattle.std.proofs.Common.{◌≡◌, ◌∷◌, map, take}
use Rattle.lar_rules.specs.Generics.{generic_name}
use Rattle.lar_written.specs.Sites.{generic_view, type_name}
use Rattle.lar_written.proofs.generics.type_generics.Given as goal

abbrev pub invariant-loop-more : goal.invariant-loop-more
invariant-loop-more l = map generic_view l.list.items ≡ type_name l.names.first ∷ map (λ m. type_name m.value) (take l.more-index l.more-items)
