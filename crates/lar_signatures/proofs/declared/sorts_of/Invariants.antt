use Rattle.std.proofs.Common.{◌≡◌, map, take}
use Rattle.lar_written.specs.Sites.{generic_view}
use Rattle.lar_signatures.proofs.declared.sorts_of.Given as goal

abbrev pub invariant-loop-generic : goal.invariant-loop-generic
invariant-loop-generic l = l.sorts.items ≡ map (λ g. g.sort) (map generic_view (take l.generic-index l.generics.list.items))
