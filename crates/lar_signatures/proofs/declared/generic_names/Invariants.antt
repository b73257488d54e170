use Rattle.std.proofs.Common.{◌≡◌, map, take}
use Rattle.lar_written.specs.Names.{names}
use Rattle.lar_written.specs.Sites.{generic_view}
use Rattle.lar_signatures.proofs.declared.generic_names.Given as goal

abbrev pub invariant-loop-generic : goal.invariant-loop-generic
invariant-loop-generic l = names l.names.items ≡ map (λ g. g.name) (map generic_view (take l.generic-index l.generics.list.items))
