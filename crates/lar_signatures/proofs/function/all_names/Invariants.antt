use Rattle.std.proofs.Common.{◌≡◌, ◌++◌, map, take}
use Rattle.lar_written.specs.Names.{names}
use Rattle.lar_written.specs.Sites.{generics_view}
use Rattle.lar_signatures.proofs.function.all_names.Given as goal

abbrev pub invariant-loop-name : goal.invariant-loop-name
invariant-loop-name l = names l.all.items ≡ map (λ g. g.name) (generics_view l.generics) ++ names (take l.name-index l.name-items)
