use Rattle.std.proofs.Common.{◌≡◌, map, take}
use Rattle.lar_written.specs.Sites.{generic_view}
use Rattle.lar_site.proofs.printing.generic_texts.Given as goal

abbrev pub invariant-loop-generic : goal.invariant-loop-generic
invariant-loop-generic l = l.texts.items ≡ map (λ g. g.name.text) (map generic_view (take l.generic-index l.generic-items))
