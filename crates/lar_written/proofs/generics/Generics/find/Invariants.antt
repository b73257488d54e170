use Rattle.std.proofs.Common.{◌≡◌, map, drop}
use Rattle.lar_rules.specs.Generics.{generic_from}
use Rattle.lar_written.specs.Sites.{generic_view, generics_view}
use Rattle.lar_written.proofs.generics.Generics.find.Given as goal

abbrev pub invariant-loop-place : goal.invariant-loop-place
invariant-loop-place l = generic_from l.place l.name (map generic_view (drop l.place l.self.list.items)) ≡ generic_from 0 l.name (generics_view l.self)
