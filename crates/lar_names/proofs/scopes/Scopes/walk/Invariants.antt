use Rattle.std.proofs.Common.{◌≡◌, ◌<◌, ◌++◌, ◌∷◌, length, map, drop}
use Rattle.lar_names.specs.Scopes.{list_at}
use Rattle.lar_names.proofs.scopes.Scopes.walk.Given as goal

-- the modules that are left, behind those of the scope, are all of them
abbrev pub invariant-loop-segment : goal.invariant-loop-segment
invariant-loop-segment l = record {
  bound : l.scope < length l.self;
  rest : list_at l.self l.scope ++ map (λ s. (s.name).text) (drop l.segment-index l.more) ≡ (l.first).text ∷ map (λ s. (s.name).text) l.more;
}
