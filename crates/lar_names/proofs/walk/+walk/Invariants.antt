use Rattle.std.proofs.Common.{drop}
use Rattle.lar_tree.specs.ItemView.{items_view}
use Rattle.lar_names.specs.Scopes.{Grows, list_at}
use Rattle.lar_names.proofs.WalkFacts.{SoFar}
use Rattle.lar_names.proofs.walk.+walk.Given as goal

abbrev pub invariant-items-loop-one : goal.invariant-items-loop-one
invariant-items-loop-one l = record {
  grown : Grows l.fn.found.scopes l.found.scopes;
  so_far : SoFar l.spot.file (list_at l.fn.found.scopes l.spot.scope) l.spot.hidden (items_view l.items) (items_view (drop l.one-index l.items)) l.earlier l.fn.found.declared.items l.found.declared.items l.found.scopes;
}
