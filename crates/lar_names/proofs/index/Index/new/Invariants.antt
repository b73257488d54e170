use Rattle.std.proofs.Common.{◌≡◌, ℕ, List, length, None}
use Rattle.lar_names.specs.Tables.{look}
use Rattle.lar_names.proofs.index.Index.new.Given as goal

abbrev pub invariant-loop : goal.invariant-loop
invariant-loop l = record {
  count : length l.known.maps.items ≡ l.counter;
  none : (s : ℕ) (q : List ℕ) → look l.known.maps.items s q ≡ None;
}
