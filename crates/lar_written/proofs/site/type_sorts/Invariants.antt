use Rattle.std.proofs.Common.{◌≡◌}
use Rattle.lar_written.specs.Sites.{all_types}
use Rattle.lar_written.proofs.site.type_sorts.Given as goal

abbrev pub invariant-loop : goal.invariant-loop
invariant-loop l = l.sorts.items ≡ all_types l.counter
