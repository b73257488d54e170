use Rattle.std.proofs.Common.{◌≡◌, ◌≤◌, vec_len, vec_capacity}
use Rattle.coord_run.proofs.books.no_parts.Given as goal

abbrev pub invariant-loop-unit : goal.invariant-loop-unit
invariant-loop-unit g l = (vec_len l.parts ≡ l.unit) × (l.n ≤ vec_capacity l.parts)
