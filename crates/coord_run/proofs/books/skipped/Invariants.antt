use Rattle.std.proofs.Common.{◌≡◌, ◌≤◌, All, vec_len, vec_capacity}
use Rattle.coord_run.specs.declared.driven.Made.TheVariants.{Skipped}
use Rattle.coord_run.proofs.books.skipped.Given as goal

abbrev pub invariant-loop-unit : goal.invariant-loop-unit
invariant-loop-unit g l = (vec_len l.outcomes ≡ l.unit) × (l.n ≤ vec_capacity l.outcomes) × All (λ o. o ≡ Skipped) l.outcomes.items
