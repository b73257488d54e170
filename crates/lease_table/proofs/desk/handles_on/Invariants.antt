use Rattle.std.proofs.Common.{◌≡◌, ◌≤◌, vec_len, vec_capacity, All}
use Rattle.lease_table.proofs.desk.handles_on.Given as goal

abbrev pub invariant-loop-count : goal.invariant-loop-count
invariant-loop-count l = (vec_len l.handles ≡ l.count) × (64 ≤ vec_capacity l.handles) × All (λ h. h ≡ l.table) l.handles.items
