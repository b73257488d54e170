use Rattle.std.proofs.Common.{◌≡◌}
use Rattle.token_rounds.proofs.rounds.lease_rounds.Given as goal

abbrev pub invariant-loop : goal.invariant-loop
invariant-loop l = (l.desk.held ≡ 0) × (l.desk.share ≡ 1)
