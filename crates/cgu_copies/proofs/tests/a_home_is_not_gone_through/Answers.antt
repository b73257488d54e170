use Rattle.std.specs.List.{IsDistinct}
use Rattle.cgu_copies.proofs.tests.a_home_is_not_gone_through.Goals as goal

pub copies-requires-clause-once : goal.copies-requires-clause-once
unfolding IsDistinct
copies-requires-clause-once g c = (tt, tt)
