use Rattle.token_pool.proofs.Moves.{takes, accounts}
use Rattle.token_pool.proofs.queue.take_byte.Goals as goal

pub pop_as-requires-clause-rule : goal.pop_as-requires-clause-rule
pop_as-requires-clause-rule g c = (takes _ _ c.requires.live, accounts _ _)
