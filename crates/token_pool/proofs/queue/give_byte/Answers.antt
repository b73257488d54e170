use Rattle.token_pool.proofs.Moves.{gives, has_room}
use Rattle.token_pool.proofs.queue.give_byte.Goals as goal

pub push_as-requires-clause-rule : goal.push_as-requires-clause-rule
push_as-requires-clause-rule g c = (gives _ _ _ _ c.requires.live c.requires.owed, has_room _ _ c.requires.live)
