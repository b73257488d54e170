use Rattle.std.proofs.Common.{length}
use Rattle.words.proofs.commands.+look.Given as goal

abbrev pub decreases-look : goal.decreases-look
decreases-look l = length l.given.now
