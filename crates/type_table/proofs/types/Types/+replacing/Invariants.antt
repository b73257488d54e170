use Rattle.std.proofs.Common.{◌+◌, ◌*◌}
use Rattle.type_table.proofs.types.Types.+replacing.Given as goal

abbrev pub decreases-substitute : goal.decreases-substitute
decreases-substitute l = 2 * l.ty + 1

abbrev pub decreases-replaced : goal.decreases-replaced
decreases-replaced l = 2 * l.ty
