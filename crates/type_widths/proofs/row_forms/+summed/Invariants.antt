use Rattle.std.proofs.Common.{length}
use Rattle.type_widths.proofs.row_forms.+summed.Given as goal

abbrev pub decreases-summed : goal.decreases-summed
decreases-summed l = length l.factors.now
