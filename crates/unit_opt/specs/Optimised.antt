-- What the optimiser makes of a unit at each level.
use Rattle.std.specs.Prelude.{ℕ, zero, suc}
use Rattle.unit_ir.specs.Units.{PlainUnit}
use Rattle.opt_dead.specs.Dead.{dead_unit}
use Rattle.opt_inline.specs.Inline.{inlined_unit}
use Rattle.opt_known.specs.Known.{known_unit}
use Rattle.unit_opt.specs.Fold.{fold_unit}

-- constants folded, small functions put in place of their calls, folded again, known words used, folded again, dead stores dropped
abbrev pub all_passes : PlainUnit → PlainUnit
all_passes u = dead_unit (fold_unit (known_unit (fold_unit (inlined_unit (fold_unit u)))))

-- level 0 changes nothing, level 1 folds, and level 2 does all passes
abbrev pub optimised : ℕ → PlainUnit → PlainUnit
optimised zero u = u
optimised (suc zero) u = fold_unit u
optimised (suc (suc n)) u = all_passes u
