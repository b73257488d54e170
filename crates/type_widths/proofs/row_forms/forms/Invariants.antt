use Rattle.type_widths.specs.Level.{AreDone}
use Rattle.type_widths.proofs.row_forms.forms.Given as goal

abbrev pub invariant-loop-level : goal.invariant-loop-level
invariant-loop-level l = AreDone l.types l.structs l.level 0 l.forms.items
