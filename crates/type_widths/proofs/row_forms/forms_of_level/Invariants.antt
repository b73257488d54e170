use Rattle.type_widths.specs.Level.{AreDone}
use Rattle.type_widths.proofs.row_forms.forms_of_level.Given as goal

abbrev pub invariant-loop-number : goal.invariant-loop-number
invariant-loop-number l = AreDone l.types l.structs l.level l.number l.forms.items
