-- The place of an assignment, in the numbers of a table.
use Rattle.std.specs.Prelude.{List, length, map, Option, Some, None}
use Rattle.type_table.specs.declared.row.Row.{Row}
use Rattle.type_table.specs.Rows.{type_at}
use Rattle.lar_typed.specs.Stmts.{step_map}
use Rattle.lar_typed.specs.StmtView.{step_view}
use Rattle.lar_typed.specs.Within.{StepsWithin}
use Rattle.lar_rules.specs.Bodies as rules
use Rattle.lar_stmts.specs.declared.target.Target.{Target}

abbrev pub target_in : List Row → Option Target → Option rules.Target
target_in rows None = None
target_in rows (Some t) = Some (t.local, map (step_map (type_at rows)) (map step_view t.steps))

-- its types are rows of the table
abbrev pub TargetWithin : List Row → Option Target → Type 0
TargetWithin rows None = Unit {0}
TargetWithin rows (Some t) = StepsWithin (length rows) (map step_view t.steps)
