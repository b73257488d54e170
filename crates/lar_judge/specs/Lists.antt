-- Lists of judged expressions in the numbers of a table.
use Rattle.std.specs.Prelude.{List, [], ◌∷◌, length, map, Option, Some, None}
use Rattle.type_table.specs.declared.row.Row.{Row}
use Rattle.type_table.specs.Rows.{type_at}
use Rattle.lar_typed.specs.declared.expr.TypedExpr.{TypedExpr}
use Rattle.lar_typed.specs.Exprs.{PlainExprs, exprs_map}
use Rattle.lar_typed.specs.ExprView.{exprs_view}
use Rattle.lar_typed.specs.Within.{ExprsWithin}
use Rattle.lar_rules.specs.Judged as rules
use Rattle.lar_judge.specs.declared.judged.Judged.{Judged}
use Rattle.lar_judge.specs.Known.{TypedWithin, known, silent}

-- expressions with their types
abbrev pub exprs_in : List Row → List TypedExpr → PlainExprs
exprs_in rows es = exprs_map (type_at rows) (exprs_view es)

abbrev pub all_in : List Row → Option (List TypedExpr) → Option PlainExprs
all_in rows None = None
all_in rows (Some es) = Some (exprs_in rows es)

abbrev pub ExprsAreWithin : List Row → List TypedExpr → Type 0
ExprsAreWithin rows es = ExprsWithin (length rows) (exprs_view es)

abbrev pub AllWithin : List Row → Option (List TypedExpr) → Type 0
AllWithin rows None = Unit {0}
AllWithin rows (Some es) = ExprsAreWithin rows es

abbrev pub JudgedWithin : List Row → List Judged → Type 0
JudgedWithin rows [] = Unit {0}
JudgedWithin rows (j ∷ js) = TypedWithin rows j.typed × JudgedWithin rows js

-- what the rules see of them
abbrev pub knowns : List Row → List Judged → List rules.Judged
knowns rows js = map (known rows) js

abbrev pub silents : List rules.Judged → List rules.Judged
silents ds = map silent ds
