-- What the rules see of a judged expression of the code: its types are those of its rows, and its faults are told already.
use Rattle.std.specs.Prelude.{◌≡◌, ℕ, ◌<◌, List, [], length, Option, Some, None}
use Rattle.type_table.specs.declared.row.Row.{Row}
use Rattle.type_table.specs.TypeOf.{TypeOf}
use Rattle.type_table.specs.Rows.{type_at}
use Rattle.lar_typed.specs.declared.expr.TypedExpr.{TypedExpr}
use Rattle.lar_typed.specs.Exprs.{PlainExpr, expr_map}
use Rattle.lar_typed.specs.ExprView.{expr_view}
use Rattle.lar_typed.specs.Within.{ExprWithin}
use Rattle.lar_rules.specs.Judged as rules
use Rattle.lar_judge.specs.declared.judged.Judged.{Judged}

-- the expression with its types
abbrev pub expr_in : List Row → TypedExpr → PlainExpr
expr_in rows e = expr_map (type_at rows) (expr_view e)

abbrev pub typed_in : List Row → Option TypedExpr → Option PlainExpr
typed_in rows None = None
typed_in rows (Some e) = Some (expr_in rows e)

-- the types of the expression are rows of the table
abbrev pub TypedWithin : List Row → Option TypedExpr → Type 0
TypedWithin rows None = Unit {0}
TypedWithin rows (Some e) = ExprWithin (length rows) (expr_view e)

-- a type, where it is known
abbrev pub type_if : List Row → Option ℕ → Option TypeOf
type_if rows None = None
type_if rows (Some n) = Some (type_at rows n)

abbrev pub IfWithin : List Row → Option ℕ → Type 0
IfWithin rows None = Unit {0}
IfWithin rows (Some n) = n < length rows

abbrev pub known : List Row → Judged → rules.Judged
known rows j = record { at = j.at; typed = typed_in rows j.typed; faults = [] }

-- what is judged, without its faults
abbrev pub silent : rules.Judged → rules.Judged
silent d = record { at = d.at; typed = d.typed; faults = [] }

-- the code knows of an expression what the rules know
pub record Knows (rows : List Row) (j : Judged) (d : rules.Judged) : Type 0 where
  pub within : TypedWithin rows j.typed
  pub is : known rows j ≡ silent d
