-- How many members a list has, counted on plain data and in the code.
use Rattle.std.proofs.Common.{◌≡◌, List, [], ◌∷◌, suc, length, refl, ap}
use Rattle.unit_input.specs.declared.expr.UnitExpr.{UnitExpr}
use Rattle.unit_input.specs.declared.stmt.UnitStmt.{UnitStmt}
use Rattle.unit_input.specs.Exprs.{expr_count}
use Rattle.unit_input.specs.Stmts.{stmt_count}
use Rattle.unit_input.specs.InputView.{exprs_view, stmts_view}

pub members : (es : List UnitExpr) → expr_count (exprs_view es) ≡ length es
members [] = refl
members (e ∷ es) = ap suc (members es)

pub stmt_members : (ss : List UnitStmt) → stmt_count (stmts_view ss) ≡ length ss
stmt_members [] = refl
stmt_members (s ∷ ss) = ap suc (stmt_members ss)
