-- What the code answers for statements. This is of the code alone.
use Rattle.std.specs.Prelude.{ℕ, Bool, ◌||◌, List, [], ◌∷◌, ◌++◌, Option, Some, None}
use Rattle.unit_input.specs.Stmts as input
use Rattle.unit_input.specs.Widths.{Scope}
use Rattle.unit_ir.specs.declared.stmt.IrStmt.{IrStmt}
use Rattle.unit_ir.specs.Stmts.{PlainStmt}
use Rattle.unit_ir.specs.StmtView.{stmt_view}
use Rattle.unit_lower.specs.Wide.{is_over, is_wide_stmt, are_wide_stmts}
use Rattle.unit_lower.specs.Lowering.{lower_stmt, lower_stmts}

-- a statement that may be left out
abbrev pub stmt_if : Option IrStmt → Option PlainStmt
stmt_if None = None
stmt_if (Some s) = Some (stmt_view s)

-- a list with one more statement, where it is not left out
abbrev pub with_one : List IrStmt → Option IrStmt → List IrStmt
with_one made None = made
with_one made (Some x) = made ++ x ∷ []

-- something in a statement is too wide, or there are too many slots after it
abbrev pub is_over_stmt : Scope → input.PlainStmt → ℕ → Bool
is_over_stmt s x k = is_wide_stmt s x || is_over (lower_stmt s x k).next

-- the same of the statements of a block
abbrev pub are_over_stmts : Scope → input.PlainStmts → ℕ → Bool
are_over_stmts s xs k = are_wide_stmts s xs || is_over (lower_stmts s xs k).next
