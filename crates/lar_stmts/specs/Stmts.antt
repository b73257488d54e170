-- Typed statements of the code with their types.
use Rattle.std.specs.Prelude.{◌≡◌, List, length, Option, Some, None}
use Rattle.type_table.specs.declared.row.Row.{Row}
use Rattle.type_table.specs.Rows.{type_at}
use Rattle.lar_typed.specs.declared.stmt.TypedStmt.{TypedStmt}
use Rattle.lar_typed.specs.Stmts.{PlainStmt, PlainStmts, stmt_map, stmts_map}
use Rattle.lar_typed.specs.StmtView.{stmt_view, stmts_view}
use Rattle.lar_typed.specs.Within.{StmtWithin, StmtsWithin}

-- a statement with its types, where there is one
abbrev pub stmt_if : List Row → Option TypedStmt → Option PlainStmt
stmt_if rows None = None
stmt_if rows (Some s) = Some (stmt_map (type_at rows) (stmt_view s))

abbrev pub stmts_if : List Row → Option (List TypedStmt) → Option PlainStmts
stmts_if rows None = None
stmts_if rows (Some ss) = Some (stmts_map (type_at rows) (stmts_view ss))

-- its types are rows of the table
abbrev pub StmtIfWithin : List Row → Option TypedStmt → Type 0
StmtIfWithin rows None = Unit {0}
StmtIfWithin rows (Some s) = StmtWithin (length rows) (stmt_view s)

abbrev pub StmtsIfWithin : List Row → Option (List TypedStmt) → Type 0
StmtsIfWithin rows None = Unit {0}
StmtsIfWithin rows (Some ss) = StmtsWithin (length rows) (stmts_view ss)

-- the code knows of a statement what the rules know
pub record StmtIs (rows : List Row) (o : Option TypedStmt) (p : Option PlainStmt) : Type 0 where
  pub within : StmtIfWithin rows o
  pub is : stmt_if rows o ≡ p

pub record StmtsIs (rows : List Row) (o : Option (List TypedStmt)) (p : Option PlainStmts) : Type 0 where
  pub within : StmtsIfWithin rows o
  pub is : stmts_if rows o ≡ p
