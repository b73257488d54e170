-- A list of typed statements that grows at its end.
use Rattle.std.specs.Prelude.{Option, Some, None}
use Rattle.lar_typed.specs.Stmts.{PlainStmt, PlainStmts, no_stmts, stmts}
use Rattle.lar_rules.specs.Bodies.{then_stmt}

abbrev pub one_last : PlainStmts → PlainStmt → PlainStmts
one_last no_stmts x = stmts x no_stmts
one_last (stmts s ss) x = stmts s (one_last ss x)

abbrev pub then_last : Option PlainStmts → Option PlainStmt → Option PlainStmts
then_last (Some ss) (Some x) = Some (one_last ss x)
then_last _ _ = None

-- the list of one statement
abbrev pub only_one : Option PlainStmt → Option PlainStmts
only_one x = then_stmt x (Some no_stmts)
