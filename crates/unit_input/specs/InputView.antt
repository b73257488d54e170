-- The plain data that an input of the code stands for.
use Rattle.std.specs.Prelude.{ℕ, List, [], ◌∷◌, map}
use Rattle.unit_input.specs.declared.expr.UnitExpr.{UnitExpr}
use Rattle.unit_input.specs.declared.expr.UnitExpr.TheOpen.{UnitExpr-F}
use Rattle.unit_input.specs.declared.expr.UnitExpr.TheFolds.{fold-UnitExpr}
use Rattle.unit_input.specs.declared.stmt.UnitStmt.{UnitStmt}
use Rattle.unit_input.specs.declared.stmt.UnitStmt.TheOpen.{UnitStmt-F}
use Rattle.unit_input.specs.declared.stmt.UnitStmt.TheFolds.{fold-UnitStmt}
use Rattle.unit_input.specs.declared.function.UnitFn.{UnitFn}
use Rattle.unit_input.specs.declared.function.ExternalFn.{ExternalFn}
use Rattle.unit_input.specs.Exprs.{PlainExpr, int, truth, local, field, tuple, unary, binary, call, PlainExprs, no_exprs, exprs}
use Rattle.unit_input.specs.Stmts.{PlainStmt, declare, assign, fork, loop, give, print, assert, eval, PlainStmts, no_stmts, stmts}
use Rattle.unit_input.specs.Inputs.{PlainFn, PlainExternal, PlainInput}

abbrev pub exprs_of : List PlainExpr → PlainExprs
exprs_of [] = no_exprs
exprs_of (e ∷ es) = exprs e (exprs_of es)

abbrev pub expr_step : UnitExpr-F PlainExpr → PlainExpr
expr_step (UnitExpr-F.Int v) = int v
expr_step (UnitExpr-F.Bool b) = truth b
expr_step (UnitExpr-F.Local n) = local n
expr_step (UnitExpr-F.Field e o w) = field e o w
expr_step (UnitExpr-F.Tuple es) = tuple (exprs_of es)
expr_step (UnitExpr-F.Unary op e) = unary op e
expr_step (UnitExpr-F.Binary op a b) = binary op a b
expr_step (UnitExpr-F.Call k es) = call k (exprs_of es)

abbrev pub expr_view : UnitExpr → PlainExpr
expr_view = fold-UnitExpr PlainExpr expr_step

abbrev pub exprs_view : List UnitExpr → PlainExprs
exprs_view es = exprs_of (map expr_view es)

abbrev pub stmts_of : List PlainStmt → PlainStmts
stmts_of [] = no_stmts
stmts_of (s ∷ ss) = stmts s (stmts_of ss)

abbrev pub stmt_step : UnitStmt-F PlainStmt → PlainStmt
stmt_step (UnitStmt-F.Let n e) = declare n (expr_view e)
stmt_step (UnitStmt-F.Assign n o w e) = assign n o w (expr_view e)
stmt_step (UnitStmt-F.If e a b) = fork (expr_view e) (stmts_of a) (stmts_of b)
stmt_step (UnitStmt-F.While e a) = loop (expr_view e) (stmts_of a)
stmt_step (UnitStmt-F.Return e) = give (expr_view e)
stmt_step (UnitStmt-F.Print e) = print (expr_view e)
stmt_step (UnitStmt-F.Assert e) = assert (expr_view e)
stmt_step (UnitStmt-F.Eval e) = eval (expr_view e)

abbrev pub stmt_view : UnitStmt → PlainStmt
stmt_view = fold-UnitStmt PlainStmt stmt_step

abbrev pub stmts_view : List UnitStmt → PlainStmts
stmts_view ss = stmts_of (map stmt_view ss)

abbrev pub fn_view : UnitFn → PlainFn
fn_view f = record { symbol = f.symbol; external = f.external; «result» = f.result; params = f.params; locals = f.locals; body = stmts_view f.body }

abbrev pub external_view : ExternalFn → PlainExternal
external_view x = record { symbol = x.symbol; params = x.params; «result» = x.result }

-- what contracts see of an input
pub record InputParts : Type 0 where
  pub level : ℕ
  pub functions : List UnitFn
  pub externals : List ExternalFn

abbrev pub input_view : InputParts → PlainInput
input_view x = record { level = x.level; functions = map fn_view x.functions; externals = map external_view x.externals }
