use Rattle.lar_typed.proofs.ExprsKept.{expr_kept, exprs_kept}
use Rattle.lar_typed.proofs.StmtsKept.{steps_kept, stmt_kept, stmts_kept, function_kept, tree_kept}
use Rattle.lar_typed.proofs.laws.kept.Goals as goal

pub returns-clause-exprs : goal.returns-clause-exprs
returns-clause-exprs c = expr_kept

pub returns-clause-lists : goal.returns-clause-lists
returns-clause-lists c = exprs_kept

pub returns-clause-steps : goal.returns-clause-steps
returns-clause-steps c = steps_kept

pub returns-clause-stmts : goal.returns-clause-stmts
returns-clause-stmts c = stmt_kept

pub returns-clause-blocks : goal.returns-clause-blocks
returns-clause-blocks c = stmts_kept

pub returns-clause-functions : goal.returns-clause-functions
returns-clause-functions c = function_kept

pub returns-clause-trees : goal.returns-clause-trees
returns-clause-trees c = tree_kept
