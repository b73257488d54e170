use Rattle.lar_typed.proofs.StmtParts.{let_parts, assign_parts, step_parts, fork_parts, loop_parts, nothing_parts, value_parts, print_parts, assert_parts, eval_parts, block_parts}
use Rattle.lar_typed.proofs.laws.stmts.Goals as goal

pub returns-clause-let_local : goal.returns-clause-let_local
returns-clause-let_local c = let_parts

pub returns-clause-assign : goal.returns-clause-assign
returns-clause-assign c = assign_parts

pub returns-clause-step : goal.returns-clause-step
returns-clause-step c = step_parts

pub returns-clause-fork : goal.returns-clause-fork
returns-clause-fork c = fork_parts

pub returns-clause-repeated : goal.returns-clause-repeated
returns-clause-repeated c = loop_parts

pub returns-clause-return_nothing : goal.returns-clause-return_nothing
returns-clause-return_nothing c = nothing_parts

pub returns-clause-return_value : goal.returns-clause-return_value
returns-clause-return_value c = value_parts

pub returns-clause-print : goal.returns-clause-print
returns-clause-print c = print_parts

pub returns-clause-assert : goal.returns-clause-assert
returns-clause-assert c = assert_parts

pub returns-clause-eval : goal.returns-clause-eval
returns-clause-eval c = eval_parts

pub returns-clause-block : goal.returns-clause-block
returns-clause-block c = block_parts
