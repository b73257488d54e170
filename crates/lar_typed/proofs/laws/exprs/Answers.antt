use Rattle.lar_typed.proofs.ExprParts.{int_parts, truth_parts, local_parts, constant_parts, generic_parts, tuple_parts, made_parts, field_parts, unary_parts, binary_parts, call_parts, list_parts}
use Rattle.lar_typed.proofs.laws.exprs.Goals as goal

pub returns-clause-int : goal.returns-clause-int
returns-clause-int c = int_parts

pub returns-clause-truth : goal.returns-clause-truth
returns-clause-truth c = truth_parts

pub returns-clause-local : goal.returns-clause-local
returns-clause-local c = local_parts

pub returns-clause-constant : goal.returns-clause-constant
returns-clause-constant c = constant_parts

pub returns-clause-generic : goal.returns-clause-generic
returns-clause-generic c = generic_parts

pub returns-clause-tuple : goal.returns-clause-tuple
returns-clause-tuple c = tuple_parts

pub returns-clause-made : goal.returns-clause-made
returns-clause-made c = made_parts

pub returns-clause-part : goal.returns-clause-part
returns-clause-part c = field_parts

pub returns-clause-unary : goal.returns-clause-unary
returns-clause-unary c = unary_parts

pub returns-clause-binary : goal.returns-clause-binary
returns-clause-binary c = binary_parts

pub returns-clause-call : goal.returns-clause-call
returns-clause-call c = call_parts

pub returns-clause-list : goal.returns-clause-list
returns-clause-list c = list_parts
